use Rattle.std.proofs.Common.{subst, sym}
use Rattle.peano_run.specs.declared.ending.Ending.{Ending}
use Rattle.peano_run.specs.Served.{Demonstrates}
use Rattle.peano_run.proofs.demo.demonstrated.Goals as goal

pub returns-in-Ok-write_whole-clause-demonstrates : goal.returns-in-Ok-write_whole-clause-demonstrates
returns-in-Ok-write_whole-clause-demonstrates g c =
    let taken = g.K.Sink.taken in
    let whole = rw c.as_slice.ensures.value at c.in-Ok-write_whole.ensures.whole in
    subst (λ (e : Ending). Demonstrates c.args.number e.answer (taken c.args.out.now) (taken c.write_whole.new.sink)) (sym c.with.ensures)
    (record { output = (c.in-Ok.text.items, c.in-Ok.ensures.text, whole); answers = tt })

pub returns-clause-demonstrates : goal.returns-clause-demonstrates
returns-clause-demonstrates g c =
    let taken = g.K.Sink.taken in
    let part = rw c.as_slice.ensures.value at c.in-Err.ensures.part in
    let written = rw c.as_slice.ensures.value at c.in-Err.ensures.written in
    subst (λ (e : Ending). Demonstrates c.args.number e.answer (taken c.args.out.now) (taken c.write_whole.new.sink)) (sym c.with-in-Err.ensures)
    (record { output = (c.in-Ok.text.items, c.in-Ok.ensures.text, part, written); answers = tt })
