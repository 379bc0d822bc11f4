use Rattle.std.proofs.Common.{ℕ, List, ◌∙◌, subst}
use Rattle.peano_run.specs.Run.{Tells}
use Rattle.peano_run.proofs.top.run.Goals as goal

pub returns-clause-text : goal.returns-clause-text
returns-clause-text g c =
    let taken = g.E.Sink.taken in
    let faults = g.E.Sink.faults in
    let Told : List ℕ → Type 0 = λ text. Tells text (taken c.args.err.now) (taken c.tell.new.err) (faults c.args.err.now) (faults c.tell.new.err) in
    record {
      dim = c.ended-ending.result.dim;
      named = c.ended-ending.ensures.named;
      told = subst Told (c.as_slice.ensures.value ∙ c.refusal_text.ensures) c.tell.ensures;
    }
