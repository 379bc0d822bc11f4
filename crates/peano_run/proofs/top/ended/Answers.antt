use Rattle.std.proofs.Common.{map, string_bytes, refl, subst}
use Rattle.peano_run.specs.declared.asked.Asked.{Asked}
use Rattle.peano_run.specs.Served.{Serves, Leaves}
use Rattle.peano_run.proofs.Answered.{no_world}
use Rattle.peano_run.proofs.AskedFor.{one_asked}
use Rattle.peano_run.proofs.top.ended.Goals as goal

pub returns-in-Ok-clause-serves : goal.returns-in-Ok-clause-serves
returns-in-Ok-clause-serves g c asked asks =
    let source = g.S.Source in
    let taken = g.K.Sink.taken in
    subst (λ (a : Asked). Serves a c.served.result.answer (source.left c.args.input.now) (source.left c.served.new.input) (source.ended c.served.new.input) (taken c.args.out.now) (taken c.served.new.out))
    (one_asked (map string_bytes c.args.words.now) c.in-Ok.asked asked c.in-Ok.ensures.ok asks) c.served.ensures.serves

pub returns-in-Ok-clause-world : goal.returns-in-Ok-clause-world
returns-in-Ok-clause-world g c asked asks =
    subst (λ (a : Asked). Leaves a c.served.result.answer (g.S.Source.left c.args.input.now) c.served.result.world)
    (one_asked (map string_bytes c.args.words.now) c.in-Ok.asked asked c.in-Ok.ensures.ok asks) c.served.ensures.world

pub returns-in-Ok-clause-no_world : goal.returns-in-Ok-clause-no_world
returns-in-Ok-clause-no_world g c = no_world c.in-Ok.asked c.served.result.answer (g.S.Source.left c.args.input.now) c.served.result.world c.served.ensures.world

pub returns-in-Err-Usage-clause-usage : goal.returns-in-Err-Usage-clause-usage
returns-in-Err-Usage-clause-usage g c _ = (rw c.in-Err-Usage.field-0-is at c.in-Err-Usage.ensures.usage) refl

pub returns-in-Err-Usage-clause-serves : goal.returns-in-Err-Usage-clause-serves
returns-in-Err-Usage-clause-serves g c asked asks = absurd ((rw c.in-Err-Usage.field-0-is at c.in-Err-Usage.ensures.usage) refl asked asks)

pub returns-in-Err-Usage-clause-world : goal.returns-in-Err-Usage-clause-world
returns-in-Err-Usage-clause-world g c asked asks = absurd ((rw c.in-Err-Usage.field-0-is at c.in-Err-Usage.ensures.usage) refl asked asks)
