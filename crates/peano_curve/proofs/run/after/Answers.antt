use Rattle.std.proofs.Common.{sym, subst, ◌∙◌}
use Rattle.std.proofs.lemmas.Bool.{false≢true}
use Rattle.peano_curve.specs.declared.range.Range.{Range}
use Rattle.peano_curve.specs.Run.{Meets}
use Rattle.peano_curve.proofs.Held.{last_held}
use Rattle.peano_curve.proofs.run.after.Goals as goal

pub returns-else-meets-clause-next : goal.returns-else-meets-clause-next
returns-else-meets-clause-next c =
    last_held c.args.dim c.args.depth c.args.range.now c.args.dir c.args.vertex c.args.cell c.requires.run c.in_ok-next.next c.in_ok-next.ensures.next
    (λ held. false≢true (sym c.if-meets.false ∙ c.meets.ensures.1 (subst (λ (i : Range). Meets i c.args.range.now) (sym c.interval.ensures.value) held)))
