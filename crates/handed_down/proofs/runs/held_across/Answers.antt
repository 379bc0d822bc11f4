use Rattle.std.proofs.Common.{sym, ◌∙◌, subst}
use Rattle.std.proofs.lemmas.Bool.{false≢true}
use Rattle.peano_curve.specs.declared.range.Range.{Range}
use Rattle.peano_curve.specs.Run.{Meets}
use Rattle.handed_down.proofs.Inside.{held_across, free_across}
use Rattle.handed_down.proofs.runs.held_across.Goals as goal

pub returns-then-meets : goal.returns-then-meets
returns-then-meets c = λ dir h. held_across dir c.args.dim c.args.depth c.args.range.now c.args.cell c.args.n c.requires.run c.args.next c.in_ok-axis.axis c.in_ok-axis.was h c.in_ok-other.other (sym c.neighbour.ensures.value ∙ c.in_ok-other.was) (subst (λ (i : Range). Meets i c.args.range.now) c.interval.ensures.value (c.meets.ensures.0 c.if-meets.true))

pub returns-else-meets : goal.returns-else-meets
returns-else-meets c = λ dir h. free_across dir c.args.dim c.args.depth c.args.range.now c.args.cell c.args.n c.requires.run c.args.next c.in_ok-axis.axis c.in_ok-axis.was h c.in_ok-other.other (sym c.neighbour.ensures.value ∙ c.in_ok-other.was) (λ held. false≢true (sym c.if-meets.false ∙ c.meets.ensures.1 (subst (λ (i : Range). Meets i c.args.range.now) (sym c.interval.ensures.value) held)))
