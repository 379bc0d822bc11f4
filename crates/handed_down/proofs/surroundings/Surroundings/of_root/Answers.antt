use Rattle.std.proofs.Common.{subst, ap, ◌∙◌}
use Rattle.peano_curve.specs.Order.{interval_of}
use Rattle.peano_curve.specs.declared.range.Range.{Range}
use Rattle.handed_down.specs.Across.{HasAll}
use Rattle.handed_down.proofs.Inside.{root_all}
use Rattle.handed_down.proofs.surroundings.Surroundings.of_root.Goals as goal

pub returns : goal.returns
returns c = λ dir. record { faces = c.root_faces.ensures dir c.args.dim; whole = λ w. root_all c.args.dim c.args.depth c.args.range.now (subst (λ (i : Range). HasAll c.args.range.now i) (c.interval.ensures.value ∙ ap (λ r. interval_of c.args.dim r c.args.depth) c.root.ensures) (c.has_all.ensures.0 w)) }
