use Rattle.std.proofs.Common.{rules, ◌∙◌}
use Rattle.std.specs.Int.{w64}
use Rattle.std.specs.Int.RustNames.{FitsSigned}
use Rattle.std.proofs.lemmas.Int.{to_z-of_z}
use Rattle.step_sweeps.proofs.Means.{three_means}
use Rattle.step_sweeps.proofs.sums.three_means.Goals as goal

pub returns : goal.returns
returns c =
    let f0 : FitsSigned w64 c.floor_at.result = search rules in
    let f1 : FitsSigned w64 c.floor_at-2.result = search rules in
    let f2 : FitsSigned w64 c.floor_at-3.result = search rules in
    three_means c.args.weight c.args.x.now _ _ _
    (λ fits. to_z-of_z w64 c.floor_at.result f0 ∙ c.floor_at.ensures fits)
    (λ fits. to_z-of_z w64 c.floor_at-2.result f1 ∙ c.floor_at-2.ensures fits)
    (λ fits. to_z-of_z w64 c.floor_at-3.result f2 ∙ c.floor_at-3.ensures fits)
