use Rattle.std.proofs.Common.{ℕ, rules, ap₂, ◌∙◌}
use Rattle.std.specs.Int.{w64}
use Rattle.std.specs.Int.RustNames.{FitsSigned}
use Rattle.std.proofs.lemmas.Int.{to_z-of_z}
use Rattle.shared_sums.specs.Totals.{mean_in}
use Rattle.shared_sums.proofs.Sums.{four}
use Rattle.shared_sums.proofs.adding.means_for.Goals as goal

pub returns-clause-values : goal.returns-clause-values
returns-clause-values c =
    let a : FitsSigned w64 c.mean.result = search rules in
    let b : FitsSigned w64 c.mean-2.result = search rules in
    let d : FitsSigned w64 c.mean-3.result = search rules in
    let e : FitsSigned w64 c.mean-4.result = search rules in
    let same = λ (i : ℕ). ap₂ (λ depth dim. mean_in depth dim c.args.all.now i c.args.key) c.depth-depth.ensures.value c.dim-dim.ensures in
    four (λ i. mean_in c.args.keys.now.depth c.args.keys.now.dim c.args.all.now i c.args.key) _ _ _ _
    (to_z-of_z w64 c.mean.result a ∙ c.mean.ensures ∙ same 0)
    (to_z-of_z w64 c.mean-2.result b ∙ c.mean-2.ensures ∙ same 1)
    (to_z-of_z w64 c.mean-3.result d ∙ c.mean-3.ensures ∙ same 2)
    (to_z-of_z w64 c.mean-4.result e ∙ c.mean-4.ensures ∙ same 3)
