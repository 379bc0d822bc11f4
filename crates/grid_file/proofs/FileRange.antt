-- The plan that a file means is within its ranges.
use Rattle.std.proofs.Common.{◌≡◌, List, ℕ, Option, Some, None, Result, Ok, Err, refl, ap, sym, subst, ◌∙◌}
use Rattle.std.specs.Prelude.{is_ok}
use Rattle.std.proofs.lemmas.Bool.{false≢true}
use Rattle.toml.specs.Data.{Members}
use Rattle.grid_file.specs.declared.fault.Malformed.{Malformed}
use Rattle.grid_file.specs.declared.plan.Plan.{Plan}
use Rattle.grid_file.specs.Faults.{judged}
use Rattle.grid_file.specs.Plan.{plan_in, plan_of, plan_of_tree}
use Rattle.grid_file.specs.Stages.{first_fault}
use Rattle.grid_file.specs.Tree.{tree_of}
use Rattle.grid_file.specs.Valid.{IsPlan}
use Rattle.grid_file.proofs.Ranges.{plan_range}
use Rattle.grid_file.proofs.Searches.{least_is_first}

abbrev plan_or : Plan → Result Plan Malformed → Plan
plan_or other (Ok plan) = plan
plan_or other (Err m) = other

judged_plan : (t : Members) (o : Option Malformed) (plan : Plan) → first_fault t ≡ o → judged o (plan_in t) ≡ Ok plan → IsPlan plan
judged_plan t None plan e h = subst IsPlan (ap (plan_or plan) h) (plan_range t e)
judged_plan t (Some m) plan e h = absurd (false≢true (ap is_ok h))

tree_range : (o : Option Members) (plan : Plan) → plan_of_tree o ≡ Ok plan → IsPlan plan
tree_range None plan h = absurd (false≢true (ap is_ok h))
tree_range (Some t) plan h = judged_plan t (first_fault t) plan refl (ap (λ o. judged o (plan_in t)) (sym (least_is_first t)) ∙ h)

pub file_range : (bytes : List ℕ) (plan : Plan) → plan_of bytes ≡ Ok plan → IsPlan plan
file_range bytes plan h = tree_range (tree_of bytes) plan h
