use Rattle.std.proofs.Common.{subst}
use Rattle.grid_file.specs.Faults.{Reads}
use Rattle.grid_file.specs.Plan.{plan_of_tree}
use Rattle.grid_file.proofs.Searches.{reads_least}
use Rattle.grid_file.proofs.Ranges.{given_plan}
use Rattle.grid_file.proofs.reading.read_plan.Goals as goal

pub returns-in-Some-clause-value : goal.returns-in-Some-clause-value
returns-in-Some-clause-value c = subst (λ o. Reads c.plan_in.result (plan_of_tree o)) (rw c.in-Some.is at c.in_ok-tree.ensures) (reads_least _ _ c.plan_in.ensures)

pub returns-in-Some-clause-valid : goal.returns-in-Some-clause-valid
returns-in-Some-clause-valid c = given_plan _ _ c.plan_in.ensures
