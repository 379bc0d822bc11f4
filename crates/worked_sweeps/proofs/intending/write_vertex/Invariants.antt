use Rattle.std.proofs.Common.{ℕ}
use Rattle.sweep_visits.specs.Plan.{SweepPlan}
use Rattle.tree_automaton.specs.AtRest.{HasLists}
use Rattle.worked_sweeps.proofs.intending.write_vertex.Given as goal

abbrev pub invariant-loop-n : goal.invariant-loop-n
invariant-loop-n g l = (p : SweepPlan) (number : ℕ) → HasLists p number l.fn.store → HasLists p number l.store
