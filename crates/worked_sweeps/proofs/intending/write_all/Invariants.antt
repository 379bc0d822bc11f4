use Rattle.std.proofs.Common.{ℕ}
use Rattle.sweep_visits.specs.Plan.{SweepPlan}
use Rattle.tree_automaton.specs.AtRest.{HasLists}
use Rattle.worked_sweeps.proofs.intending.write_all.Given as goal

abbrev pub invariant-loop-k : goal.invariant-loop-k
invariant-loop-k g l = (p : SweepPlan) (number : ℕ) → HasLists p number l.fn.store → HasLists p number l.store
