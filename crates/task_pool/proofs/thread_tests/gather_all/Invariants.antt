use Rattle.std.proofs.Common.{◌≡◌, ◌≤◌, ◌-◌, ℕ}
use Rattle.result_table.specs.Seats.{IsUncollected}
use Rattle.task_pool.specs.Seen.{IsHandOf, tree_of, hand_view}
use Rattle.task_pool.proofs.thread_tests.gather_all.Given as goal

abbrev pub invariant-gathers : goal.invariant-gathers
invariant-gathers l = record {
  hand : IsHandOf l.pool l.hand;
  tree : tree_of l.hand ≡ 0;
  within : l.number ≤ 1000;
  wrong : l.wrong ≤ l.number;
  fresh : (k : ℕ) → l.number ≤ k → IsUncollected (hand_view l.hand) k;
}

abbrev pub decreases-gathers : goal.decreases-gathers
decreases-gathers l = 1000 - l.number
