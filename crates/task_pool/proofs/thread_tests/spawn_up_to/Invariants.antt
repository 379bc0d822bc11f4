use Rattle.std.proofs.Common.{◌≡◌, ◌≤◌, ◌-◌}
use Rattle.task_pool.specs.Seen.{IsHandOf, tree_of, spawned_of, hand_view}
use Rattle.task_pool.proofs.thread_tests.spawn_up_to.Given as goal

abbrev pub invariant-spawns : goal.invariant-spawns
invariant-spawns l = record {
  hand : IsHandOf l.pool l.hand;
  tree : tree_of l.hand ≡ 0;
  some : spawned_of l.hand ≤ l.end;
  view : hand_view l.hand ≡ hand_view l.initial.hand;
}

abbrev pub decreases-spawns : goal.decreases-spawns
decreases-spawns l = l.end - spawned_of l.hand
