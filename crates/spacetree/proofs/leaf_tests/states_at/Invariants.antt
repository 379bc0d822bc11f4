use Rattle.std.proofs.Common.{◌≡◌, length}
use Rattle.spacetree.proofs.leaf_tests.states_at.Given as goal

abbrev pub invariant-loop-key : goal.invariant-loop-key
invariant-loop-key g l = length l.states.items ≡ l.key-index
