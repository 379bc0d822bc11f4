use Rattle.std.specs.List.Sorted.{IsStrictlySortedBy}
use Rattle.spacetree.proofs.leaf_tests.fields_again.Goals as goal

pub of_states-requires-2-clause-order : goal.of_states-requires-2-clause-order
unfolding IsStrictlySortedBy
of_states-requires-2-clause-order g c = tt
