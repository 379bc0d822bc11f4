use Rattle.std.proofs.Common.{length, take}
use Rattle.spacetree.proofs.Givens.{Gives}
use Rattle.spacetree.proofs.StateLists.{beside}
use Rattle.spacetree.proofs.field.Field.of_states.Given as goal

abbrev pub invariant-loop-key : goal.invariant-loop-key
invariant-loop-key l = Gives (beside l.keys l.states) (take (length l.yielded) l.keys) l.field
