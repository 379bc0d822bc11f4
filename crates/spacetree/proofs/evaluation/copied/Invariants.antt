use Rattle.std.proofs.Common.{take, Some}
use Rattle.peano_keys.specs.Field.{state_at}
use Rattle.spacetree.proofs.Givens.{Gives}
use Rattle.spacetree.proofs.evaluation.copied.Given as goal

abbrev pub invariant-loop-leaf : goal.invariant-loop-leaf
invariant-loop-leaf l = Gives (λ q. Some (state_at l.field q)) (take l.leaf-index l.leaves) l.copy
