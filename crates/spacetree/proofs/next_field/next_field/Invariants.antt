use Rattle.std.proofs.Common.{take, Some}
use Rattle.peano_keys.specs.Field.{value_of}
use Rattle.solver_api.specs.Step.{source_of}
use Rattle.spacetree.proofs.Givens.{Gives}
use Rattle.spacetree.proofs.next_field.next_field.Given as goal

abbrev pub invariant-loop-leaf : goal.invariant-loop-leaf
invariant-loop-leaf l = Gives (λ q. Some (value_of l.old l.states (source_of l.old q))) (take l.leaf-index l.leaf-items) l.after
