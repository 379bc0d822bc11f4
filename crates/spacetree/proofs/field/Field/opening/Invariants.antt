use Rattle.std.proofs.Common.{take, Some}
use Rattle.spacetree.specs.Opening.{opening_state}
use Rattle.spacetree.proofs.Givens.{Gives, Counts}
use Rattle.spacetree.proofs.field.Field.opening.Given as goal

abbrev pub invariant-loop-leaf : goal.invariant-loop-leaf
invariant-loop-leaf l = record {
  gives : Gives (λ q. Some (opening_state l.grid.dim l.fills l.parts q)) (take l.leaf-index l.leaf-items) l.field;
  counts : Counts l.parts l.field;
}
