use Rattle.spacetree.proofs.JoinedCells.{AreJoined}
use Rattle.spacetree.proofs.leaf_list.all_above.Given as goal

abbrev pub invariant-loop-leaf : goal.invariant-loop-leaf
invariant-loop-leaf l = AreJoined l.dim l.depth l.leaves l.leaf-index l.refined
