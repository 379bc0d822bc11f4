use Rattle.std.proofs.Common.{sym, subst}
use Rattle.spacetree.specs.LeafLists.{LeavesFail}
use Rattle.spacetree.proofs.JoinedCells.{fails_up, none_joined, one_more_joined}
use Rattle.spacetree.proofs.Steps.{err_and}
use Rattle.spacetree.proofs.leaf_list.all_above.Goals as goal

pub loop-leaf-init : goal.loop-leaf-init
loop-leaf-init c = none_joined c.args.dim c.args.depth c.args.leaves.now c.new-refined.result c.new-refined.ensures

pub returns-in_err-join-clause-fault : goal.returns-in_err-join-clause-fault
returns-in_err-join-clause-fault c = err_and c.from_residual.result _ _ (λ fault e.
    subst (LeavesFail c.args.dim c.args.depth c.args.leaves.now) (sym e)
    (fails_up c.args.dim c.args.depth c.args.leaves.now c.loop-leaf.refined c.loop-leaf.leaf-index c.in_err-join.field-0.0 c.loop-leaf-test.true c.loop-leaf.invariant c.in_err-join.ensures.fault)) c.from_residual.ensures.1

pub loop-leaf-preserved : goal.loop-leaf-preserved
loop-leaf-preserved c = one_more_joined c.args.dim c.args.depth c.args.leaves.now c.loop-leaf.leaf-index c.loop-leaf.refined c.join.new.refined c.loop-leaf-test.true c.loop-leaf.invariant c.in_ok-join.ensures.joined
