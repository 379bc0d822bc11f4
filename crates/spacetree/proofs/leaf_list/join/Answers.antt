use Rattle.std.proofs.Common.{◌<◌, ◌/◌, arith, ap}
use Rattle.std.specs.FinSet as set
use Rattle.peano_keys.specs.Grid.{Cells}
use Rattle.spacetree.proofs.CellCounts.{too_many}
use Rattle.spacetree.proofs.JoinedCells.{no_room}
use Rattle.spacetree.proofs.leaf_list.join.Goals as goal

pub returns-then-len-from-clause-fault : goal.returns-then-len-from-clause-fault
returns-then-len-from-clause-fault c =
    let new : Cells = c.add_above.new.refined in
    let full : 199999 / c.child_count.result < set.len new = omega (arith, c.if-len-from.true, c.len.ensures, ap (λ f. 199999 / f) c.from.ensures) in
    no_room c.args.dim c.args.depth c.args.refined.now c.args.key.now new c.in_ok-add_above.ensures (too_many c.args.dim (set.len new) c.child_count.result c.child_count.ensures.power full)
