use Rattle.std.proofs.Common.{◌∙◌, sym}
use Rattle.spacetree.proofs.JoinedCells.{makes_grid, makes_none, makes_one}
use Rattle.spacetree.proofs.SortedCells.{lists_are_one, lists_differ}
use Rattle.spacetree.proofs.grid.Grid.of_leaves.Goals as goal

pub returns-then-ne-clause-fault : goal.returns-then-ne-clause-fault
returns-then-ne-clause-fault c =
    let slice = c.as_slice.result.now in
    makes_none c.args.dim c.args.depth c.args.leaves.now c.in_ok-refined.refined c.of-grid.result c.in_ok-found.found.items c.requires.depth c.in_ok-refined.ensures.above c.of-grid.ensures c.in_ok-found.ensures
    (λ same. lists_differ slice c.args.leaves.now c.ne.result c.ne.ensures c.if-ne.true (c.as_slice.ensures.value ∙ same))

pub returns-clause-grid : goal.returns-clause-grid
returns-clause-grid c =
    let slice = c.as_slice.result.now in
    makes_grid c.args.dim c.args.depth c.args.leaves.now c.in_ok-refined.refined c.of-grid.result c.in_ok-found.found.items c.requires.depth c.in_ok-refined.ensures.above c.of-grid.ensures c.in_ok-found.ensures
    (sym c.as_slice.ensures.value ∙ lists_are_one slice c.args.leaves.now c.ne.result c.ne.ensures c.if-ne.false)

pub returns-clause-one : goal.returns-clause-one
returns-clause-one c =
    let slice = c.as_slice.result.now in
    makes_one c.args.dim c.args.depth c.args.leaves.now c.in_ok-refined.refined c.of-grid.result c.in_ok-found.found.items c.requires.depth c.in_ok-refined.ensures.above c.of-grid.ensures c.in_ok-found.ensures
    (sym c.as_slice.ensures.value ∙ lists_are_one slice c.args.leaves.now c.ne.result c.ne.ensures c.if-ne.false)
