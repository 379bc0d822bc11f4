use Rattle.std.proofs.Common.{arith}
use Rattle.step_driver.proofs.Sizes.{no_more_splits, no_more_merges, room_for_merges}
use Rattle.step_driver.proofs.size.size_after.Goals as goal

pub children_of-added-requires : goal.children_of-added-requires
children_of-added-requires c =
    let h = c.requires.turnover in
    omega (arith, no_more_splits c.args.dim c.args.cells h.0 h.1 c.args.turnover h.2, c.requires.limit)

pub children_of-removed-requires : goal.children_of-removed-requires
children_of-removed-requires c =
    let h = c.requires.turnover in
    omega (arith, no_more_merges c.args.dim c.args.cells h.0 h.1 c.args.turnover h.2, c.requires.limit)

pub overflow_sub-result : goal.overflow_sub-result
overflow_sub-result c =
    let h = c.requires.turnover in
    omega (arith, room_for_merges c.args.dim c.args.cells h.0 h.1 c.args.turnover h.2, c.children_of-added.ensures.value, c.children_of-removed.ensures.value)

pub returns : goal.returns
returns c =
    let h = c.requires.turnover in
    omega (arith, room_for_merges c.args.dim c.args.cells h.0 h.1 c.args.turnover h.2, c.children_of-added.ensures.value, c.children_of-removed.ensures.value)
