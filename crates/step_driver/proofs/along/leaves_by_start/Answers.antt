use Rattle.std.proofs.Common.{ap, sym, subst, ◌∙◌, arith}
use Rattle.std.specs.Prelude.{[], slice_index_or}
use Rattle.std.proofs.lemmas.List.{get_or_default}
use Rattle.peano_keys.specs.declared.cell.CellKey.{CellKey}
use Rattle.peano_keys.specs.Cell.{IsCell, root}
use Rattle.peano_curve.specs.declared.range.Range.{Range}
use Rattle.peano_curve.specs.Order.{interval_start}
use Rattle.spacetree.specs.Leaves.{ListsLeaves}
use Rattle.curve_cuts.proofs.Leaves.{leaf_level}
use Rattle.step_driver.proofs.Begins.{first_more, leaf_at, all_stand_in}
use Rattle.step_driver.proofs.along.leaves_by_start.Goals as goal

abbrev none : CellKey
none = record { level = 0; x = [] }

pub interval-requires-clause-cell : goal.interval-requires-clause-cell
interval-requires-clause-cell c =
    let cells = c.as_slice-leaf-items.result.now in
    let lists = subst (ListsLeaves c.args.grid.now) (sym c.as_slice-leaf-items.ensures.value) c.in_ok-leaves.ensures in
    let leaf = leaf_at c.args.depth c.args.grid.now c.requires.grid cells lists none c.loop-leaf.leaf-index c.loop-leaf-test.true in
    subst (λ dim. IsCell dim (slice_index_or cells c.loop-leaf.leaf-index none)) (sym c.dim-dim.ensures) leaf.cell

pub interval-requires-clause-above : goal.interval-requires-clause-above
interval-requires-clause-above c =
    let cells = c.as_slice-leaf-items.result.now in
    let lists = subst (ListsLeaves c.args.grid.now) (sym c.as_slice-leaf-items.ensures.value) c.in_ok-leaves.ensures in
    let leaf = leaf_at c.args.depth c.args.grid.now c.requires.grid cells lists none c.loop-leaf.leaf-index c.loop-leaf-test.true in
    leaf_level c.args.grid.now.dim c.args.depth c.args.grid.now c.requires.grid (slice_index_or cells c.loop-leaf.leaf-index none) leaf.leaf

pub loop-leaf-preserved : goal.loop-leaf-preserved
loop-leaf-preserved c =
    let cells = c.as_slice-leaf-items.result.now in
    let i = c.loop-leaf.leaf-index in
    let lists = subst (ListsLeaves c.args.grid.now) (sym c.as_slice-leaf-items.ensures.value) c.in_ok-leaves.ensures in
    let leaf = leaf_at c.args.depth c.args.grid.now c.requires.grid cells lists in
    let begins = ap (λ (r : Range). r.lo) c.interval.ensures.value ∙ ap (λ dim. interval_start dim (slice_index_or cells i none) c.args.depth) c.dim-dim.ensures in
    first_more c.args.depth c.args.grid.now c.requires.grid c.loop-leaf.starts c.insert.new.self (slice_index_or cells i none) c.interval.result.lo (leaf none i c.loop-leaf-test.true) begins c.in_ok-insert.ensures.updates.0
    cells i (leaf root) c.loop-leaf-test.true (get_or_default cells i none root c.loop-leaf-test.true) c.loop-leaf.invariant

pub returns : goal.returns
returns c =
    let cells = c.as_slice-leaf-items.result.now in
    let lists = subst (ListsLeaves c.args.grid.now) (sym c.as_slice-leaf-items.ensures.value) c.in_ok-leaves.ensures in
    all_stand_in c.args.depth c.args.grid.now c.requires.grid cells c.loop-leaf.leaf-index c.loop-leaf.starts lists (omega (arith, c.loop-leaf-test.false)) c.loop-leaf.invariant
