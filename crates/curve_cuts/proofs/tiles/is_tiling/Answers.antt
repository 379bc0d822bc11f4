use Rattle.std.proofs.Common.{◌≡◌, ◌∙◌, ap, arith, eqb-true, length}
use Rattle.peano_curve.specs.declared.range.Range.{Range}
use Rattle.curve_cuts.proofs.Tiling.{tiles_are_leaves, tiled_more, all_tiled}
use Rattle.curve_cuts.proofs.tiles.is_tiling.Goals as goal

pub loop-cell-preserved : goal.loop-cell-preserved
loop-cell-preserved c = tiled_more c.args.dim c.args.depth c.args.cells.now c.loop-cell.cell-index c.loop-cell.end c.interval-end.result.hi _ c.loop-cell.invariant c.loop-cell-test.true (c.begins_at.ensures.0 c.if-not-begins_at.false) (ap (λ (r : Range). r.hi) c.interval-end.ensures.value)

pub returns-clause-leaves : goal.returns-clause-leaves
returns-clause-leaves c = λ h.
    let whole : c.loop-cell.cell-index ≡ length c.args.cells.now = omega arith in
    tiles_are_leaves c.args.dim c.args.depth c.args.cells.now c.requires (all_tiled c.args.dim c.args.depth c.args.cells.now c.loop-cell.cell-index c.loop-cell.end c.loop-cell.invariant whole (eqb-true c.loop-cell.end c.positions.result h ∙ c.positions.ensures))
