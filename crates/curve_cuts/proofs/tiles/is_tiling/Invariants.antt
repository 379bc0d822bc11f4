use Rattle.curve_cuts.proofs.Tiling.{AreTiled}
use Rattle.curve_cuts.proofs.tiles.is_tiling.Given as goal

abbrev pub invariant-loop-cell : goal.invariant-loop-cell
invariant-loop-cell l = AreTiled l.dim l.depth l.cells l.cell-index l.end
