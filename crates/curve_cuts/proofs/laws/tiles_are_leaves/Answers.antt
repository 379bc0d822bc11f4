use Rattle.curve_cuts.proofs.Tiling.{tiles_are_leaves}
use Rattle.curve_cuts.proofs.laws.tiles_are_leaves.Goals as goal

pub returns : goal.returns
returns c = tiles_are_leaves
