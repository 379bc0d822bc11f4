use Rattle.cell_sums.proofs.Bounds.{floor_is_between}
use Rattle.cell_sums.proofs.laws.floor_is_between.Goals as goal

pub returns : goal.returns
returns c = floor_is_between
