use Rattle.peano_keys.proofs.Positions.{touching_cells}
use Rattle.peano_keys.proofs.laws.touching_cells_stand_at_positions.Goals as goal

pub returns : goal.returns
returns c = touching_cells
