use Rattle.peano_keys.proofs.Positions.{cell_stands_in_slot}
use Rattle.peano_keys.proofs.laws.cell_stands_in_slot.Goals as goal

pub returns : goal.returns
returns c = cell_stands_in_slot
