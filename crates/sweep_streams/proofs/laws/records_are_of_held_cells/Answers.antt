use Rattle.sweep_streams.proofs.Records.{records_are_of_held_cells}
use Rattle.sweep_streams.proofs.laws.records_are_of_held_cells.Goals as goal

pub returns : goal.returns
returns c = records_are_of_held_cells
