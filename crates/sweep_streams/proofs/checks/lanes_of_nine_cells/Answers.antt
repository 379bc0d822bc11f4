use Rattle.sweep_streams.proofs.Computed.{lanes_of_nine_cells}
use Rattle.sweep_streams.proofs.checks.lanes_of_nine_cells.Goals as goal

pub returns : goal.returns
returns c = lanes_of_nine_cells
