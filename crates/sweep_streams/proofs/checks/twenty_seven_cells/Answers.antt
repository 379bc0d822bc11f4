use Rattle.sweep_streams.proofs.Computed.{twenty_seven_cells}
use Rattle.sweep_streams.proofs.checks.twenty_seven_cells.Goals as goal

pub returns : goal.returns
returns c = twenty_seven_cells
