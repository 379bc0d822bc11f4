use Rattle.sweep_streams.proofs.Computed.{nine_cells}
use Rattle.sweep_streams.proofs.checks.nine_cells.Goals as goal

pub returns : goal.returns
returns c = nine_cells
