use Rattle.sweep_streams.proofs.Records.{each_held_cell_once}
use Rattle.sweep_streams.proofs.laws.each_held_cell_once.Goals as goal

pub returns : goal.returns
returns c = each_held_cell_once
