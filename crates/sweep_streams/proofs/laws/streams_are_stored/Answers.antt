use Rattle.sweep_streams.proofs.Pushes.{streams_are_stored}
use Rattle.sweep_streams.proofs.laws.streams_are_stored.Goals as goal

pub returns : goal.returns
returns c = streams_are_stored
