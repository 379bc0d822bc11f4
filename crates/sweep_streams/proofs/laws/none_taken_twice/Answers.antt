use Rattle.sweep_streams.proofs.Once.{none_taken_twice}
use Rattle.sweep_streams.proofs.laws.none_taken_twice.Goals as goal

pub returns : goal.returns
returns c = none_taken_twice
