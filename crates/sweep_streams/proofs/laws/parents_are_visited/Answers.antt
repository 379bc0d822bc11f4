use Rattle.sweep_streams.proofs.Records.{parents_are_visited}
use Rattle.sweep_streams.proofs.laws.parents_are_visited.Goals as goal

pub returns : goal.returns
returns c = parents_are_visited
