use Rattle.boundary_streams.proofs.Stored.{merge_keeps_lists}
use Rattle.boundary_streams.proofs.laws.merge_keeps_lists.Goals as goal

pub returns : goal.returns
returns c = merge_keeps_lists
