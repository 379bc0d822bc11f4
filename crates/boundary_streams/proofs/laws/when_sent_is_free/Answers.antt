use Rattle.boundary_streams.proofs.Agrees.{when_sent_is_free}
use Rattle.boundary_streams.proofs.laws.when_sent_is_free.Goals as goal

pub returns : goal.returns
returns c = when_sent_is_free
