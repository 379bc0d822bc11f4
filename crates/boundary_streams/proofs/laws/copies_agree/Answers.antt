use Rattle.boundary_streams.proofs.Agrees.{copies_agree}
use Rattle.boundary_streams.proofs.laws.copies_agree.Goals as goal

pub returns : goal.returns
returns c = copies_agree
