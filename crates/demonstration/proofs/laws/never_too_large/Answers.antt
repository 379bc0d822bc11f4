use Rattle.demonstration.proofs.Openings.{never_too_large}
use Rattle.demonstration.proofs.laws.never_too_large.Goals as goal

pub returns : goal.returns
returns c = never_too_large
