use Rattle.demonstration.proofs.Throughout.{never_refused}
use Rattle.demonstration.proofs.laws.never_refused.Goals as goal

pub returns : goal.returns
returns c = never_refused
