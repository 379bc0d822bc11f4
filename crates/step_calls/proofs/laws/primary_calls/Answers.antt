use Rattle.step_calls.proofs.Visitors.{primary_calls}
use Rattle.step_calls.proofs.laws.primary_calls.Goals as goal

pub returns : goal.returns
returns c = primary_calls
