use Rattle.step_calls.proofs.Visitors.{secondary_calls}
use Rattle.step_calls.proofs.laws.secondary_calls.Goals as goal

pub returns : goal.returns
returns c = secondary_calls
