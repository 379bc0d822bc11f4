use Rattle.step_calls.proofs.Visitors.{parent_finds}
use Rattle.step_calls.proofs.laws.parent_finds.Goals as goal

pub returns : goal.returns
returns c = parent_finds
