use Rattle.stack_law.proofs.Held.{stacks_hold_what_was_not_taken}
use Rattle.stack_law.proofs.lane_laws.stacks_hold_what_was_not_taken.Goals as goal

pub returns : goal.returns
returns g c = stacks_hold_what_was_not_taken _
