use Rattle.swept_slots.proofs.Stores.{rest_is_said}
use Rattle.swept_slots.proofs.laws.rest_is_said.Goals as goal

pub returns : goal.returns
returns c = rest_is_said
