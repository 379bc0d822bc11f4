use Rattle.swept_slots.proofs.Stores.{said_is_before}
use Rattle.swept_slots.proofs.laws.said_is_before.Goals as goal

pub returns : goal.returns
returns c = said_is_before
