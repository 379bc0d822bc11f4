use Rattle.swept_slots.proofs.Stores.{store_has_copies}
use Rattle.swept_slots.proofs.laws.store_has_copies.Goals as goal

pub returns : goal.returns
returns c = store_has_copies
