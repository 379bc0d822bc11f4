use Rattle.peano_keys.proofs.Anchors.{anchor_is_stored}
use Rattle.peano_keys.proofs.laws.anchor_is_stored.Goals as goal

pub returns : goal.returns
returns c = anchor_is_stored
