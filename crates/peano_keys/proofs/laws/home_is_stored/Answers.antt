use Rattle.peano_keys.proofs.Anchors.{home_is_stored}
use Rattle.peano_keys.proofs.laws.home_is_stored.Goals as goal

pub returns : goal.returns
returns c = home_is_stored
