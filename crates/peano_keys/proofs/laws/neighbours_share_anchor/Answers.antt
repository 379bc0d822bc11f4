use Rattle.peano_keys.proofs.Anchors.{neighbours_share_anchor}
use Rattle.peano_keys.proofs.laws.neighbours_share_anchor.Goals as goal

pub returns : goal.returns
returns c = neighbours_share_anchor
