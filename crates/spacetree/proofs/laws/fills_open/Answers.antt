use Rattle.spacetree.proofs.OpeningExists.{fills_open}
use Rattle.spacetree.proofs.laws.fills_open.Goals as goal

pub returns : goal.returns
returns c = fills_open
