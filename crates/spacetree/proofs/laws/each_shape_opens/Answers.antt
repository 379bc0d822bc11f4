use Rattle.spacetree.proofs.OpeningExists.{each_shape_opens}
use Rattle.spacetree.proofs.laws.each_shape_opens.Goals as goal

pub returns : goal.returns
returns c = each_shape_opens
