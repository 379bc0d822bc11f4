use Rattle.stack_walks.proofs.OneWay.{each_corner_has_one_way}
use Rattle.stack_walks.proofs.corner_laws.each_corner_has_one_way.Goals as goal

pub returns : goal.returns
returns c = each_corner_has_one_way
