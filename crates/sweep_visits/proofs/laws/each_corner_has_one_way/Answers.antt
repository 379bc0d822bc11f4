use Rattle.sweep_visits.proofs.Ways.{each_corner_has_one_way}
use Rattle.sweep_visits.proofs.laws.each_corner_has_one_way.Goals as goal

pub returns : goal.returns
returns c = each_corner_has_one_way
