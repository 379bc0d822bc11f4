use Rattle.sweep_visits.proofs.Moments.{each_move_finds_its_vertex}
use Rattle.sweep_visits.proofs.laws.each_move_finds_its_vertex.Goals as goal

pub returns : goal.returns
returns c = each_move_finds_its_vertex
