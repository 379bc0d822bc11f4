-- Small sweeps compute.
use Rattle.std.proofs.Common.{refl}
use Rattle.sweep_visits.specs.Checks.{OneCell, NineChildren, MiddleChild, RunOfFour}

pub one_cell : OneCell
one_cell r = refl

pub run_of_four : RunOfFour
run_of_four r = (refl, refl, refl, refl, refl, refl, refl)

pub nine_children : NineChildren
nine_children r e = (rw e refl, rw e refl)

pub middle_child : MiddleChild
middle_child r e = (rw e refl, rw e refl)
