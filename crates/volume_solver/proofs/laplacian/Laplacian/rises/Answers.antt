use Rattle.std.proofs.Common.{arith}
use Rattle.std.proofs.lemmas.Int.{to_z-of_z}
use Rattle.volume_solver.proofs.Bounds.{four_in_turn, six_in_turn}
use Rattle.volume_solver.proofs.laplacian.Laplacian.rises.Goals as goal

pub returns-in-Two-clause-value : goal.returns-in-Two-clause-value
returns-in-Two-clause-value c = grind (arith, to_z-of_z, four_in_turn, c.rise_on-first.ensures.value, c.rise_on-second.ensures.value)

pub returns-in-Three-clause-value : goal.returns-in-Three-clause-value
returns-in-Three-clause-value c = grind (arith, to_z-of_z, six_in_turn, c.rise_on-first.ensures.value, c.rise_on-second.ensures.value, c.rise_on-third.ensures.value, c.sum_of_three.ensures.value)
