use Rattle.std.proofs.Common.{refl, arith}
use Rattle.std.proofs.lemmas.Bool.Decides.{nat_tests}
use Rattle.handed_down.proofs.Beside.{beside_all}
use Rattle.handed_down.proofs.surroundings.has_all_round.Goals as goal

pub returns : goal.returns
returns c = (λ t. beside_all c.args.dim c.args.depth c.args.range.now c.args.cell (λ j below. c.loop-j.invariant j (grind (arith, nat_tests, c.loop-j-test.false))), λ h. refl)
