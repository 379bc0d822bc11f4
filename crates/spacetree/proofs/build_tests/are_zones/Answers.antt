use Rattle.std.proofs.Common.{arith}
use Rattle.spacetree.proofs.build_tests.are_zones.Goals as goal

pub returns : goal.returns
returns c h k d lt = c.loop-zone.invariant k d (omega (arith, c.loop-zone-test.false))
