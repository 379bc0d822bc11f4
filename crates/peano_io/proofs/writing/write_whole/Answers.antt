-- A write takes the next bytes of what is left.
use Rattle.std.proofs.Common.{arith}
use Rattle.std.proofs.lemmas.Grind.{common_steps}
use Rattle.peano_io.proofs.Known.{Appends-take}
use Rattle.peano_io.proofs.writing.write_whole.Goals as goal

pub loop-written-preserved : goal.loop-written-preserved
loop-written-preserved g c = record {
  within = grind (arith, common_steps, c.in-Ok.ensures.count.1);
  part = Appends-take _ _ _ _ _ _ c.loop-written.invariant.part c.in-Ok.ensures.bytes;
  untouched = λ e. absurd (omega (arith, c.in-Ok.ensures.count.0));
  kept = grind (arith, common_steps, c.in-Ok.ensures.cause);
}
