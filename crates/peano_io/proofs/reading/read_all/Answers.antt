-- What was lost at a refusal is what was kept before, and the piece that was read last.
use Rattle.std.proofs.Common.{◌≡◌, ◌≤◌, ◌+◌, length, ◌++◌, take, arith, length-append, refl}
use Rattle.std.proofs.lemmas.Grind.{common_steps}
use Rattle.peano_io.proofs.Known.{Consumes-append}
use Rattle.peano_io.proofs.reading.read_all.Goals as goal

pub returns-then-len-count-clause-prefix : goal.returns-then-len-count-clause-prefix
returns-then-len-count-clause-prefix g c =
    let front = c.loop-count.all.items ++ take c.in-Ok.count c.read.new.buf in
    let full : length front ≡ c.args.limit + 1 = omega (arith, length-append c.loop-count.all.items (take c.in-Ok.count c.read.new.buf), c.in-Ok.ensures.bound.1) in
    record {
      prefix = front;
      lost = Consumes-append _ _ _ _ _ c.loop-count.invariant.lost c.in-Ok.ensures.bytes.0;
      most = omega arith;
      too_long = ((λ e. full), (λ e. refl));
    }

pub returns-then-is_err-clause-prefix : goal.returns-then-is_err-clause-prefix
returns-then-is_err-clause-prefix g c =
    let front = c.loop-count.all.items ++ take c.in-Ok.count c.read.new.buf in
    let short : length front ≤ c.args.limit = grind (arith, common_steps, c.in-Ok.ensures.bound.0, c.in-Ok.ensures.bound.1, c.read.auto.buf) in
    record {
      prefix = front;
      lost = Consumes-append _ _ _ _ _ c.loop-count.invariant.lost c.in-Ok.ensures.bytes.0;
      most = omega arith;
      too_long = ((λ e. cc), (λ e. absurd (omega arith)));
    }
