use Rattle.std.proofs.Common.{ap, arith}
use Rattle.task_pool.specs.Shifts.{GoesOn}
use Rattle.task_pool.proofs.Rounds.{stands_more, patient_more}
use Rattle.task_pool.proofs.parts.Helper.help.Goals as goal

pub rounds-preserved : goal.rounds-preserved
rounds-preserved g c =
    let kept = c.rounds.invariant in
    let round = c.round-round.ensures in
    let after = c.after-shift.ensures in
    let goes : GoesOn c.args.pool.now.total c.rounds.shift.quiet c.rounds.shift.taken = c.rounds-test.ensures in
    let published = ap (λ s. s.published) after in
    let taken = ap (λ s. s.taken) after in
    record {
      helper = round.helper;
      patient = patient_more c.rounds.shift c.after-shift.result c.round-round.result goes.0 after;
      few = let few = kept.few in let one = round.few in omega (arith, few, one.0, published, taken);
      most = let one = round.few in let all = goes.1 in omega (arith, all, one.1, taken);
      published = let old = kept.published in let more = round.published in omega (arith, old, more, published);
      rounds = stands_more c.args.pool.now.total c.rounds.shift c.after-shift.result c.round-round.result kept.rounds goes after;
      taken = let old = kept.taken in let more = round.taken in omega (arith, old, more, taken);
    }
