use Rattle.std.proofs.Common.{None}
use Rattle.running_threads.proofs.Ends.{keeps_number}
use Rattle.running_threads.proofs.laws.leaves_keep_numbers.Goals as goal

pub returns : goal.returns
returns g c r i n l m spawns collects = keeps_number c.args.pool.now r (λ own sides level. None) i n l m spawns collects
