use Rattle.std.proofs.Common.{None}
use Rattle.running_threads.proofs.Ends.{ended_none}
use Rattle.running_threads.proofs.laws.none_is_left.Goals as goal

pub returns : goal.returns
returns g c r i small later ended = ended_none c.args.pool.now (λ own sides level. None) r i small later ended
