use Rattle.std.proofs.Common.{None}
use Rattle.running_threads.proofs.Ends.{goes_on}
use Rattle.running_threads.proofs.laws.trees_go_on.Goals as goal

pub returns : goal.returns
returns g c r i small = goes_on c.args.pool.now (λ own sides level. None) r i small
