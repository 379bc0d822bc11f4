use Rattle.std.proofs.Common.{rules}
use Rattle.peano_records.proofs.Halves.{widened}
use Rattle.peano_records.proofs.columns.Near.widen.Goals as goal

pub returns-then-not-self-clause-same : goal.returns-then-not-self-clause-same
returns-then-not-self-clause-same c = λ more. widened c.args.self.now c.narrow.new.self c.args.far.now c.narrow-then-not-self.new.self more (search rules) c.narrow.ensures c.narrow-then-not-self.ensures
