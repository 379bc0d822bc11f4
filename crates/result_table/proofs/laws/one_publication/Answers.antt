use Rattle.std.proofs.Common.{subst, sym, ◌<◌}
use Rattle.result_table.proofs.Consequences.{one_publication}
use Rattle.result_table.proofs.laws.one_publication.Goals as goal

pub returns : goal.returns
returns g c s k i j v w rule below = one_publication c.args.desk.now.table.shared.key s k i j v w rule (subst (λ n. k < n) (sym c.args.desk.now.sized.2) below)
