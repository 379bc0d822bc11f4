use Rattle.std.proofs.Common.{subst, sym, ◌<◌}
use Rattle.result_table.proofs.Consequences.{one_collection}
use Rattle.result_table.proofs.laws.one_collection.Goals as goal

pub returns : goal.returns
returns g c s k v rule below = one_collection c.args.desk.now.table.shared.key s k v rule (subst (λ n. k < n) (sym c.args.desk.now.sized.2) below)
