use Rattle.stack_walks.proofs.Visited.{walks_agree_round_kept}
use Rattle.stack_walks.proofs.engine_laws.walks_agree_round_kept.Goals as goal

pub returns : goal.returns
returns c = walks_agree_round_kept
