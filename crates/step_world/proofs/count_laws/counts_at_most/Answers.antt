use Rattle.step_world.proofs.AtMost.{counts_at_most}
use Rattle.step_world.proofs.count_laws.counts_at_most.Goals as goal

pub returns : goal.returns
returns c = counts_at_most
