use Rattle.task_core.proofs.Sound.{answers_are}
use Rattle.task_core.proofs.laws.answers_are_kernels.Goals as goal

pub returns : goal.returns
returns c = answers_are
