use Rattle.task_core.proofs.Forward.{words_forward}
use Rattle.task_core.proofs.laws.words_move_forward.Goals as goal

pub returns : goal.returns
returns c = words_forward
