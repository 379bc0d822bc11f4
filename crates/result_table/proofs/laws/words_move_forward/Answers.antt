use Rattle.result_table.proofs.Words.{moves_forward}
use Rattle.result_table.proofs.laws.words_move_forward.Goals as goal

pub returns : goal.returns
returns c = moves_forward
