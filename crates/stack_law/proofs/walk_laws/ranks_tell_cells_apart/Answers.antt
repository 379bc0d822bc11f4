use Rattle.stack_law.proofs.Apart.{ranks_tell_cells_apart}
use Rattle.stack_law.proofs.walk_laws.ranks_tell_cells_apart.Goals as goal

pub returns : goal.returns
returns c = ranks_tell_cells_apart
