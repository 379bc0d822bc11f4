use Rattle.stack_law.proofs.Once.{each_cell_once}
use Rattle.stack_law.proofs.walk_laws.each_cell_once.Goals as goal

pub returns : goal.returns
returns c = each_cell_once
