use Rattle.stack_walks.proofs.Counts.{each_kept_corner_is_given}
use Rattle.stack_walks.proofs.count_laws.each_kept_corner_is_given.Goals as goal

pub returns : goal.returns
returns c = each_kept_corner_is_given
