use Rattle.stack_law.proofs.Digits.{ranks_are_of_digits}
use Rattle.stack_law.proofs.walk_laws.ranks_are_of_digits.Goals as goal

pub returns : goal.returns
returns c = ranks_are_of_digits
