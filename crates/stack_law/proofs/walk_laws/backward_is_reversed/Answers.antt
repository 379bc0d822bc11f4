use Rattle.stack_law.proofs.Digits.{backward_is_reversed}
use Rattle.stack_law.proofs.walk_laws.backward_is_reversed.Goals as goal

pub returns : goal.returns
returns c = backward_is_reversed
