use Rattle.stack_law.proofs.Digits.{extents_are_powers}
use Rattle.stack_law.proofs.walk_laws.extents_are_powers.Goals as goal

pub returns : goal.returns
returns c = extents_are_powers
