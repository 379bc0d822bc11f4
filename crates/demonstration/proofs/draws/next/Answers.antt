use Rattle.std.proofs.Math.Nat.{mod-add-mod}
use Rattle.demonstration.specs.Draws.{next_number}
use Rattle.demonstration.proofs.draws.next.Goals as goal

pub returns : goal.returns
unfolding next_number
returns c = mod-add-mod _ _ _
