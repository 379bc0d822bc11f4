use Rattle.peano_records.proofs.Fresh.{fresh_says_outside}
use Rattle.peano_records.proofs.laws.new_says_outside_by_coordinates.Goals as goal

pub returns : goal.returns
returns c = fresh_says_outside
