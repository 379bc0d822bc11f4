use Rattle.spacetree.proofs.Merged.{merge_takes_value}
use Rattle.spacetree.proofs.laws.merge_takes_value.Goals as goal

pub returns : goal.returns
returns c = merge_takes_value
