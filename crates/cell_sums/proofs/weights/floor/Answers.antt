use Rattle.std.proofs.Common.{rules}
use Rattle.std.specs.Int.{w64}
use Rattle.std.specs.Int.RustNames.{FitsSigned}
use Rattle.peano_keys.specs.Sums.{floor_of}
use Rattle.cell_sums.specs.Bounds.{least_word, greatest_word}
use Rattle.cell_sums.proofs.Bounds.{floor_is_between, between_word}
use Rattle.cell_sums.proofs.weights.floor.Goals as goal

pub returns : goal.returns
returns c =
    let fits : FitsSigned w64 (floor_of c.args.sum c.args.weight) = between_word (floor_of c.args.sum c.args.weight) (floor_is_between least_word greatest_word c.args.sum c.args.weight c.requires.some c.requires.between) in
    search rules
