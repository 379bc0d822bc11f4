use Rattle.std.proofs.Common.{arith, lit<, sym, subst}
use Rattle.std.specs.Prelude.{pos, ◌*ℤ◌}
use Rattle.std.specs.Int.{w128}
use Rattle.std.specs.Int.RustNames.{FitsSigned}
use Rattle.std.proofs.lemmas.Int.{to_z-of_z, fits_signed_mul}
use Rattle.cell_sums.specs.Bounds.{WeighsBetween, least_word, greatest_word}
use Rattle.cell_sums.proofs.Bounds.{weighed, word_between, word_size}
use Rattle.cell_sums.proofs.weights.weighed.Goals as goal

pub returns-clause-value : goal.returns-clause-value
returns-clause-value c =
    let fits : FitsSigned w128 (c.args.number *ℤ pos c.args.weight) = fits_signed_mul w128 c.args.number (pos c.args.weight) 9223372036854775808 150094635296999121 (word_size c.args.number c.ranges.number) c.requires (lit< tt) in
    grind (arith, to_z-of_z, fits, c.from.ensures, c.from-2.ensures)

pub returns-clause-between : goal.returns-clause-between
returns-clause-between c = subst (WeighsBetween least_word greatest_word c.args.weight) (sym (returns-clause-value c)) (weighed least_word greatest_word c.args.number c.args.weight (word_between c.args.number c.ranges.number))
