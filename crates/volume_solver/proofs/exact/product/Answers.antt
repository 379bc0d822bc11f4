use Rattle.std.proofs.Common.{◌^◌, ◌-◌, arith, lit<}
use Rattle.std.specs.Prelude.{◌*ℤ◌}
use Rattle.std.proofs.lemmas.Int.{to_z-of_z, fits_signed_mul, unsigned_abs-mul}
use Rattle.std.proofs.lemmas.Nat.{mul-le}
use Rattle.std.specs.Int.RustNames.{FitsSigned, unsigned_abs}
use Rattle.std.specs.Int.{w128}
use Rattle.volume_solver.proofs.exact.product.Goals as goal

pub returns-clause-value : goal.returns-clause-value
returns-clause-value c =
    let fits : FitsSigned w128 (c.args.factor *ℤ c.args.sum) = fits_signed_mul w128 c.args.factor c.args.sum 282429536481000000 (2 ^ 67 - 1) c.requires.factor (omega arith) (lit< tt) in
    grind (arith, to_z-of_z, fits)

pub returns-clause-bound : goal.returns-clause-bound
returns-clause-bound c =
    let fits : FitsSigned w128 (c.args.factor *ℤ c.args.sum) = fits_signed_mul w128 c.args.factor c.args.sum 282429536481000000 (2 ^ 67 - 1) c.requires.factor (omega arith) (lit< tt) in
    let size = unsigned_abs-mul c.args.factor c.args.sum in
    let most = mul-le (unsigned_abs c.args.factor) (unsigned_abs c.args.sum) 282429536481000000 (unsigned_abs c.args.sum) c.requires.factor (omega arith) in
    grind (arith, to_z-of_z, fits, size, most)
