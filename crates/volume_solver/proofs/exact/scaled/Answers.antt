use Rattle.std.proofs.Common.{arith, lit<}
use Rattle.std.specs.Prelude.{pos, ◌*ℤ◌}
use Rattle.std.proofs.lemmas.Int.{to_z-of_z, fits_signed_mul, unsigned_abs-mul}
use Rattle.std.proofs.lemmas.Nat.{mul-le}
use Rattle.std.specs.Int.RustNames.{FitsSigned}
use Rattle.std.specs.Int.{w128}
use Rattle.volume_solver.proofs.exact.scaled.Goals as goal

pub returns-clause-value : goal.returns-clause-value
returns-clause-value c =
    let fits : FitsSigned w128 (c.args.coefficient *ℤ pos c.args.scale) = fits_signed_mul w128 c.args.coefficient (pos c.args.scale) 1000000 282429536481 c.requires.coefficient c.requires.scale (lit< tt) in
    grind (arith, to_z-of_z, fits, c.from.ensures, c.from-2.ensures)

pub returns-clause-bound : goal.returns-clause-bound
returns-clause-bound c =
    let fits : FitsSigned w128 (c.args.coefficient *ℤ pos c.args.scale) = fits_signed_mul w128 c.args.coefficient (pos c.args.scale) 1000000 282429536481 c.requires.coefficient c.requires.scale (lit< tt) in
    let size = unsigned_abs-mul c.args.coefficient (pos c.args.scale) in
    let most = mul-le _ _ 1000000 282429536481 c.requires.coefficient c.requires.scale in
    grind (arith, to_z-of_z, fits, size, most, c.from.ensures, c.from-2.ensures)
