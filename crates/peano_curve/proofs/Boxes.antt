-- The rank of a cell by digits, beside the place of its box by splits.
use Rattle.std.proofs.Common.{◌≡◌, ℕ, zero, suc, ◌/◌, ◌*◌, arith, refl, sym, ap, ◌∙◌}
use Rattle.peano_keys.specs.declared.cell.CellKey.{CellKey}
use Rattle.peano_keys.specs.declared.dim.Dim.TheVariants.{Two, Three}
use Rattle.peano_keys.specs.Cell.{IsCell, at}
use Rattle.stack_law.specs.Boxes.{forward}
use Rattle.stack_law.specs.Domain.{axis_in}
use Rattle.stack_law.specs.Order.{rank}
use Rattle.stack_law.specs.Digits.{rank_two, rank_three}
use Rattle.stack_law.proofs.Digits.{ranks_are_of_digits}
use Rattle.peano_curve.specs.Order.{rank_from}
use Rattle.peano_curve.specs.Splits.{RanksArePlaces}

two : (l x0 x1 x2 : ℕ) → rank_from Two l x0 x1 x2 ≡ rank_two l x0 x1
two zero x0 x1 x2 = refl
two (suc l) x0 x1 x2 = rw (two l (x0 / 3) (x1 / 3) (x2 / 3)) refl

three : (l x0 x1 x2 : ℕ) → rank_from Three l x0 x1 x2 ≡ rank_three l x0 x1 x2
three zero x0 x1 x2 = refl
three (suc l) x0 x1 x2 = rw (three l (x0 / 3) (x1 / 3) (x2 / 3)) refl

-- in the plane the third coordinate is 0
flat : (c : CellKey) → IsCell Two c → at c 2 ≡ 0
flat c cell = omega (arith, cell.third)

pub ranks_are_places : RanksArePlaces
ranks_are_places Two c below cell = two c.level (at c 0) (at c 1) (at c 2) ∙ sym (ranks_are_of_digits.0 c.level below (at c 0) (at c 1)) ∙ ap (λ x2. rank forward (axis_in 2) (2 * c.level) (2 * below) (record { x0 = at c 0; x1 = at c 1; x2 = x2 })) (sym (flat c cell))
ranks_are_places Three c below cell = three c.level (at c 0) (at c 1) (at c 2) ∙ sym (ranks_are_of_digits.1 c.level below (at c 0) (at c 1) (at c 2))
