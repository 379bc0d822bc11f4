-- The next cell round a vertex, in keys.
use Rattle.std.proofs.Common.{◌≡◌, ℕ, suc, ◌+◌, ◌-◌, ◌/◌, ◌<◌, arith, sym, subst, ◌∙◌, Option, Some}
use Rattle.peano_keys.specs.declared.cell.CellKey.{CellKey}
use Rattle.peano_keys.specs.declared.dim.Dim.{Dim}
use Rattle.peano_keys.specs.Cell.{IsCell, at}
use Rattle.peano_curve.specs.declared.order.Direction.{Direction}
use Rattle.peano_curve.specs.Order.{rank_from}
use Rattle.peano_curve.specs.Passing.{AreBeside, TurnsOn, Crosses}
use Rattle.peano_curve.proofs.Splits.{Quiet}
use Rattle.peano_curve.proofs.Levels.{Within}
use Rattle.peano_curve.proofs.Turns.{next_third, next_second, next_first, next_above}

within : (dim : Dim) (l : ℕ) (c : CellKey) → IsCell dim c → c.level ≡ l → Within dim l (at c 0) (at c 1) (at c 2)
within dim l c h e = subst (λ l. Within dim l (at c 0) (at c 1) (at c 2)) e (h.first, h.second, h.third)

-- the turn from a cell to the next, on the axis where the curve crosses
module _ (dir : Direction) (dim : Dim) (c d : CellKey) (cell : IsCell dim c) (other : IsCell dim d) (b : AreBeside c d) (below : 0 < c.level) where
  up : c.level ≡ suc (c.level - 1)
  up = omega (arith, below)

  abbrev Turn : Option ℕ → Type 0
  Turn o = TurnsOn dir (rank_from dim c.level) (at c 0) (at c 1) (at c 2) (at d 0) (at d 1) (at d 2) o

  down : (o : Option ℕ) → TurnsOn dir (rank_from dim (suc (c.level - 1))) (at c 0) (at c 1) (at c 2) (at d 0) (at d 1) (at d 2) o → Turn o
  down o h = subst (λ l. TurnsOn dir (rank_from dim l) (at c 0) (at c 1) (at c 2) (at d 0) (at d 1) (at d 2) o) (sym up) h

  pub turn_third : Crosses dir (at c 0 + at c 1) (at c 2) (at d 2) → Turn (Some 2)
  turn_third crosses = down (Some 2) (next_third dir (c.level - 1) _ _ _ _ _ _ b.first b.second b.third dim (within dim _ c cell up) (within dim _ d other (sym b.level ∙ up)) crosses)

  pub turn_second : Quiet dir (at c 0 + at c 1) (at c 2) (at d 2) → Crosses dir (at c 0 + at c 2 / 3) (at c 1) (at d 1) → Turn (Some 1)
  turn_second still crosses = down (Some 1) (next_second dir (c.level - 1) _ _ _ _ _ _ b.first b.second b.third dim (within dim _ c cell up) (within dim _ d other (sym b.level ∙ up)) still crosses)

  pub turn_first : Quiet dir (at c 0 + at c 1) (at c 2) (at d 2) → Quiet dir (at c 0 + at c 2 / 3) (at c 1) (at d 1) → Crosses dir (at c 1 / 3 + at c 2 / 3) (at c 0) (at d 0) → Turn (Some 0)
  turn_first still more crosses = down (Some 0) (next_first dir (c.level - 1) _ _ _ _ _ _ b.first b.second b.third dim (within dim _ c cell up) (within dim _ d other (sym b.level ∙ up)) still more crosses)

  pub turn_up : (o : Option ℕ) → Quiet dir (at c 0 + at c 1) (at c 2) (at d 2) → Quiet dir (at c 0 + at c 2 / 3) (at c 1) (at d 1) → Quiet dir (at c 1 / 3 + at c 2 / 3) (at c 0) (at d 0) → TurnsOn dir (rank_from dim (c.level - 1)) (at c 0 / 3) (at c 1 / 3) (at c 2 / 3) (at d 0 / 3) (at d 1 / 3) (at d 2 / 3) o → Turn o
  turn_up o still more most h = down o (next_above dir (c.level - 1) _ _ _ _ _ _ b.first b.second b.third dim (within dim _ c cell up) (within dim _ d other (sym b.level ∙ up)) o still more most h)
