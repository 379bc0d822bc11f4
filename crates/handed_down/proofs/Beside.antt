-- The places beside a cell.
use Rattle.std.proofs.Common.{◌≡◌, ℕ, ◌+◌, ◌-◌, ◌*◌, ◌/◌, ◌%◌, ◌<◌, ◌≤◌, arith, sym, ◌∙◌}
use Rattle.peano_keys.specs.declared.cell.CellKey.{CellKey}
use Rattle.peano_keys.specs.declared.dim.Dim.{Dim}
use Rattle.peano_keys.specs.Cell.{IsCell, at, triple}
use Rattle.peano_keys.proofs.Positions.{same_cell}
use Rattle.peano_curve.specs.declared.range.Range.{Range}
use Rattle.peano_curve.specs.Passing.{AreBeside}
use Rattle.handed_down.specs.Across.{HasAllRound, StandsBeside, HasBeside}

-- the cell at a place, by its coordinates
abbrev there : CellKey → ℕ → CellKey
there c j = record { level = c.level; x = triple (at c 0 + j % 3 - 1) (at c 1 + j / 3 % 3 - 1) (at c 2 + j / 9 - 1) }

there_is : (dim : Dim) (c q : CellKey) (j : ℕ) → IsCell dim q → StandsBeside c j q → there c j ≡ q
there_is dim c q j cell s = same_cell q c.level (at c 0 + j % 3 - 1) (at c 1 + j / 3 % 3 - 1) (at c 2 + j / 9 - 1) cell.shape s.level (omega (arith, s.first)) (omega (arith, s.second)) (omega (arith, s.third))

-- one cell at most stands at a place
pub one_beside : (dim : Dim) (c q o : CellKey) (j : ℕ) → IsCell dim q → StandsBeside c j q → IsCell dim o → StandsBeside c j o → q ≡ o
one_beside dim c q o j cq sq co so = sym (there_is dim c q j cq sq) ∙ there_is dim c o j co so

-- it is beside the cell
are_beside : (c q : CellKey) (j : ℕ) → j < 27 → StandsBeside c j q → AreBeside c q
are_beside c q j h s = record {
  level = s.level;
  first = record { low = omega (arith, s.first); high = omega (arith, s.first) };
  second = record { low = omega (arith, s.second); high = omega (arith, s.second) };
  third = record { low = omega (arith, s.third); high = omega (arith, s.third) };
}

-- the place of a cell that is beside another
abbrev place : CellKey → CellKey → ℕ
place c q = at q 0 + 1 - at c 0 + 3 * (at q 1 + 1 - at c 1) + 9 * (at q 2 + 1 - at c 2)

digits : (a b c : ℕ) → a ≤ 2 → b ≤ 2 → c ≤ 2 → ((a + 3 * b + 9 * c) % 3 ≡ a) × ((a + 3 * b + 9 * c) / 3 % 3 ≡ b) × ((a + 3 * b + 9 * c) / 9 ≡ c) × (a + 3 * b + 9 * c < 27)
digits a b c ha hb hc = (omega arith, omega arith, omega arith, omega arith)

at_place : (c q : CellKey) → AreBeside c q → (place c q < 27) × StandsBeside c (place c q) q
at_place c q b =
    let d = digits (at q 0 + 1 - at c 0) (at q 1 + 1 - at c 1) (at q 2 + 1 - at c 2) (omega (arith, b.first.high)) (omega (arith, b.second.high)) (omega (arith, b.third.high)) in
    (d.3, record { level = b.level; first = omega (arith, d.0, b.first.low); second = omega (arith, d.1, b.second.low); third = omega (arith, d.2, b.third.low) })

module _ (dim : Dim) (depth : ℕ) (r : Range) (c : CellKey) where
  pub all_beside : HasAllRound dim depth r c → (j : ℕ) → j < 27 → HasBeside dim depth r c j
  all_beside h j below q cell s = h q cell (are_beside c q j below s)

  pub beside_all : ((j : ℕ) → j < 27 → HasBeside dim depth r c j) → HasAllRound dim depth r c
  beside_all h q cell b = let p = at_place c q b in h (place c q) p.0 q cell p.1
