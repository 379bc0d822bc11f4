-- Cells whose intervals share a position are nested.
use Rattle.std.proofs.Common.{◌≡◌, ℕ, suc, ◌+◌, ◌-◌, ◌*◌, ◌^◌, ◌<◌, ◌≤◌, arith, sym, ap, ◌∙◌}
use Rattle.std.proofs.Math.Nat.{pow-zero, mul-le-mul_right, lt_of_mul-lt-mul_left}
use Rattle.std.proofs.lemmas.Nat.{pow-add}
use Rattle.peano_keys.specs.declared.cell.CellKey.{CellKey}
use Rattle.peano_keys.specs.declared.dim.Dim.{Dim}
use Rattle.peano_keys.specs.Dim.{children}
use Rattle.peano_keys.specs.Cell.{IsCell}
use Rattle.peano_curve.specs.Order.{rank_of, width_of, interval_of}
use Rattle.peano_curve.specs.Run.{Holds}
use Rattle.peano_curve.specs.Laws.{IsIn}
use Rattle.peano_curve.proofs.Ranks.{width_positive}
use Rattle.peano_curve.proofs.Gray.{ranks_tell_apart}
use Rattle.peano_curve.proofs.Ancestors.{interval_is_descendants}

-- a row of `k` parts and one part that share a position
rows : (r s k w p : ℕ) → r * (k * w) ≤ p → p < r * (k * w) + k * w → s * w ≤ p → p < s * w + w → (r * k ≤ s) × (s < r * k + k)
rows r s k w p low high from to =
    let whole : w * (r * k) ≡ r * (k * w) = grind arith in
    let next : w * suc s ≡ s * w + w = grind arith in
    let here : w * s ≡ s * w = grind arith in
    let after : w * (r * k + k) ≡ r * (k * w) + k * w = grind arith in
    let one : r * k < suc s = lt_of_mul-lt-mul_left w (omega arith) in
    let two : s < r * k + k = lt_of_mul-lt-mul_left w (omega arith) in
    (omega arith, two)

-- and a part of the row
part_of : (r s k w : ℕ) → r * k ≤ s → s < r * k + k → (r * (k * w) ≤ s * w) × (s * w + w ≤ r * (k * w) + k * w)
part_of r s k w low high =
    let one : r * k * w ≤ s * w = mul-le-mul_right w low in
    let two : suc s * w ≤ (r * k + k) * w = mul-le-mul_right w high in
    let next : suc s * w ≡ s * w + w = grind arith in
    let after : (r * k + k) * w ≡ r * (k * w) + k * w = grind arith in
    let whole : r * k * w ≡ r * (k * w) = grind arith in
    (omega arith, omega arith)

module _ (dim : Dim) (depth : ℕ) (a b : CellKey) (ha : IsCell dim a) (hb : IsCell dim b) (level : a.level ≤ b.level) (deep : b.level ≤ depth) where
  abbrev parts : ℕ
  parts = children dim ^ (b.level - a.level)

  abbrev width : ℕ
  width = width_of dim b.level depth

  wide : width_of dim a.level depth ≡ parts * width
  wide =
      let e : b.level - a.level + (depth - b.level) ≡ depth - a.level = omega arith in
      ap (λ k. children dim ^ k) (sym e) ∙ pow-add (children dim) (b.level - a.level) (depth - b.level)

  start_is : rank_of dim a * width_of dim a.level depth ≡ rank_of dim a * (parts * width)
  start_is = ap (λ w. rank_of dim a * w) wide

  pub nested : (p : ℕ) → Holds (interval_of dim a depth) p → Holds (interval_of dim b depth) p → IsIn a b
  nested p one two = (interval_is_descendants dim a b ha hb level).0 (rows (rank_of dim a) (rank_of dim b) parts width p (omega (arith, one.0, start_is)) (omega (arith, one.1, start_is, wide)) two.0 two.1)

  pub inside : IsIn a b → ((interval_of dim a depth).lo ≤ (interval_of dim b depth).lo) × ((interval_of dim b depth).hi ≤ (interval_of dim a depth).hi)
  inside h =
      let at = (interval_is_descendants dim a b ha hb level).1 h in
      let r = part_of (rank_of dim a) (rank_of dim b) parts width at.0 at.1 in
      (omega (arith, r.0, start_is), omega (arith, r.1, start_is, wide))

  pub same_level : a.level ≡ b.level → IsIn a b → a ≡ b
  same_level e h =
      let at = (interval_is_descendants dim a b ha hb level).1 h in
      let none : b.level - a.level ≡ 0 = omega arith in
      let one : parts ≡ 1 = ap (λ k. children dim ^ k) none ∙ pow-zero (children dim) in
      let first : rank_of dim a * parts ≡ rank_of dim a = ap (λ k. rank_of dim a * k) one ∙ omega arith in
      ranks_tell_apart dim a b ha hb e (omega (arith, at.0, at.1, first, one))

pub interval_wide : (dim : Dim) (depth : ℕ) (c : CellKey) → (interval_of dim c depth).lo < (interval_of dim c depth).hi
interval_wide dim depth c = omega (arith, width_positive dim (depth - c.level))
