-- Ranks of ancestors and of descendants.
use Rattle.std.proofs.Common.{◌≡◌, ℕ, zero, suc, ◌+◌, ◌-◌, ◌*◌, ◌/◌, ◌%◌, ◌^◌, ◌<◌, ◌≤◌, arith, refl, sym, ap, subst, ◌∙◌, sub-one}
use Rattle.std.proofs.lemmas.Bool.Decides.{nat_tests}
use Rattle.std.proofs.Math.Nat.{pow-zero, pow-succ', div-div-eq-div-mul, lt_of_mul-lt-mul_left, mul_comm}
use Rattle.std.proofs.lemmas.Nat.{pow-add, div_below}
use Rattle.peano_keys.specs.declared.cell.CellKey.{CellKey}
use Rattle.peano_keys.specs.declared.dim.Dim.{Dim}
use Rattle.peano_keys.specs.declared.dim.Dim.TheVariants.{Two, Three}
use Rattle.peano_keys.specs.Dim.{third_extent, children}
use Rattle.peano_keys.specs.Cell.{IsCell, at}
use Rattle.peano_keys.proofs.Powers.{pow3_positive}
use Rattle.peano_curve.specs.Order.{place_of, rank_from, rank_of, interval_of}
use Rattle.peano_curve.specs.Run.{Holds}
use Rattle.peano_curve.specs.Laws.{ancestor_of, IsIn, IntervalIsDescendants}
use Rattle.peano_curve.proofs.Ranks.{rank_below}
use Rattle.peano_curve.proofs.Gray.{ranks_tell_apart}

div_up : (x m : ℕ) → x / 3 / 3 ^ m ≡ x / 3 ^ suc m
div_up x m = div-div-eq-div-mul x 3 (3 ^ m) ∙ ap (λ n. x / n) (sym (pow-succ' 3 m))

place_below : (dim : Dim) (x0 x1 x2 k0 k1 k2 : ℕ) → k0 < 3 → k1 < 3 → k2 < 3 → place_of dim x0 x1 x2 k0 k1 k2 < children dim
place_below Two x0 x1 x2 k0 k1 k2 h0 h1 h2 = grind (arith, nat_tests)
place_below Three x0 x1 x2 k0 k1 k2 h0 h1 h2 = grind (arith, nat_tests)

-- the rank among descendants `m` levels below stays below their number
pub rank_bound : (dim : Dim) (m x0 x1 x2 : ℕ) → rank_from dim m x0 x1 x2 < children dim ^ m
rank_bound dim zero x0 x1 x2 = omega (arith, pow-zero (children dim))
rank_bound dim (suc m) x0 x1 x2 = rank_below (children dim) (rank_from dim m (x0 / 3) (x1 / 3) (x2 / 3)) (place_of dim (x0 / 3) (x1 / 3) (x2 / 3) (x0 % 3) (x1 % 3) (x2 % 3)) (suc m) (omega arith) (rw sub-one (rank_bound dim m (x0 / 3) (x1 / 3) (x2 / 3))) (place_below dim (x0 / 3) (x1 / 3) (x2 / 3) (x0 % 3) (x1 % 3) (x2 % 3) (omega arith) (omega arith) (omega arith))

one_level : (n w a b p : ℕ) → n * (w * a + b) + p ≡ n * w * a + (n * b + p)
one_level n w a b p = grind arith

-- a rank is the ancestor's, and the rank among the descendants of that ancestor
pub rank_parts : (dim : Dim) (k m x0 x1 x2 : ℕ) → rank_from dim (k + m) x0 x1 x2 ≡ children dim ^ m * rank_from dim k (x0 / 3 ^ m) (x1 / 3 ^ m) (x2 / 3 ^ m) + rank_from dim m x0 x1 x2
rank_parts dim k zero x0 x1 x2 =
    let e : k + 0 ≡ k = omega arith in
    let one = pow-zero 3 in
    let unit = pow-zero (children dim) in
    let y0 : x0 / 3 ^ 0 ≡ x0 = omega arith in
    let y1 : x1 / 3 ^ 0 ≡ x1 = omega arith in
    let y2 : x2 / 3 ^ 0 ≡ x2 = omega arith in
    rw (e, y0, y1, y2, unit) (omega arith)
rank_parts dim k (suc m) x0 x1 x2 =
    let e : k + suc m ≡ suc (k + m) = omega arith in
    let p : ℕ = place_of dim (x0 / 3) (x1 / 3) (x2 / 3) (x0 % 3) (x1 % 3) (x2 % 3) in
    let above = rank_parts dim k m (x0 / 3) (x1 / 3) (x2 / 3) in
    ap (λ l. rank_from dim l x0 x1 x2) e
    ∙ ap (λ r. children dim * r + p) above
    ∙ one_level (children dim) (children dim ^ m) (rank_from dim k (x0 / 3 / 3 ^ m) (x1 / 3 / 3 ^ m) (x2 / 3 / 3 ^ m)) (rank_from dim m (x0 / 3) (x1 / 3) (x2 / 3)) p
    ∙ ap (λ w. w * rank_from dim k (x0 / 3 / 3 ^ m) (x1 / 3 / 3 ^ m) (x2 / 3 / 3 ^ m) + rank_from dim (suc m) x0 x1 x2) (sym (pow-succ' (children dim) m))
    ∙ ap (λ r. children dim ^ suc m * r + rank_from dim (suc m) x0 x1 x2) (ap (λ a. rank_from dim k a (x1 / 3 / 3 ^ m) (x2 / 3 / 3 ^ m)) (div_up x0 m) ∙ ap (λ a. rank_from dim k (x0 / 3 ^ suc m) a (x2 / 3 / 3 ^ m)) (div_up x1 m) ∙ ap (λ a. rank_from dim k (x0 / 3 ^ suc m) (x1 / 3 ^ suc m) a) (div_up x2 m))

pub rank_of_ancestor : (dim : Dim) (a : CellKey) (l : ℕ) → l ≤ a.level → rank_of dim a ≡ children dim ^ (a.level - l) * rank_of dim (ancestor_of a l) + rank_from dim (a.level - l) (at a 0) (at a 1) (at a 2)
rank_of_ancestor dim a l h = let e : a.level ≡ l + (a.level - l) = omega arith in ap (λ n. rank_from dim n (at a 0) (at a 1) (at a 2)) e ∙ rank_parts dim l (a.level - l) (at a 0) (at a 1) (at a 2)

pub pow3_parts : (l n : ℕ) → l ≤ n → 3 ^ n ≡ 3 ^ l * 3 ^ (n - l)
pow3_parts l n h = let e : n ≡ l + (n - l) = omega arith in ap (λ k. 3 ^ k) e ∙ pow-add 3 l (n - l)

-- the ancestor of a cell is a cell
pub ancestor_cell : (dim : Dim) (a : CellKey) (l : ℕ) → IsCell dim a → l ≤ a.level → IsCell dim (ancestor_of a l)
ancestor_cell dim a l cell h =
    let parts = pow3_parts l a.level h in
    let pos = pow3_positive (a.level - l) in
    record {
      shape = refl;
      level = omega (arith, cell.level);
      first = div_below (at a 0) (3 ^ (a.level - l)) (3 ^ l) pos (subst (λ e. at a 0 < e) parts cell.first);
      second = div_below (at a 1) (3 ^ (a.level - l)) (3 ^ l) pos (subst (λ e. at a 1 < e) parts cell.second);
      third = third dim cell.third;
    }
  where
    third : (dim : Dim) → at a 2 < third_extent dim (3 ^ a.level) → at a 2 / 3 ^ (a.level - l) < third_extent dim (3 ^ l)
    third Two x = div_below (at a 2) (3 ^ (a.level - l)) 1 (pow3_positive (a.level - l)) (omega (arith, pow3_positive (a.level - l)))
    third Three x = div_below (at a 2) (3 ^ (a.level - l)) (3 ^ l) (pow3_positive (a.level - l)) (subst (λ e. at a 2 < e) (pow3_parts l a.level h) x)

-- of two rows of one width, one holds a position of the other
same_row : (w r s b : ℕ) → b < w → r * w ≤ w * s + b → w * s + b < r * w + w → r ≡ s
same_row w r s b below low high =
    let row : r * w ≡ w * r = mul_comm r w in
    let next : w * suc s ≡ w * s + w = grind arith in
    let after : w * suc r ≡ w * r + w = grind arith in
    let one : r < suc s = lt_of_mul-lt-mul_left w (omega arith) in
    let two : s < suc r = lt_of_mul-lt-mul_left w (omega arith) in
    omega arith

module _ (dim : Dim) (p a : CellKey) (hp : IsCell dim p) (ha : IsCell dim a) (level : p.level ≤ a.level) where
  abbrev w : ℕ
  w = children dim ^ (a.level - p.level)

  abbrev b : ℕ
  b = rank_from dim (a.level - p.level) (at a 0) (at a 1) (at a 2)

  below : b < w
  below = rank_bound dim (a.level - p.level) (at a 0) (at a 1) (at a 2)

  parts : rank_of dim a ≡ w * rank_of dim (ancestor_of a p.level) + b
  parts = rank_of_ancestor dim a p.level level

  in_interval : Holds (interval_of dim p a.level) (rank_of dim a) → IsIn p a
  in_interval h = record { level = level; ancestor = ranks_tell_apart dim (ancestor_of a p.level) p (ancestor_cell dim a p.level ha level) hp refl (sym (same_row w (rank_of dim p) (rank_of dim (ancestor_of a p.level)) b below (omega (arith, h.0, parts)) (omega (arith, h.1, parts)))) }

  is_held : IsIn p a → Holds (interval_of dim p a.level) (rank_of dim a)
  is_held h =
      let same : rank_of dim (ancestor_of a p.level) ≡ rank_of dim p = ap (rank_of dim) h.ancestor in
      let whole : rank_of dim a ≡ w * rank_of dim p + b = parts ∙ ap (λ r. w * r + b) same in
      let row : rank_of dim p * w ≡ w * rank_of dim p = mul_comm (rank_of dim p) w in
      (omega (arith, whole, row), omega (arith, whole, row, below))

pub interval_is_descendants : IntervalIsDescendants
interval_is_descendants dim p a hp ha level = (in_interval dim p a hp ha level, is_held dim p a hp ha level)
