-- The cells of a tree's range.
use Rattle.std.proofs.Common.{◌≡◌, ℕ, zero, suc, ◌+◌, ◌-◌, ◌*◌, ◌^◌, ◌<◌, ◌≤◌, ltb, Bool, true, false, ◌&&◌, arith, ⊎_elim}
use Rattle.std.proofs.lemmas.Bool.{cases_lt, ltb-true, lt-ltb}
use Rattle.std.proofs.Math.Nat.{pow-zero, pow-suc, mul-le-mul_right}
use Rattle.stack_law.specs.Boxes.{Axis, Column, Box, Direction, forward, backward, digit, column, ascends}
use Rattle.stack_law.specs.Order.{rank, counted}
use Rattle.stack_law.specs.Walk.{IsEmpty}
use Rattle.stack_walks.specs.Grids.{meets_range, both_hold}
use Rattle.stack_walks.specs.Instances.{RangesUseStacks, RangeTestIsExact}
use Rattle.stack_walks.specs.Visited.{RangesAreUnbroken, RangesAreClosed}
use Rattle.stack_law.proofs.Ways.{finer_column, counted_below, digit_below}
use Rattle.stack_law.proofs.Digits.{backward_is_reversed}
use Rattle.stack_walks.proofs.GivenCorners.{and_true}
use Rattle.stack_walks.proofs.Handing.{and_both}
use Rattle.stack_law.proofs.Held.{false_if}
use Rattle.stack_walks.proofs.Instances.{empty_left, empty_right, not_two, kept_vertices_use_stacks}

-- an interval of w positions, the p-th of its kind
abbrev meets : ℕ → ℕ → ℕ → ℕ → Bool
meets start stop w p = ltb start stop && (ltb (p * w) stop && ltb start ((p + 1) * w))

meets_between : (start stop w p q r : ℕ) → meets start stop w p ≡ true → meets start stop w r ≡ true → p ≤ q → q ≤ r → meets start stop w q ≡ true
meets_between start stop w p q r h k l m =
    let some = and_true (ltb start stop) _ h in
    let f = and_true (ltb (p * w) stop) _ some.1 in
    let g = and_true (ltb (r * w) stop) _ (and_true (ltb start stop) _ k).1 in
    let last = ltb-true _ _ g.0 in
    let begin = ltb-true _ _ f.1 in
    let below = mul-le-mul_right w m in
    let n : p + 1 ≤ q + 1 = omega arith in
    let above = mul-le-mul_right w n in
    and_both (ltb start stop) (ltb (q * w) stop && ltb start ((q + 1) * w)) some.0 (and_both (ltb (q * w) stop) (ltb start ((q + 1) * w)) (lt-ltb (q * w) stop (omega arith)) (lt-ltb start ((q + 1) * w) (omega arith)))

meets_whole : (start stop w p q : ℕ) → 3 * p ≤ q → q < 3 * p + 3 → meets start stop w q ≡ true → meets start stop (3 * w) p ≡ true
meets_whole start stop w p q l m h =
    let some = and_true (ltb start stop) _ h in
    let f = and_true (ltb (q * w) stop) _ some.1 in
    let last = ltb-true _ _ f.0 in
    let begin = ltb-true _ _ f.1 in
    let below = mul-le-mul_right w l in
    let n : q + 1 ≤ 3 * p + 3 = omega arith in
    let above = mul-le-mul_right w n in
    let a : p * (3 * w) ≡ 3 * p * w = omega arith in
    let b : (p + 1) * (3 * w) ≡ (3 * p + 3) * w = omega arith in
    and_both (ltb start stop) (ltb (p * (3 * w)) stop && ltb start ((p + 1) * (3 * w))) some.0 (and_both (ltb (p * (3 * w)) stop) (ltb start ((p + 1) * (3 * w))) (lt-ltb (p * (3 * w)) stop (omega arith)) (lt-ltb start ((p + 1) * (3 * w)) (omega arith)))

module _ (axis : ℕ → Axis) (splits start stop : ℕ) where
  abbrev held : ℕ → Box → Bool
  held = meets_range axis splits start stop

  -- held cells are unbroken along the curve, in both directions
  pub held_between : (dir : Direction) (m : ℕ) (a c b : Box) → held m a ≡ true → held m b ≡ true → rank dir axis (splits - m) m a ≤ rank dir axis (splits - m) m c → rank dir axis (splits - m) m c ≤ rank dir axis (splits - m) m b → held m c ≡ true
  held_between forward m a c b h k l n = meets_between start stop (3 ^ m) _ (rank forward axis (splits - m) m c) _ h k l n
  held_between backward m a c b h k l n =
      let e = backward_is_reversed forward axis (splits - m) m a in
      let f = backward_is_reversed forward axis (splits - m) m b in
      let g = backward_is_reversed forward axis (splits - m) m c in
      meets_between start stop (3 ^ m) (rank forward axis (splits - m) m b) (rank forward axis (splits - m) m c) (rank forward axis (splits - m) m a) k h (omega arith) (omega arith)

  -- no part of a box that is not held is held
  part_not_held : (m : ℕ) (k : Column) (b : Box) → m < splits → held (suc m) b ≡ false → held m (column (axis (suc m)) k b) ≡ false
  part_not_held m k b l e =
      let n = splits - suc m in
      let at_n : splits - m ≡ suc n = omega arith in
      let a = axis (suc m) in
      let p = rank forward axis n (suc m) b in
      let d = counted_below (ascends forward a b) (digit k) (digit_below k) in
      let power : 3 ^ suc m ≡ 3 * 3 ^ m = (let q = pow-suc 3 m in omega arith) in
      rw (at_n, finer_column forward a (rank forward axis n (suc m)) k b)
      (false_if _ (λ t. (let whole = meets_whole start stop (3 ^ m) p (3 * p + counted (ascends forward a b) (digit k)) (omega arith) (omega arith) t in let e' = rw power at e in cc)))

  not_held_empty : (is_cell : ℕ → Bool) (m : ℕ) (b : Box) → m ≤ splits → held m b ≡ false → IsEmpty axis is_cell held m b
  not_held_empty is_cell zero b l e = (λ c. e)
  not_held_empty is_cell (suc m) b l e = ((λ c. e), (λ k. not_held_empty is_cell m (column (axis (suc m)) k b) (omega arith) (part_not_held m k b (omega arith) e)))

pub ranges_are_unbroken : RangesAreUnbroken
ranges_are_unbroken dir axis is_cell splits start stop cells kept stored m v c l k a b d va vb inside touching p q =
    and_both _ _ (stored m v c l k d inside touching) (held_between axis splits start stop dir m a d b (and_true (cells m a) _ va.2).1 (and_true (cells m b) _ vb.2).1 p q)

pub ranges_are_closed : RangesAreClosed
ranges_are_closed axis is_cell splits start stop cells is_open closed m b k l c e =
    ⊎_elim (λ f. empty_left axis is_cell cells in_range m (column (axis (suc m)) k b) (closed m b k l c f)) (λ f. empty_right axis is_cell cells in_range m (column (axis (suc m)) k b) (not_held_empty axis splits start stop is_cell m (column (axis (suc m)) k b) (omega arith) (part_not_held axis splits start stop m k b l f))) (not_two (is_open (suc m) b) (in_range (suc m) b) e)
  where
    in_range : ℕ → Box → Bool
    in_range = meets_range axis splits start stop

pub ranges_use_stacks : RangesUseStacks
ranges_use_stacks dir axis is_cell splits start stop cells is_open kept stored closed =
    kept_vertices_use_stacks dir axis is_cell splits (both_hold cells in_range) (both_hold is_open in_range) kept
    (ranges_are_unbroken dir axis is_cell splits start stop cells kept stored)
    (ranges_are_closed axis is_cell splits start stop cells is_open closed)
  where
    in_range : ℕ → Box → Bool
    in_range = meets_range axis splits start stop

power_positive : (m : ℕ) → 0 < 3 ^ m
power_positive zero = rw (pow-zero 3) (omega arith)
power_positive (suc m) = (let h = power_positive m in rw (pow-suc 3 m) (omega arith))

module _ (start stop w r : ℕ) where
  abbrev Common : Type 0
  Common = (p : ℕ) × (start ≤ p) × (p < stop) × (r * w ≤ p) × (p < (r + 1) * w)

  meets_tells : 0 < w → meets start stop w r ≡ true → Common
  meets_tells positive t =
      let f = and_true (ltb start stop) _ t in
      let g = and_true (ltb (r * w) stop) _ f.1 in
      let some = ltb-true _ _ f.0 in
      let last = ltb-true _ _ g.0 in
      let begin = ltb-true _ _ g.1 in
      ⊎_elim (λ l. (start, omega arith, some, omega arith, begin)) (λ l. (r * w, l, last, omega arith, omega arith)) (cases_lt (r * w) start)

  meets_told : Common → meets start stop w r ≡ true
  meets_told c =
      let some : start < stop = omega arith in
      let last : r * w < stop = omega arith in
      let begin : start < (r + 1) * w = omega arith in
      and_both (ltb start stop) (ltb (r * w) stop && ltb start ((r + 1) * w)) (lt-ltb start stop some) (and_both (ltb (r * w) stop) (ltb start ((r + 1) * w)) (lt-ltb (r * w) stop last) (lt-ltb start ((r + 1) * w) begin))

pub range_test_is_exact : RangeTestIsExact
range_test_is_exact axis splits start stop m b = (meets_tells start stop (3 ^ m) (rank forward axis (splits - m) m b) (power_positive m), meets_told start stop (3 ^ m) (rank forward axis (splits - m) m b))
