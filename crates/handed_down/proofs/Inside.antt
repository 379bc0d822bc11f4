-- Held cells, handed down.
use Rattle.std.proofs.Common.{◌≡◌, ℕ, suc, ◌+◌, ◌-◌, ◌*◌, ◌^◌, ◌<◌, ◌≤◌, arith, ⊎_elim, refl, sym, ap, subst, ◌∙◌, Option, Some, None}
use Rattle.std.specs.Prelude.{MatchOption}
use Rattle.std.proofs.lemmas.Bool.Decides.{nat_tests}
use Rattle.std.proofs.Math.Nat.{pow-zero, pow-suc, mul-le-mul_right}
use Rattle.peano_keys.specs.declared.cell.CellKey.{CellKey}
use Rattle.peano_keys.specs.Dim.{third_extent, children}
use Rattle.peano_keys.specs.declared.dim.Dim.{Dim}
use Rattle.peano_keys.specs.declared.dim.Dim.TheVariants.{Two, Three}
use Rattle.peano_keys.proofs.Positions.{same_cell}
use Rattle.peano_curve.proofs.Held.{last_held}
use Rattle.peano_keys.specs.Cell.{root, IsCell, at, parent_of}
use Rattle.peano_keys.specs.Vertex.{Touches, corner_of}
use Rattle.peano_curve.specs.declared.order.Direction.{Direction}
use Rattle.peano_curve.specs.declared.order.Direction.TheVariants.{Forward, Backward}
use Rattle.peano_curve.specs.declared.range.Range.{Range}
use Rattle.peano_curve.specs.Order.{sibling_place, rank_of, width_of, interval_of}
use Rattle.peano_curve.specs.Run.{HoldsCell, InRun, Follows, IsLast, IsFirst}
use Rattle.peano_curve.specs.Passing.{AreBeside, NoneLaterRound, NextRound}
use Rattle.peano_curve.proofs.Ranks.{rank_of-step, width_positive}
use Rattle.peano_curve.proofs.Splits.{later_up_to}
use Rattle.peano_curve.proofs.Levels.{Within, third_beside, within_up}
use Rattle.sweep_visits.specs.Runs.{turned_round}
use Rattle.handed_down.specs.Across.{IsAcross, NextAcross, HasAll, HasAllRound, FollowsAcross, PrecedesAcross}
use Rattle.handed_down.specs.Laws.{WholeIsHandedDown, WholeAtRoot}

-- a place among siblings is below their number
place_below : (dim : Dim) (c : CellKey) → sibling_place dim c < children dim
place_below Two c = grind (arith, nat_tests)
place_below Three c = grind (arith, nat_tests)

-- the interval of a child lies in that of its parent
inside : (n r p w : ℕ) → p < n → (r * (n * w) ≤ (n * r + p) * w) × ((n * r + p) * w + w ≤ r * (n * w) + n * w)
inside n r p w h =
    let most : (p + 1) * w ≤ n * w = mul-le-mul_right w (omega arith) in
    (grind (arith, most), grind (arith, most))

nested : (n r p w R W : ℕ) → p < n → R ≡ n * r + p → W ≡ n * w → (r * W ≤ R * w) × (R * w + w ≤ r * W + W)
nested n r p w R W h er ew = rw (er, ew) (inside n r p w h)

wide : (n l depth : ℕ) → 1 ≤ l → l ≤ depth → n ^ (depth - (l - 1)) ≡ n * n ^ (depth - l)
wide n l depth h up = let e : depth - (l - 1) ≡ suc (depth - l) = omega arith in ap (λ k. n ^ k) e ∙ grind (arith, pow-suc n (depth - l))

parent_cell : (dim : Dim) (q : CellKey) → IsCell dim q → 1 ≤ q.level → IsCell dim (parent_of q)
parent_cell dim q cell h =
    let up : q.level ≡ suc (q.level - 1) = omega arith in
    let w = within_up dim (q.level - 1) (at q 0) (at q 1) (at q 2) (subst (λ l. Within dim l (at q 0) (at q 1) (at q 2)) up (cell.first, cell.second, cell.third)) in
    record { shape = refl; level = omega (arith, cell.level); first = w.0; second = w.1; third = w.2 }

child_inside : (dim : Dim) (depth : ℕ) (q : CellKey) → 1 ≤ q.level → q.level ≤ depth → HasAll (interval_of dim (parent_of q) depth) (interval_of dim q depth)
child_inside dim depth q h up =
    let w = wide (children dim) q.level depth h up in
    let e = rank_of-step dim q h in
    let r = nested (children dim) (rank_of dim (parent_of q)) (sibling_place dim q) (children dim ^ (depth - q.level)) (rank_of dim q) (children dim ^ (depth - (q.level - 1))) (place_below dim q) e w in
    record { low = r.0; high = r.1 }

pub held_below : WholeIsHandedDown
held_below dim depth r c cell h up all q there beside =
    let hq : 1 ≤ q.level = omega (arith, beside.level) in
    let uq : q.level ≤ depth = omega (arith, beside.level) in
    let above = all (parent_of q) (parent_cell dim q there hq) (record { level = omega (arith, beside.level); first = third_beside (at c 0) (at q 0) beside.first; second = third_beside (at c 1) (at q 1) beside.second; third = third_beside (at c 2) (at q 2) beside.third }) in
    let i = child_inside dim depth q hq uq in
    record { low = omega (arith, above.low, i.low); high = omega (arith, above.high, i.high) }

-- a cell whose whole interval is in a range is held
pub has_holds : (dim : Dim) (depth : ℕ) (r : Range) (q : CellKey) → HasAll r (interval_of dim q depth) → HoldsCell dim depth r q
has_holds dim depth r q h =
    let pos = width_positive dim (depth - q.level) in
    (rank_of dim q * width_of dim q.level depth, (omega arith, omega (arith, pos)), (omega (arith, h.low), omega (arith, h.high, pos)))

-- the cells round a corner of a cell touch the cell
round_beside : (c : CellKey) (n : ℕ) (q : CellKey) → Touches q (corner_of c n) → AreBeside c q
round_beside c n q t = record { level = sym t.level; first = record { low = omega (arith, t.first_high); high = omega (arith, t.first_low) }; second = record { low = omega (arith, t.second_high); high = omega (arith, t.second_low) }; third = record { low = omega (arith, t.third_high); high = omega (arith, t.third_low) } }

pub at_corner : (c : CellKey) (n : ℕ) → Touches c (corner_of c n)
at_corner c n = record { level = refl; first_low = omega arith; first_high = omega arith; second_low = omega arith; second_high = omega arith; third_low = omega arith; third_high = omega arith }

module _ (dir : Direction) (dim : Dim) (depth : ℕ) (r : Range) (c : CellKey) (n : ℕ) (cell : IsCell dim c) (all : HasAllRound dim depth r c) where
  in_run : (q : CellKey) → IsCell dim q → Touches q (corner_of c n) → InRun dim (corner_of c n) r depth q
  in_run q there t = record { cell = there; touches = t; held = has_holds dim depth r q (all q there (round_beside c n q t)) }

  follows : (next : CellKey) → NextRound dir dim (corner_of c n) c next → Follows dir dim (corner_of c n) r depth c next
  follows next h = record {
    before = in_run c cell (at_corner c n);
    after = in_run next h.cell h.touches;
    later = h.later;
    none_between = λ q there after before. ⊎_elim (later_up_to dir (rank_of dim c) (rank_of dim q) after) (later_up_to dir (rank_of dim q) (rank_of dim next) before) (h.nearest q there.cell there.touches);
  }

  last : NoneLaterRound dir dim (corner_of c n) c → IsLast dir dim (corner_of c n) r depth c
  last h q there later = later_up_to dir (rank_of dim c) (rank_of dim q) later (h q there.cell there.touches)

  pub next_held_by : (o : Option ℕ) → MatchOption o (NoneLaterRound dir dim (corner_of c n) c) (λ i. NextAcross dir dim c n i) → MatchOption o (IsLast dir dim (corner_of c n) r depth c) (λ i. FollowsAcross dir dim r depth c n i)
  next_held_by None h = last h
  next_held_by (Some i) h = record { next = h.next; in_use = h.in_use; across = h.across; follows = follows h.next h.round }

-- the next cell the other way is the previous one
pub other_way : (dir : Direction) (dim : Dim) (depth : ℕ) (r : Range) (c : CellKey) (n : ℕ) (o : Option ℕ) → MatchOption o (IsLast (turned_round dir) dim (corner_of c n) r depth c) (λ i. FollowsAcross (turned_round dir) dim r depth c n i) → MatchOption o (IsFirst dir dim (corner_of c n) r depth c) (λ i. PrecedesAcross dir dim r depth c n i)
other_way Forward dim depth r c n None h = h
other_way Backward dim depth r c n None h = h
other_way Forward dim depth r c n (Some i) h = let f = h.follows in record { previous = h.next; in_use = h.in_use; across = h.across; follows = record { before = f.after; after = f.before; later = f.later; none_between = λ q there a b. f.none_between q there b a } }
other_way Backward dim depth r c n (Some i) h = let f = h.follows in record { previous = h.next; in_use = h.in_use; across = h.across; follows = record { before = f.after; after = f.before; later = f.later; none_between = λ q there a b. f.none_between q there b a } }

pub previous_held_by : (dir : Direction) (dim : Dim) (depth : ℕ) (r : Range) (c : CellKey) (n : ℕ) → IsCell dim c → HasAllRound dim depth r c → (o : Option ℕ) → MatchOption o (NoneLaterRound (turned_round dir) dim (corner_of c n) c) (λ i. NextAcross (turned_round dir) dim c n i) → MatchOption o (IsFirst dir dim (corner_of c n) r depth c) (λ i. PrecedesAcross dir dim r depth c n i)
previous_held_by dir dim depth r c n cell all o h = other_way dir dim depth r c n o (next_held_by (turned_round dir) dim depth r c n cell all o h)

third_zero : (dim : Dim) (x l : ℕ) → l ≡ 0 → x < third_extent dim (3 ^ l) → x ≡ 0
third_zero Two x l e h = omega arith
third_zero Three x l e h = let one : 3 ^ l ≡ 1 = ap (λ k. 3 ^ k) e ∙ pow-zero 3 in omega (arith, one)

-- the root is the one cell of its level
pub is_root : (dim : Dim) (q : CellKey) → IsCell dim q → 0 ≡ q.level → root ≡ q
is_root dim q cell l =
    let one : 3 ^ q.level ≡ 1 = ap (λ k. 3 ^ k) (sym l) ∙ pow-zero 3 in
    same_cell q 0 0 0 0 cell.shape l (omega (arith, cell.first, one)) (omega (arith, cell.second, one)) (sym (third_zero dim (at q 2) q.level (sym l) cell.third))

pub root_all : WholeAtRoot
root_all dim depth r h q cell beside = subst (λ (k : CellKey). HasAll r (interval_of dim k depth)) (is_root dim q cell beside.level) h

some_cell : (a b : CellKey) → Some a ≡ Some b → a ≡ b
some_cell a b h = ap (λ (o : Option CellKey). elim o as (λ _. CellKey) [ Some z ↦ z | None ↦ a ]) h

module _ (dir : Direction) (dim : Dim) (depth : ℕ) (r : Range) (c : CellKey) (n : ℕ) (member : InRun dim (corner_of c n) r depth c) where
  -- the next cell round the corner is held
  pub held_next : (i : ℕ) → (a : NextAcross dir dim c n i) → HoldsCell dim depth r a.next → FollowsAcross dir dim r depth c n i
  held_next i a held = record {
    next = a.next;
    in_use = a.in_use;
    across = a.across;
    follows = record {
      before = member;
      after = record { cell = a.round.cell; touches = a.round.touches; held = held };
      later = a.round.later;
      none_between = λ q there after before. ⊎_elim (later_up_to dir (rank_of dim c) (rank_of dim q) after) (later_up_to dir (rank_of dim q) (rank_of dim a.next) before) (a.round.nearest q there.cell there.touches);
    };
  }

  pub free_next : (i : ℕ) → (a : NextAcross dir dim c n i) → ¬ HoldsCell dim depth r a.next → IsLast dir dim (corner_of c n) r depth c
  free_next i a free = last_held dim depth r dir (corner_of c n) c member a.next a.round free

  pub none_next : NoneLaterRound dir dim (corner_of c n) c → IsLast dir dim (corner_of c n) r depth c
  none_next h q there later = later_up_to dir (rank_of dim c) (rank_of dim q) later (h q there.cell there.touches)

  -- the same from what is found across the axis of a next cell
  module _ (next : Option ℕ) (i : ℕ) (is : next ≡ Some i) (h : MatchOption next (NoneLaterRound dir dim (corner_of c n) c) (λ k. NextAcross dir dim c n k)) (other : CellKey) (found : IsAcross c n i other) where
    across_next : NextAcross dir dim c n i
    across_next = subst (λ (o : Option ℕ). MatchOption o (NoneLaterRound dir dim (corner_of c n) c) (λ k. NextAcross dir dim c n k)) is h

    pub held_across : HoldsCell dim depth r other → FollowsAcross dir dim r depth c n i
    held_across held = held_next i across_next (subst (λ (k : CellKey). HoldsCell dim depth r k) (some_cell other across_next.next (sym found ∙ across_next.across)) held)

    pub free_across : ¬ HoldsCell dim depth r other → IsLast dir dim (corner_of c n) r depth c
    free_across free = free_next i across_next (λ held. free (subst (λ (k : CellKey). HoldsCell dim depth r k) (some_cell across_next.next other (sym across_next.across ∙ found)) held))
