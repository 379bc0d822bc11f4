-- What a walk visits round kept vertices, and how often.
use Rattle.std.proofs.Common.{◌≡◌, ℕ, ◌==◌, Bool, true, false, ◌||◌, if◌then◌else◌, List, [], ◌∷◌, flat_map, reverse, refl, sym, ap, ◌∙◌, subst, arith, inl, inr, eq-eqb, eqb-true}
use Rattle.std.specs.List.{AllByRecursion}
use Rattle.stack_law.specs.Boxes.{Axis, Box, Direction, turned_round, forward, backward}
use Rattle.stack_law.specs.Children.{turned_visit}
use Rattle.stack_law.specs.Domain.{root}
use Rattle.stack_law.specs.Moments.{TellsApart}
use Rattle.stack_law.specs.Once.{IsIn}
use Rattle.stack_law.specs.Stack.{AreDistinct}
use Rattle.stack_law.specs.Visits.{Faces, Visit, enter, leave, visits, walls}
use Rattle.stack_law.specs.Order.{IsRightVisit}
use Rattle.stack_law.specs.Walk.{walk, ClosedAreEmpty, HappensAtVisited}
use Rattle.stack_law.proofs.BackwardVisited.{backward_walk_of_visited}
use Rattle.stack_law.proofs.Leaves.{left_with, TellsCell, leaves_distinct}
use Rattle.stack_law.proofs.Walk.{walk_is}
use Rattle.stack_law.proofs.Ways.{ways_follow_the_order}
use Rattle.stack_walks.specs.Visited.{WalksAgreeRoundKept, Cell, same_cell, entered_by, left_by, VisitsHappenOnce}
use Rattle.stack_walks.proofs.GivenCorners.{and_true, same_box_self, same_box_exact}
use Rattle.stack_walks.proofs.Reversed.{distinct_reverse}
use Rattle.stack_walks.proofs.Rights.{is_seen, walk_right}
use Rattle.stack_walks.proofs.Streams.{flat_reversed}

or_new : (a : Bool) → (a || true) ≡ true
or_new true = refl
or_new false = refl

pub walks_agree_round_kept : WalksAgreeRoundKept
walks_agree_round_kept axis is_cell splits old new held kept = (
  λ stored m v b c l k inside touches. rw (stored m v c l k b inside touches) refl,
  λ stored m v b c l k inside touches. rw (stored m v c l k b inside touches, or_new (old m b)) refl,
)

cells_decided : TellsApart Cell same_cell
cells_decided = record { reflexive = itself; exact = alike }
  where
    itself : (c : Cell) → same_cell c c ≡ true
    itself c = rw (eq-eqb c.splits c.splits refl, same_box_self c.box) refl

    alike : (c d : Cell) → same_cell c d ≡ true → c ≡ d
    alike c d h =
        let f = and_true (c.splits == d.splits) _ h in
        let s = eqb-true c.splits d.splits f.0 in
        let b = same_box_exact c.box d.box f.1 in
        λ i. record { splits = s i; box = b i }

module _ (dir : Direction) (axis : ℕ → Axis) (is_cell : ℕ → Bool) (splits : ℕ) (visited is_open : ℕ → Box → Bool) (closed : ClosedAreEmpty axis is_cell splits visited is_open) where
  abbrev here : ℕ → Box → Faces → List Cell
  here m b io = if visited m b then record { splits = m; box = b } ∷ [] else []

  abbrev left : Visit → List Cell
  left = left_with Cell dir axis is_cell splits here

  quiet : HappensAtVisited Cell left visited
  quiet = record { enters = λ m b io e. refl; leaves = λ m b io e. rw e refl }

  same_left : (v : Visit) → is_seen dir axis is_cell visited is_open (IsRightVisit dir axis is_cell splits) v ≡ true → left_by v ≡ left v
  same_left (enter m b io) e = refl
  same_left (leave m b io) e = rw e refl

  all_same : (vs : List Visit) → AllByRecursion (λ v. IsRightVisit dir axis is_cell splits v × is_seen dir axis is_cell visited is_open (IsRightVisit dir axis is_cell splits) v ≡ true) vs → flat_map left_by vs ≡ flat_map left vs
  all_same [] h = refl
  all_same (v ∷ vs) h = rw (same_left v h.0.1, all_same vs h.1) refl

  left_is : flat_map left_by (walk dir axis is_cell visited is_open splits root walls) ≡ flat_map left (visits dir axis is_cell splits root walls)
  left_is =
      all_same (walk dir axis is_cell visited is_open splits root walls) (walk_right dir axis is_cell visited is_open (IsRightVisit dir axis is_cell splits) splits root walls (ways_follow_the_order dir axis is_cell splits))
      ∙ walk_is dir axis is_cell Cell left visited is_open quiet splits closed splits root walls (omega arith)

  in_here : (x : Cell) (m : ℕ) (b : Box) (t : Bool) → IsIn x (if t then record { splits = m; box = b } ∷ [] else []) → x ≡ record { splits = m; box = b }
  in_here x m b true (inl e) = e
  in_here x m b true (inr n) = absurd n
  in_here x m b false n = absurd n

  tells : TellsCell Cell dir axis is_cell splits here
  tells x m b io n c jo r s h g =
      let e = sym (in_here x m b (visited m b) h) ∙ in_here x n c (visited n c) g in
      (ap (λ (d : Cell). d.splits) e, ap (λ (d : Cell). d.box) e)

  once : (m : ℕ) (b : Box) (t : Bool) → AreDistinct same_cell (if t then record { splits = m; box = b } ∷ [] else [])
  once m b true = (refl, tt)
  once m b false = tt

  pub left_once : AreDistinct same_cell (flat_map left_by (walk dir axis is_cell visited is_open splits root walls))
  left_once = subst (AreDistinct same_cell) (sym left_is) (leaves_distinct Cell dir axis is_cell splits here tells same_cell cells_decided (λ m b io r. once m b (visited m b)))

turned_left : (v : Visit) → entered_by (turned_visit v) ≡ reverse (left_by v)
turned_left (enter m b io) = refl
turned_left (leave m b io) = refl

turned_twice : (dir : Direction) → turned_round (turned_round dir) ≡ dir
turned_twice forward = refl
turned_twice backward = refl

pub visits_happen_once : VisitsHappenOnce
visits_happen_once dir axis is_cell splits visited is_open closed = (subst (AreDistinct same_cell) (sym reversed) (distinct_reverse same_cell cells_decided _ (left_once (turned_round dir) axis is_cell splits visited is_open closed)), left_once dir axis is_cell splits visited is_open closed)
  where
    reversed : flat_map entered_by (walk dir axis is_cell visited is_open splits root walls) ≡ reverse (flat_map left_by (walk (turned_round dir) axis is_cell visited is_open splits root walls))
    reversed =
        ap (λ d. flat_map entered_by (walk d axis is_cell visited is_open splits root walls)) (sym (turned_twice dir))
        ∙ ap (flat_map entered_by) (backward_walk_of_visited (turned_round dir) axis is_cell visited is_open splits)
        ∙ sym (flat_reversed left_by entered_by turned_visit turned_left (walk (turned_round dir) axis is_cell visited is_open splits root walls))
