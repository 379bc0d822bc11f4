-- The output of a walk, read from its end, is the input of the next.
use Rattle.std.proofs.Common.{◌≡◌, ℕ, ◌-◌, ltb, Bool, true, false, ◌&&◌, if◌then◌else◌, List, [], ◌∷◌, map, reverse, flat_map, refl, sym, ap, ◌∙◌, append-nil}
use Rattle.std.specs.List.{AllByRecursion}
use Rattle.std.proofs.lemmas.Grind.{flat_map-append}
use Rattle.std.proofs.lemmas.List.{reverse-append}
use mathlib.Core.List.{reverse-cons}
use Rattle.stack_law.specs.Boxes.{Axis, Box, Direction, first, second, third, turned_round, coord, beyond}
use Rattle.stack_law.specs.Visits.{Faces, Visit, enter, leave, visits, walls}
use Rattle.stack_law.specs.Order.{rank, extent, IsRightCell, IsRightVisit}
use Rattle.stack_law.specs.Children.{turned_visit}
use Rattle.stack_walks.specs.Corners.{Corner, all_corners, side_on, vertex}
use Rattle.stack_walks.specs.Handing.{has_neighbour, leads_later, leads_nowhere, ends_at}
use Rattle.stack_walks.specs.Streams.{taken_in, given_out, AgreeRoundKept}
use Rattle.stack_walks.specs.StreamLaws.{OutputTurnedIsInput}
use Rattle.stack_law.specs.Domain.{root}
use Rattle.stack_law.proofs.Ways.{ways_follow_the_order}
use Rattle.stack_walks.proofs.Corners.{neighbour_inside, reverse_flat}
use Rattle.stack_law.proofs.Visited.{touches_beyond}
use Rattle.stack_walks.proofs.Handing.{inner_test, touches_vertex, coord_vertex, turned_twice}
use Rattle.stack_law.proofs.BackwardVisited.{backward_walk_is_reversed}

pub flat_same : {V W : Type 0} (f g : V → List W) → ((v : V) → f v ≡ g v) → (vs : List V) → flat_map f vs ≡ flat_map g vs
flat_same f g e [] = refl
flat_same f g e (v ∷ vs) = rw (e v, flat_same f g e vs) refl

pub flat_each : {V W : Type 0} (P : V → Type 0) (f g : V → List W) → ((v : V) → P v → f v ≡ g v) → (vs : List V) → AllByRecursion P vs → flat_map f vs ≡ flat_map g vs
flat_each P f g e [] h = refl
flat_each P f g e (v ∷ vs) h = rw (e v h.0, flat_each P f g e vs h.1) refl

pub flat_reversed : {V W : Type 0} (f g : V → List W) (t : V → V) → ((v : V) → g (t v) ≡ reverse (f v)) → (vs : List V) → reverse (flat_map f vs) ≡ flat_map g (reverse (map t vs))
flat_reversed f g t e [] = refl
flat_reversed f g t e (v ∷ vs) = reverse-append (f v) (flat_map f vs) ∙ rw (flat_reversed f g t e vs, reverse-cons, flat_map-append, append-nil, e v) refl

-- two walks that agree round a kept vertex
module _ (dir : Direction) (axis : ℕ → Axis) (is_cell : ℕ → Bool) (splits : ℕ) (visited visited' kept : ℕ → Box → Bool) (agree : AgreeRoundKept axis is_cell splits visited visited' kept) where
  same_later : (m : ℕ) (b : Box) (c : Corner) (io : Faces) → IsRightCell dir axis is_cell splits m b io → kept m (vertex b c) ≡ true → (i : Axis) → leads_later (rank dir axis (splits - m) m) (extent axis (splits - m) m) (visited m) b i (side_on i c) ≡ leads_later (rank dir axis (splits - m) m) (extent axis (splits - m) m) (visited' m) b i (side_on i c)
  same_later m b c io r k i = by_test (has_neighbour (side_on i c) (coord i b) (extent axis (splits - m) m i)) refl
    where
      by_test : (t : Bool) → has_neighbour (side_on i c) (coord i b) (extent axis (splits - m) m i) ≡ t → (t && (visited m (beyond i (side_on i c) b) && ltb (rank dir axis (splits - m) m b) (rank dir axis (splits - m) m (beyond i (side_on i c) b)))) ≡ (t && (visited' m (beyond i (side_on i c) b) && ltb (rank dir axis (splits - m) m b) (rank dir axis (splits - m) m (beyond i (side_on i c) b))))
      by_test false e = refl
      by_test true e =
          rw
          (agree m (vertex b c) (beyond i (side_on i c) b) r.cell r.level k (neighbour_inside (extent axis (splits - m) m) b i (side_on i c) r.inside (inner_test (side_on i c) (coord i b) (extent axis (splits - m) m i) e)) (touches_beyond (vertex b c) b i (side_on i c) (sym (coord_vertex i b c)) (touches_vertex b c)))
          refl

  same_end : (m : ℕ) (b : Box) (io : Faces) (c : Corner) → IsRightCell dir axis is_cell splits m b io → ends_at dir axis splits visited kept m b c ≡ ends_at dir axis splits visited' kept m b c
  same_end m b io c r = by_kept (kept m (vertex b c)) refl
    where
      unkept : (a a' x y : Bool) → ((a && false) && x) ≡ ((a' && false) && y)
      unkept true true x y = refl
      unkept true false x y = refl
      unkept false true x y = refl
      unkept false false x y = refl

      by_kept : (k : Bool) → kept m (vertex b c) ≡ k → ((visited m b && k) && leads_nowhere (rank dir axis (splits - m) m) (extent axis (splits - m) m) (visited m) b c) ≡ ((visited' m b && k) && leads_nowhere (rank dir axis (splits - m) m) (extent axis (splits - m) m) (visited' m) b c)
      by_kept false e = unkept (visited m b) (visited' m b) _ _
      by_kept true e =
          rw
          (agree m (vertex b c) b r.cell r.level e r.inside (touches_vertex b c), same_later m b c io r e first, same_later m b c io r e second, same_later m b c io r e third)
          refl

  module _ (A : Type 0) (name : ℕ → Box → A) where
    same_given : (v : Visit) → IsRightVisit dir axis is_cell splits v → given_out A name dir axis splits visited kept v ≡ given_out A name dir axis splits visited' kept v
    same_given (enter m b io) r = refl
    same_given (leave m b io) r = flat_same (λ c. if ends_at dir axis splits visited kept m b c then name m (vertex b c) ∷ [] else []) (λ c. if ends_at dir axis splits visited' kept m b c then name m (vertex b c) ∷ [] else []) (λ c. ap (λ t. if t then name m (vertex b c) ∷ [] else []) (same_end m b io c r)) all_corners

    same_output : flat_map (given_out A name dir axis splits visited kept) (visits dir axis is_cell splits root walls) ≡ flat_map (given_out A name dir axis splits visited' kept) (visits dir axis is_cell splits root walls)
    same_output = flat_each (IsRightVisit dir axis is_cell splits) _ _ same_given (visits dir axis is_cell splits root walls) (ways_follow_the_order dir axis is_cell splits)

turned_streams : (A : Type 0) (name : ℕ → Box → A) (dir : Direction) (axis : ℕ → Axis) (splits : ℕ) (visited kept : ℕ → Box → Bool) (v : Visit) → taken_in A name (turned_round dir) axis splits visited kept (turned_visit v) ≡ reverse (given_out A name dir axis splits visited kept v)
turned_streams A name dir axis splits visited kept (enter m b io) = refl
turned_streams A name dir axis splits visited kept (leave m b io) = rw (turned_twice dir) (sym (reverse_flat (ends_at dir axis splits visited kept m b) (λ c. name m (vertex b c)) all_corners))

pub output_turned_is_input : (A : Type 0) → OutputTurnedIsInput A
output_turned_is_input A name dir axis is_cell splits visited visited' kept agree =
    ap reverse (same_output dir axis is_cell splits visited visited' kept agree A name)
    ∙ rw (backward_walk_is_reversed dir axis is_cell splits) (flat_reversed (given_out A name dir axis splits visited' kept) (taken_in A name (turned_round dir) axis splits visited' kept) turned_visit (turned_streams A name dir axis splits visited' kept) (visits dir axis is_cell splits root walls))
