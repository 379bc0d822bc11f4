-- Each kept corner is given along a lane or to the output.
use Rattle.std.proofs.Common.{◌≡◌, ℕ, ◌+◌, Bool, true, false, cond, if◌then◌else◌, List, [], ◌∷◌, ◌++◌, flat_map, reverse, refl, ap, ◌∙◌, arith, inl, inr, append-nil}
use Rattle.std.specs.List.{AllByRecursion, count_by}
use Rattle.std.proofs.lemmas.List.Sums.{sum_by-append}
use Rattle.std.proofs.lemmas.Grind.{flat_map-append}
use Rattle.stack_law.specs.Boxes.{Axis, Side, Box, Direction, first, second, third, low, high, lane, beyond}
use Rattle.stack_law.specs.Domain.{root}
use Rattle.stack_law.specs.Visits.{Faces, Visit, enter, leave, visits, walls}
use Rattle.stack_law.specs.Order.{IsRightCell, IsRightVisit}
use Rattle.stack_law.specs.Passings.{over_faces}
use Rattle.stack_law.specs.Stack.{Event, push, pop}
use Rattle.stack_walks.specs.Corners.{Corner, all_corners, vertex, given_at, taken_at}
use Rattle.stack_walks.specs.Passing.{BoxPassing, box_passing}
use Rattle.stack_walks.specs.Handing.{has_kept_corner, goes_on, came_from, ends_at, KeptUnbroken}
use Rattle.stack_walks.specs.HandingLaws.{IsOnlyFace, HasOneWay}
use Rattle.stack_walks.specs.Streams.{given_out}
use Rattle.stack_walks.specs.Counts.{Kept, kept_vertex, given_by, all_given, kept_corners, lane_passings, EachKeptCornerIsGiven}
use Rattle.stack_walks.proofs.OneWay.{each_corner_has_one_way}
use Rattle.stack_law.proofs.Ways.{ways_follow_the_order}
use Rattle.stack_law.proofs.Held.{false_if}

pub count-append : {X : Type 0} (p : X → Bool) (xs ys : List X) → count_by p (xs ++ ys) ≡ count_by p xs + count_by p ys
count-append p xs ys = sum_by-append (λ x. cond (p x) 1 0) xs ys

-- one face of six
module _ (p : BoxPassing → Bool) (q : Bool) (f : Axis → Side → Bool) (on : Axis → Side → ℕ) (x : Axis → Side → BoxPassing) (same : (i : Axis) (h : Side) → p (x i h) ≡ q) where
  abbrev given_faces : List BoxPassing
  given_faces = all_given (over_faces (λ i h. if f i h then record { on = on i h; step = push (x i h) } ∷ [] else []))

  no_face_given : ((i : Axis) (h : Side) → f i h ≡ false) → count_by p given_faces ≡ 0
  no_face_given off = rw (off first low, off first high, off second low, off second high, off third low, off third high) refl

  one_face_given : (i : Axis) (h : Side) → IsOnlyFace f i h → count_by p given_faces ≡ cond q 1 0
  one_face_given first low k = rw (k.holds, false_if (f first high) (λ t. (let e = (k.only first high t).1 in cc)), false_if (f second low) (λ t. (let e = (k.only second low t).0 in cc)), false_if (f second high) (λ t. (let e = (k.only second high t).0 in cc)), false_if (f third low) (λ t. (let e = (k.only third low t).0 in cc)), false_if (f third high) (λ t. (let e = (k.only third high t).0 in cc)), same first low) (omega arith)
  one_face_given first high k = rw (k.holds, false_if (f first low) (λ t. (let e = (k.only first low t).1 in cc)), false_if (f second low) (λ t. (let e = (k.only second low t).0 in cc)), false_if (f second high) (λ t. (let e = (k.only second high t).0 in cc)), false_if (f third low) (λ t. (let e = (k.only third low t).0 in cc)), false_if (f third high) (λ t. (let e = (k.only third high t).0 in cc)), same first high) (omega arith)
  one_face_given second low k = rw (k.holds, false_if (f first low) (λ t. (let e = (k.only first low t).0 in cc)), false_if (f first high) (λ t. (let e = (k.only first high t).0 in cc)), false_if (f second high) (λ t. (let e = (k.only second high t).1 in cc)), false_if (f third low) (λ t. (let e = (k.only third low t).0 in cc)), false_if (f third high) (λ t. (let e = (k.only third high t).0 in cc)), same second low) (omega arith)
  one_face_given second high k = rw (k.holds, false_if (f first low) (λ t. (let e = (k.only first low t).0 in cc)), false_if (f first high) (λ t. (let e = (k.only first high t).0 in cc)), false_if (f second low) (λ t. (let e = (k.only second low t).1 in cc)), false_if (f third low) (λ t. (let e = (k.only third low t).0 in cc)), false_if (f third high) (λ t. (let e = (k.only third high t).0 in cc)), same second high) (omega arith)
  one_face_given third low k = rw (k.holds, false_if (f first low) (λ t. (let e = (k.only first low t).0 in cc)), false_if (f first high) (λ t. (let e = (k.only first high t).0 in cc)), false_if (f second low) (λ t. (let e = (k.only second low t).0 in cc)), false_if (f second high) (λ t. (let e = (k.only second high t).0 in cc)), false_if (f third high) (λ t. (let e = (k.only third high t).1 in cc)), same third low) (omega arith)
  one_face_given third high k = rw (k.holds, false_if (f first low) (λ t. (let e = (k.only first low t).0 in cc)), false_if (f first high) (λ t. (let e = (k.only first high t).0 in cc)), false_if (f second low) (λ t. (let e = (k.only second low t).0 in cc)), false_if (f second high) (λ t. (let e = (k.only second high t).0 in cc)), false_if (f third low) (λ t. (let e = (k.only third low t).1 in cc)), same third high) (omega arith)

  one_way_given : (p' : Kept → Bool) (k : Kept) → p' k ≡ q → (ends : Bool) → HasOneWay ends f → count_by p given_faces + count_by p' (if ends then k ∷ [] else []) ≡ cond q 1 0
  one_way_given p' k e ends (inl g) = rw (no_face_given g.1, g.0, e) (omega arith)
  one_way_given p' k e ends (inr g) = rw (one_face_given g.1.0 g.1.1 g.1.2, g.0) (omega arith)

module _ (counted : ℕ → Box → Bool) (dir : Direction) (axis : ℕ → Axis) (is_cell : ℕ → Bool) (splits : ℕ) (visited kept : ℕ → Box → Bool) (unbroken : KeptUnbroken dir axis splits visited kept is_cell) where
  abbrev of_passing : BoxPassing → Bool
  of_passing p = counted p.splits p.vertex

  abbrev of_kept : Kept → Bool
  of_kept k = counted k.splits k.vertex

  abbrev at_corner : ℕ → Box → Corner → List (Event BoxPassing)
  at_corner m b c = over_faces (given_at BoxPassing box_passing (goes_on dir axis splits visited kept) (came_from dir axis splits visited kept) m b c)

  abbrev ended : ℕ → Box → Corner → List Kept
  ended m b c = if ends_at dir axis splits visited kept m b c then kept_vertex m (vertex b c) ∷ [] else []

  abbrev there : ℕ → Box → Corner → List Kept
  there m b c = if has_kept_corner dir axis splits visited kept m b c then kept_vertex m (vertex b c) ∷ [] else []

  corner_counted : (m : ℕ) (b : Box) (io : Faces) (c : Corner) → IsRightCell dir axis is_cell splits m b io → count_by of_passing (all_given (at_corner m b c)) + count_by of_kept (ended m b c) ≡ count_by of_kept (there m b c)
  corner_counted m b io c r = by_test (has_kept_corner dir axis splits visited kept m b c) refl
    where
      by_test : (t : Bool) → has_kept_corner dir axis splits visited kept m b c ≡ t → count_by of_passing (all_given (at_corner m b c)) + count_by of_kept (ended m b c) ≡ count_by of_kept (if t then kept_vertex m (vertex b c) ∷ [] else [])
      by_test true e =
          one_way_given of_passing (counted m (vertex b c)) (goes_on dir axis splits visited kept m b c) (λ i h. lane i h b) (λ i h. box_passing m (vertex b c) (beyond i h b)) (λ i h. refl) of_kept (kept_vertex m (vertex b c)) refl (ends_at dir axis splits visited kept m b c)
          (each_corner_has_one_way dir axis is_cell splits visited kept unbroken m b c r.cell r.level r.inside e).0
          ∙ one_count (counted m (vertex b c))
        where
          one_count : (q : Bool) → cond q 1 0 ≡ 0 + cond q 1 0
          one_count true = omega arith
          one_count false = omega arith
      by_test false e = rw e (omega arith)

  corners_counted : (m : ℕ) (b : Box) (io : Faces) → IsRightCell dir axis is_cell splits m b io → (cs : List Corner) → count_by of_passing (all_given (flat_map (at_corner m b) cs)) + count_by of_kept (flat_map (ended m b) cs) ≡ count_by of_kept (flat_map (there m b) cs)
  corners_counted m b io r [] = omega arith
  corners_counted m b io r (c ∷ cs) =
      let here = corner_counted m b io c r in
      let rest = corners_counted m b io r cs in
      let given = ap (count_by of_passing) (flat_map-append (λ (e : Event BoxPassing). given_by e.step) (at_corner m b c) (flat_map (at_corner m b) cs)) ∙ count-append of_passing (all_given (at_corner m b c)) (all_given (flat_map (at_corner m b) cs)) in
      let out = count-append of_kept (ended m b c) (flat_map (ended m b) cs) in
      let all = count-append of_kept (there m b c) (flat_map (there m b) cs) in
      omega arith

  taken_nothing : (m : ℕ) (b : Box) (cs : List Corner) → all_given (flat_map (λ c. over_faces (taken_at BoxPassing box_passing (goes_on dir axis splits visited kept) (came_from dir axis splits visited kept) m b c)) cs) ≡ []
  taken_nothing m b [] = refl
  taken_nothing m b (c ∷ cs) =
      flat_map-append (λ (e : Event BoxPassing). given_by e.step) (over_faces (taken_at BoxPassing box_passing (goes_on dir axis splits visited kept) (came_from dir axis splits visited kept) m b c)) (flat_map (λ c. over_faces (taken_at BoxPassing box_passing (goes_on dir axis splits visited kept) (came_from dir axis splits visited kept) m b c)) cs)
      ∙ rw (taken_nothing m b cs, append-nil) (six (came_from dir axis splits visited kept m b c) (λ i h. lane i h b) (box_passing m (vertex b c) b))
    where
      one : (t : Bool) (k : ℕ) (x : BoxPassing) (es : List (Event BoxPassing)) → all_given es ≡ [] → all_given ((if t then record { on = k; step = pop x } ∷ [] else []) ++ es) ≡ []
      one true k x es e = e
      one false k x es e = e

      last_one : (t : Bool) (k : ℕ) (x : BoxPassing) → all_given (if t then record { on = k; step = pop x } ∷ [] else []) ≡ []
      last_one true k x = refl
      last_one false k x = refl

      six : (f : Axis → Side → Bool) (on : Axis → Side → ℕ) (x : BoxPassing) → all_given (over_faces (λ i h. if f i h then record { on = on i h; step = pop x } ∷ [] else [])) ≡ []
      six f on x = one (f first low) (on first low) x _ (one (f first high) (on first high) x _ (one (f second low) (on second low) x _ (one (f second high) (on second high) x _ (one (f third low) (on third low) x _ (last_one (f third high) (on third high) x)))))

  visit_counted : (v : Visit) → IsRightVisit dir axis is_cell splits v → count_by of_passing (all_given (lane_passings dir axis splits visited kept v)) + count_by of_kept (given_out Kept kept_vertex dir axis splits visited kept v) ≡ count_by of_kept (kept_corners dir axis splits visited kept v)
  visit_counted (enter m b io) r = ap (λ xs. count_by of_passing xs + 0) (taken_nothing m b (reverse all_corners))
  visit_counted (leave m b io) r = corners_counted m b io r all_corners

  visits_counted : (vs : List Visit) → AllByRecursion (IsRightVisit dir axis is_cell splits) vs → count_by of_passing (all_given (flat_map (lane_passings dir axis splits visited kept) vs)) + count_by of_kept (flat_map (given_out Kept kept_vertex dir axis splits visited kept) vs) ≡ count_by of_kept (flat_map (kept_corners dir axis splits visited kept) vs)
  visits_counted [] r = omega arith
  visits_counted (v ∷ vs) r =
      let here = visit_counted v r.0 in
      let rest = visits_counted vs r.1 in
      let given = ap (count_by of_passing) (flat_map-append (λ (e : Event BoxPassing). given_by e.step) (lane_passings dir axis splits visited kept v) (flat_map (lane_passings dir axis splits visited kept) vs)) ∙ count-append of_passing (all_given (lane_passings dir axis splits visited kept v)) (all_given (flat_map (lane_passings dir axis splits visited kept) vs)) in
      let out = count-append of_kept (given_out Kept kept_vertex dir axis splits visited kept v) (flat_map (given_out Kept kept_vertex dir axis splits visited kept) vs) in
      let all = count-append of_kept (kept_corners dir axis splits visited kept v) (flat_map (kept_corners dir axis splits visited kept) vs) in
      omega arith

pub each_kept_corner_is_given : EachKeptCornerIsGiven
each_kept_corner_is_given counted dir axis is_cell splits visited kept unbroken = visits_counted counted dir axis is_cell splits visited kept unbroken (visits dir axis is_cell splits root walls) (ways_follow_the_order dir axis is_cell splits)
