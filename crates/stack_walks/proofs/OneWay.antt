-- Each kept corner goes to one place and came from one place.
use Rattle.std.proofs.Common.{◌≡◌, ℕ, ◌+◌, ◌-◌, ◌^◌, Bool, true, false, ◌&&◌, refl, sym, ap, ◌∙◌, arith, ⊎_elim, inl, inr}
use Rattle.stack_law.specs.Boxes.{Axis, Side, Box, Direction, first, second, third, low, high, turned_round, same_axis, coord, moved, beyond}
use Rattle.stack_law.specs.Order.{IsInner, IsInDomain, rank, extent}
use Rattle.stack_law.specs.Around.{Touches, IsUnbroken, IsNext, IsLastVisited, IsFirstVisited, NextAcross, IsCandidate}
use Rattle.stack_walks.specs.Corners.{Corner, side_on, vertex}
use Rattle.stack_walks.specs.Handing.{leads_next, leads_nowhere}
use Rattle.stack_walks.specs.HandingLaws.{IsOnlyFace, HasOneWay, EachCornerHasOneWay}
use Rattle.stack_law.proofs.Seen.{same_axis-true}
use Rattle.stack_law.proofs.Apart.{ranks_tell_cells_apart}
use Rattle.stack_walks.proofs.GivenCorners.{and_true}
use Rattle.stack_law.proofs.Visited.{touches_beyond, next_is_least_later_neighbour, visited_runs_go_across_faces}
use Rattle.stack_law.proofs.Digits.{backward_is_reversed}
use Rattle.stack_walks.proofs.Handing.{touches_vertex, next_tells, next_told, nowhere_tells, nowhere_told, candidate_later, inner_later, flipped_unbroken}
use Rattle.stack_law.proofs.Held.{false_if}

-- different faces lead to different boxes
other_axis : (i j : Axis) (v : ℕ) (b : Box) → same_axis i j ≡ false → coord i (moved j v b) ≡ coord i b
other_axis first first v b e = absurd (cc)
other_axis first second v b e = refl
other_axis first third v b e = refl
other_axis second first v b e = refl
other_axis second second v b e = absurd (cc)
other_axis second third v b e = refl
other_axis third first v b e = refl
other_axis third second v b e = refl
other_axis third third v b e = absurd (cc)

others_stay : (i j : Axis) (g : Side) (b : Box) → same_axis i j ≡ false → coord i (beyond j g b) ≡ coord i b
others_stay i j low b e = other_axis i j (coord j b - 1) b e
others_stay i j high b e = other_axis i j (coord j b + 1) b e

moves : (i : Axis) (h : Side) (b : Box) (e : ℕ) → IsInner h (coord i b) e → coord i (beyond i h b) ≡ coord i b → ⊥
moves first low b e l q = omega arith
moves first high b e l q = omega arith
moves second low b e l q = omega arith
moves second high b e l q = omega arith
moves third low b e l q = omega arith
moves third high b e l q = omega arith

one_axis : (i j : Axis) (h g : Side) (b : Box) (e : ℕ) → IsInner h (coord i b) e → beyond i h b ≡ beyond j g b → j ≡ i
one_axis i j h g b e l q = by_test (same_axis i j) refl
  where
    by_test : (t : Bool) → same_axis i j ≡ t → j ≡ i
    by_test true s = sym (same_axis-true i j s)
    by_test false s = absurd (moves i h b e l (ap (coord i) q ∙ others_stay i j g b s))

module _ (dir : Direction) (axis : ℕ → Axis) (n m : ℕ) (visited : Box → Bool) (b : Box) (c : Corner) (inside : IsInDomain (extent axis n m) b) (here : visited b ≡ true) (unbroken : IsUnbroken (rank dir axis n m) (extent axis n m) visited (vertex b c)) where
  abbrev place : Box → ℕ
  place = rank dir axis n m

  abbrev bound : Axis → ℕ
  bound = extent axis n m

  abbrev leads : Axis → Side → Bool
  leads = leads_next place bound visited b c

  tells : (i : Axis) (h : Side) → leads i h ≡ true → (side_on i c ≡ h) × IsInner h (coord i b) (bound i) × IsNext place bound visited (vertex b c) b (beyond i h b)
  tells i h t = next_tells place bound visited b c inside (next_is_least_later_neighbour dir axis n m visited (vertex b c) b unbroken inside (touches_vertex b c) here).1 i h t

  one_face : (i : Axis) (h : Side) → leads i h ≡ true → IsOnlyFace leads i h
  one_face i h t = record { holds = t; only = others }
    where
      others : (j : Axis) (g : Side) → leads j g ≡ true → (j ≡ i) × (g ≡ h)
      others j g u =
          let f = tells i h t in
          let k = tells j g u in
          let p = f.2.next (beyond j g b) k.2.inside k.2.touching k.2.to k.2.later in
          let q = k.2.next (beyond i h b) f.2.inside f.2.touching f.2.to f.2.later in
          let same_place : place (beyond i h b) ≡ place (beyond j g b) = omega arith in
          let same_cell = ranks_tell_cells_apart dir axis n m (beyond i h b) (beyond j g b) f.2.inside k.2.inside same_place in
          let same_one = one_axis i j h g b (bound i) f.1 same_cell in
          (same_one, sym k.0 ∙ ap (λ a. side_on a c) same_one ∙ f.0)

  pub last_told : leads_nowhere place bound visited b c ≡ true → IsLastVisited place bound visited (vertex b c) b
  last_told t = (next_is_least_later_neighbour dir axis n m visited (vertex b c) b unbroken inside (touches_vertex b c) here).0 (nowhere_tells place bound visited b c inside t)

  none_when_last : IsLastVisited place bound visited (vertex b c) b → (i : Axis) (h : Side) → leads i h ≡ false
  none_when_last last i h = false_if (leads i h) (λ t. (let f = tells i h t in let l = f.2.later in let k = last (beyond i h b) f.2.inside f.2.touching f.2.to in omega arith))

  pub nowhere_when_last : IsLastVisited place bound visited (vertex b c) b → leads_nowhere place bound visited b c ≡ true
  nowhere_when_last last = nowhere_told place bound visited b c inside (λ i h k. (let l = k.later in let f = candidate_later place bound visited b c inside i h k in let q = last (beyond i h b) k.inside (touching_beyond i h k) k.visited_there in omega arith))
    where
      touching_beyond : (i : Axis) (h : Side) → IsCandidate place bound visited (vertex b c) b i h → Touches (vertex b c) (beyond i h b)
      touching_beyond i h k = touches_beyond (vertex b c) b i h k.plane (touches_vertex b c)

  somewhere_when_next : NextAcross place bound visited (vertex b c) b → leads_nowhere place bound visited b c ≡ false
  somewhere_when_next f = false_if _ (λ t. nowhere_tells place bound visited b c inside t f.axis f.side (record { plane = f.plane; inside = f.inside; visited_there = f.next.to; later = f.next.later }))

  next_face : NextAcross place bound visited (vertex b c) b → (i : Axis) × (h : Side) × IsOnlyFace leads i h
  next_face f =
      let k = candidate_later place bound visited b c inside f.axis f.side (record { plane = f.plane; inside = f.inside; visited_there = f.next.to; later = f.next.later }) in
      (f.axis, f.side, one_face f.axis f.side (next_told place bound visited b c inside f.axis f.side k.0 (inner_later place bound visited b c inside f.axis f.side f.inside f.next.later) f.next))

  pub one_way : HasOneWay (leads_nowhere place bound visited b c) leads
  one_way =
      ⊎_elim
      (λ last. inl (nowhere_when_last last, none_when_last last))
      (λ f. inr (somewhere_when_next f, next_face f))
      (visited_runs_go_across_faces dir axis n m visited (vertex b c) b unbroken inside (touches_vertex b c) here)

lifted : (k x : Bool) (f : Axis → Side → Bool) → k ≡ true → HasOneWay x f → HasOneWay (k && x) (λ i h. k && f i h)
lifted true x f e h = h
lifted false x f e h = absurd (cc)

pub each_corner_has_one_way : EachCornerHasOneWay
each_corner_has_one_way dir axis is_cell splits visited kept unbroken m b c cell level inside k =
    let n = splits - m in
    let f = and_true (visited m b) _ k in
    let v = vertex b c in
    let u = unbroken m v cell level f.1 in
    let place = rank dir axis n m in
    let back_place = rank (turned_round dir) axis n m in
    let mirrored = backward_is_reversed dir axis n m in
    let w = flipped_unbroken place back_place (extent axis n m) (visited m) (3 ^ n) mirrored v u in
    (lifted _ _ _ k (one_way dir axis n m (visited m) b c inside f.0 u), lifted _ _ _ k (one_way (turned_round dir) axis n m (visited m) b c inside f.0 w), (λ t. last_told dir axis n m (visited m) b c inside f.0 u (and_true _ _ t).1), (λ t. first_of place back_place (3 ^ n) mirrored (extent axis n m) (visited m) v b (last_told (turned_round dir) axis n m (visited m) b c inside f.0 w (and_true _ _ t).1)))
  where
    first_of : (place back_place : Box → ℕ) (total : ℕ) → ((d : Box) → place d + back_place d + 1 ≡ total) → (bound : Axis → ℕ) (seen : Box → Bool) (v b : Box) → IsLastVisited back_place bound seen v b → IsFirstVisited place bound seen v b
    first_of place back_place total mirrored bound seen v b last d inside touching there =
        let p = mirrored b in
        let q = mirrored d in
        let l = last d inside touching there in
        omega arith
