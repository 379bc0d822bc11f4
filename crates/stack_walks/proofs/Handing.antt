-- What a cell finds among its neighbours is what the run says.
use Rattle.std.proofs.Common.{◌≡◌, ℕ, ◌+◌, ◌-◌, ◌^◌, ◌<◌, ◌≤◌, leb, Bool, true, false, not, ◌&&◌, ◌||◌, refl, sym, ap, ◌∙◌, arith, ⊎_elim}
use Rattle.std.proofs.lemmas.Bool.{cases_lt, ltb-true, lt-ltb, leb-true, le-leb}
use Rattle.stack_law.specs.Boxes.{Axis, Side, Box, Direction, first, second, third, low, high, forward, backward, turned_round, same_side, size, coord, moved, beyond}
use Rattle.stack_law.specs.Order.{IsInner, IsInDomain, rank, extent}
use Rattle.stack_law.specs.Around.{Touches, IsUnbroken, IsNext, IsCandidate}
use Rattle.stack_walks.specs.Corners.{Corner, side_on, vertex, PassesToNext}
use Rattle.stack_walks.specs.Handing.{has_neighbour, leads_later, not_sooner, leads_next, leads_nowhere, has_kept_corner, goes_on, came_from}
use Rattle.stack_walks.specs.HandingLaws.{NeighboursTellTheRun}
use Rattle.stack_walks.proofs.Corners.{neighbour_inside}
use Rattle.stack_walks.proofs.GivenCorners.{size_same, and_true, same_side_exact, same_side_self}
use Rattle.stack_law.proofs.Visited.{next_is_least_later_neighbour, touches_beyond}
use Rattle.stack_law.proofs.Digits.{backward_is_reversed}

-- tests
pub and_both : (a b : Bool) → a ≡ true → b ≡ true → (a && b) ≡ true
and_both a b p q = rw (p, q) refl

not_false : (b : Bool) → (b ≡ true → ⊥) → not b ≡ true
not_false true f = absurd (f refl)
not_false false f = refl

not_true : (b : Bool) → not b ≡ true → b ≡ true → ⊥
not_true true e f = cc
not_true false e f = cc

pub or_implies : (a b : Bool) → (not a || b) ≡ true → a ≡ true → b ≡ true
or_implies true b e f = e
or_implies false b e f = absurd (cc)

pub implies_or : (a b : Bool) → (a ≡ true → b ≡ true) → (not a || b) ≡ true
implies_or true b f = f refl
implies_or false b f = refl

pub inner_test : (h : Side) (x e : ℕ) → has_neighbour h x e ≡ true → IsInner h x e
inner_test low x e t = ltb-true 0 x t
inner_test high x e t = ltb-true (x + 1) e t

pub test_inner : (h : Side) (x e : ℕ) → IsInner h x e → has_neighbour h x e ≡ true
test_inner low x e l = lt-ltb 0 x l
test_inner high x e l = lt-ltb (x + 1) e l

side_between : (x : ℕ) (s : Side) → (x ≤ x + size s) × (x + size s ≤ x + 1)
side_between x low = (omega arith, omega arith)
side_between x high = (omega arith, omega arith)

pub touches_vertex : (b : Box) (c : Corner) → Touches (vertex b c) b
touches_vertex b c first = side_between b.x0 c.s0
touches_vertex b c second = side_between b.x1 c.s1
touches_vertex b c third = side_between b.x2 c.s2

pub coord_vertex : (j : Axis) (b : Box) (c : Corner) → coord j (vertex b c) ≡ coord j b + size (side_on j c)
coord_vertex first b c = refl
coord_vertex second b c = refl
coord_vertex third b c = refl

-- a cell that is later across a face is another cell
beyond_edge : (i : Axis) (b : Box) → coord i b ≡ 0 → beyond i low b ≡ b
beyond_edge first b e = ap (λ v. moved first v b) (let q : b.x0 - 1 ≡ b.x0 = omega arith in q)
beyond_edge second b e = ap (λ v. moved second v b) (let q : b.x1 - 1 ≡ b.x1 = omega arith in q)
beyond_edge third b e = ap (λ v. moved third v b) (let q : b.x2 - 1 ≡ b.x2 = omega arith in q)

inside_high : (bound : Axis → ℕ) (i : Axis) (b : Box) → IsInDomain bound (beyond i high b) → coord i b + 1 < bound i
inside_high bound first b f = f first
inside_high bound second b f = f second
inside_high bound third b f = f third

module _ (place : Box → ℕ) (bound : Axis → ℕ) (visited : Box → Bool) (b : Box) (c : Corner) (inside : IsInDomain bound b) where
  abbrev pub v : Box
  v = vertex b c

  pub inner_later : (i : Axis) (h : Side) → IsInDomain bound (beyond i h b) → place b < place (beyond i h b) → IsInner h (coord i b) (bound i)
  inner_later i low f l = ⊎_elim (λ p. p) (λ n. absurd (let e = beyond_edge i b (omega arith) in let q = ap place e in omega arith)) (cases_lt 0 (coord i b))
  inner_later i high f l = inside_high bound i b f

  -- the test of a face, and what it tells
  later_candidate : (i : Axis) (h : Side) → side_on i c ≡ h → leads_later place bound visited b i h ≡ true → IsCandidate place bound visited v b i h
  later_candidate i h s t =
      let f = and_true (has_neighbour h (coord i b) (bound i)) _ t in
      let g = and_true (visited (beyond i h b)) _ f.1 in
      record { plane = rw (coord_vertex i b c, s) refl; inside = neighbour_inside bound b i h inside (inner_test h (coord i b) (bound i) f.0); visited_there = g.0; later = ltb-true _ _ g.1 }

  pub candidate_later : (i : Axis) (h : Side) → IsCandidate place bound visited v b i h → (side_on i c ≡ h) × (leads_later place bound visited b i h ≡ true)
  candidate_later i h k =
      (sym (size_same (coord i b) h (side_on i c) (k.plane ∙ coord_vertex i b c)), and_both _ _ (test_inner h (coord i b) (bound i) (inner_later i h k.inside k.later)) (and_both _ _ k.visited_there (lt-ltb _ _ k.later)))

  sooner_tells : (i : Axis) (h : Side) (j : Axis) (g : Side) → not_sooner place bound visited b c i h j ≡ true → IsCandidate place bound visited v b j g → place (beyond i h b) ≤ place (beyond j g b)
  sooner_tells i h j g t k =
      let f = candidate_later j g k in
      rw f.0 at (leb-true _ _ (or_implies (leads_later place bound visited b j (side_on j c)) _ t (rw f.0 f.1)))

  all_axes : (f : Axis → Bool) → (f first && (f second && f third)) ≡ true → (j : Axis) → f j ≡ true
  all_axes f t first = (and_true (f first) _ t).0
  all_axes f t second = (and_true (f second) _ (and_true (f first) _ t).1).0
  all_axes f t third = (and_true (f second) _ (and_true (f first) _ t).1).1

  axes_all : (f : Axis → Bool) → ((j : Axis) → f j ≡ true) → (f first && (f second && f third)) ≡ true
  axes_all f t = and_both _ _ (t first) (and_both _ _ (t second) (t third))

  -- what leads next is the next cell of the run
  pub next_tells : ((i : Axis) (h : Side) → IsCandidate place bound visited v b i h → ((j : Axis) (g : Side) → IsCandidate place bound visited v b j g → place (beyond i h b) ≤ place (beyond j g b)) → IsNext place bound visited v b (beyond i h b)) → (i : Axis) (h : Side) → leads_next place bound visited b c i h ≡ true → (side_on i c ≡ h) × IsInner h (coord i b) (bound i) × IsNext place bound visited v b (beyond i h b)
  next_tells least i h t =
      let f = and_true (same_side (side_on i c) h) _ t in
      let g = and_true (leads_later place bound visited b i h) _ f.1 in
      let s = same_side_exact (side_on i c) h f.0 in
      let k = later_candidate i h s g.0 in
      (s, inner_later i h k.inside k.later, least i h k (λ j g' k'. sooner_tells i h j g' (all_axes (not_sooner place bound visited b c i h) g.1 j) k'))

  pub next_told : (i : Axis) (h : Side) → side_on i c ≡ h → IsInner h (coord i b) (bound i) → IsNext place bound visited v b (beyond i h b) → leads_next place bound visited b c i h ≡ true
  next_told i h s l n =
      and_both _ _ (rw s (same_side_self h))
      (and_both _ _ (and_both _ _ (test_inner h (coord i b) (bound i) l) (and_both _ _ n.to (lt-ltb _ _ n.later)))
      (axes_all (not_sooner place bound visited b c i h) (λ j. implies_or (leads_later place bound visited b j (side_on j c)) _ (λ t. not_before j (later_candidate j (side_on j c) refl t)))))
    where
      not_before : (j : Axis) → IsCandidate place bound visited v b j (side_on j c) → leb (place (beyond i h b)) (place (beyond j (side_on j c) b)) ≡ true
      not_before j k = le-leb _ _ (n.next (beyond j (side_on j c) b) k.inside (touches_beyond v b j (side_on j c) k.plane (touches_vertex b c)) k.visited_there k.later)

  -- a corner that leads nowhere belongs to the last cell of the run
  pub nowhere_tells : leads_nowhere place bound visited b c ≡ true → (i : Axis) (h : Side) → IsCandidate place bound visited v b i h → ⊥
  nowhere_tells t i h k =
      let f = candidate_later i h k in
      let nowhere = all_axes (λ j. not (leads_later place bound visited b j (side_on j c))) t i in
      not_true (leads_later place bound visited b i (side_on i c)) nowhere (rw f.0 f.1)

  pub nowhere_told : ((i : Axis) (h : Side) → IsCandidate place bound visited v b i h → ⊥) → leads_nowhere place bound visited b c ≡ true
  nowhere_told none = axes_all (λ j. not (leads_later place bound visited b j (side_on j c))) (λ j. not_false _ (λ t. none j (side_on j c) (later_candidate j (side_on j c) refl t)))

-- the run the other way
module _ (place place' : Box → ℕ) (bound : Axis → ℕ) (visited : Box → Bool) (total : ℕ) (mirrored : (b : Box) → place b + place' b + 1 ≡ total) where
  pub flipped_next : (v p q : Box) → IsInDomain bound p → Touches v p → IsNext place' bound visited v p q → IsNext place bound visited v q p
  flipped_next v p q inside touching n =
      let e = mirrored p in
      let f = mirrored q in
      let l = n.later in
      record {
        from = n.to;
        to = n.from;
        inside = inside;
        touching = touching;
        later = omega arith;
        next = λ b g u w k. ⊎_elim (λ less. (let r = mirrored b in let m = n.next b g u w (omega arith) in absurd (omega arith))) (λ m. m) (cases_lt (place b) (place p));
      }

  pub flipped_unbroken : (v : Box) → IsUnbroken place bound visited v → IsUnbroken place' bound visited v
  flipped_unbroken v u a b c va vb inside touching l m =
      let e = mirrored a in
      let f = mirrored b in
      let g = mirrored c in
      u b a c vb va inside touching (omega arith) (omega arith)

pub turned_twice : (dir : Direction) → turned_round (turned_round dir) ≡ dir
turned_twice forward = refl
turned_twice backward = refl

module _ (dir : Direction) (axis : ℕ → Axis) (splits : ℕ) (visited kept : ℕ → Box → Bool) where
  abbrev kept_corner : ℕ → Box → Corner → Bool
  kept_corner = has_kept_corner dir axis splits visited kept

  module _ (m : ℕ) (b : Box) (inside : IsInDomain (extent axis (splits - m) m) b) (unbroken : (v : Box) → kept m v ≡ true → IsUnbroken (rank dir axis (splits - m) m) (extent axis (splits - m) m) (visited m) v) where
    abbrev place : Box → ℕ
    place = rank dir axis (splits - m) m

    abbrev back_place : Box → ℕ
    back_place = rank (turned_round dir) axis (splits - m) m

    abbrev bound : Axis → ℕ
    bound = extent axis (splits - m) m

    mirrored : (c : Box) → place c + back_place c + 1 ≡ 3 ^ (splits - m)
    mirrored = backward_is_reversed dir axis (splits - m) m

    mirrored_back : (c : Box) → back_place c + place c + 1 ≡ 3 ^ (splits - m)
    mirrored_back c = (let e = mirrored c in omega arith)

    back_unbroken : (v : Box) → kept m v ≡ true → IsUnbroken back_place bound (visited m) v
    back_unbroken v k = flipped_unbroken place back_place bound (visited m) (3 ^ (splits - m)) mirrored v (unbroken v k)

    pub passes_to_next : PassesToNext place bound (visited m) (kept m) (goes_on dir axis splits visited kept m) (came_from dir axis splits visited kept m) b
    passes_to_next = record {
      to_next = λ c i h. (
        (λ t. (let f = and_true (kept_corner m b c) _ t in let g = and_true (visited m b) _ f.0 in let n = next_tells place bound (visited m) b c inside (next_is_least_later_neighbour dir axis (splits - m) m (visited m) (vertex b c) b (unbroken (vertex b c) g.1) inside (touches_vertex b c) g.0).1 i h f.1 in (g.1, n.0, n.1, n.2))),
        (λ f. and_both _ _ (and_both _ _ f.3.from f.0) (next_told place bound (visited m) b c inside i h f.1 f.2 f.3)),
      );
      from_before = λ c i h. (
        (λ t. (let f = and_true (kept_corner m b c) _ t in let g = and_true (visited m b) _ f.0 in let n = next_tells back_place bound (visited m) b c inside (next_is_least_later_neighbour (turned_round dir) axis (splits - m) m (visited m) (vertex b c) b (back_unbroken (vertex b c) g.1) inside (touches_vertex b c) g.0).1 i h f.1 in (g.1, n.0, n.1, flipped_next place back_place bound (visited m) (3 ^ (splits - m)) mirrored (vertex b c) b (beyond i h b) inside (touches_vertex b c) n.2))),
        (λ f. and_both _ _ (and_both _ _ f.3.to f.0) (next_told back_place bound (visited m) b c inside i h f.1 f.2 (flipped_next back_place place bound (visited m) (3 ^ (splits - m)) mirrored_back (vertex b c) (beyond i h b) b (neighbour_inside bound b i h inside f.2) (touches_beyond (vertex b c) b i h (rw (coord_vertex i b c, f.1) refl) (touches_vertex b c)) f.3))),
      );
    }

pub neighbours_tell_the_run : NeighboursTellTheRun
neighbours_tell_the_run dir axis is_cell splits visited kept unbroken m b cell level inside =
    passes_to_next dir axis splits visited kept m b inside (λ v k. unbroken m v cell level k)
