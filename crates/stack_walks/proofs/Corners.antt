-- Corner by corner, a lane gets the same steps.
use Rattle.std.proofs.Common.{◌≡◌, ◌≢◌, ℕ, ◌+◌, ◌-◌, ◌≤◌, ◌<◌, Bool, true, false, if◌then◌else◌, List, [], ◌∷◌, map, reverse, flat_map, refl, sym, ap, ◌∙◌, arith, Some, ⊎_elim, append-nil, eq-eqb, ne_eqb}
use Rattle.std.specs.List.{AllByRecursion}
use Rattle.std.proofs.lemmas.Grind.{flat_map-append}
use Rattle.std.proofs.lemmas.List.{map-append, reverse-append}
use Rattle.std.proofs.lemmas.Bool.{cases_lt}
use Rattle.stack_law.specs.Boxes.{Axis, Side, Box, first, second, third, low, high, opposite, size, number, coord, moved, beyond, lane, Direction}
use Rattle.stack_law.specs.Stack.{Step, push, pop, run, on_lane}
use Rattle.stack_law.specs.Visits.{Way, Faces, Visit, entry, exit, wall, enter, leave, visits, walls}
use Rattle.stack_law.specs.Passings.{over_faces, at_entry, at_exit, passings}
use Rattle.stack_law.specs.Order.{IsInner, IsOuter, IsInDomain, rank, extent, WayIs, IsRightCell, IsRightVisit}
use Rattle.stack_walks.specs.Corners.{Corner, all_corners, side_on, mate, vertex, by_corners, Passes, AllPass}
use Rattle.stack_law.specs.Domain.{root}
use Rattle.stack_law.specs.LaneLaws.{IsReflexive}
use Rattle.stack_walks.specs.CornerLaws.{CornersPassAlongLanes}
use Rattle.stack_law.proofs.Seen.{on_lane-append, only_face, number_apart, lanes_apart, sides_apart, enter_lane, leave_lane}
use Rattle.stack_law.proofs.Together.{together, each_lane, no_face, lane_below, number_below}
use Rattle.stack_law.proofs.Ways.{ways_follow_the_order}
use mathlib.Core.List.{reverse-cons}
use Rattle.stack_law.proofs.Across.{there_and_back, face_of}

-- the corners of two cells at their common face come in one order
match_corners : {A : Type 0} (i : Axis) (h : Side) (f g : Corner → List A) → ((c : Corner) → side_on i c ≡ opposite h → f c ≡ []) → ((c : Corner) → side_on i c ≡ h → g c ≡ []) → ((c : Corner) → side_on i c ≡ h → f c ≡ g (mate i c)) → flat_map f (reverse all_corners) ≡ flat_map g (reverse all_corners)
match_corners first low f g f0 g0 fg = simp (f0, g0, fg)
match_corners first high f g f0 g0 fg = simp (f0, g0, fg)
match_corners second low f g f0 g0 fg = simp (f0, g0, fg)
match_corners second high f g f0 g0 fg = simp (f0, g0, fg)
match_corners third low f g f0 g0 fg = simp (f0, g0, fg)
match_corners third high f g f0 g0 fg = simp (f0, g0, fg)

-- lists of at most one item each
pub reverse_flat : {C A : Type 0} (t : C → Bool) (x : C → A) (cs : List C) → reverse (flat_map (λ c. if t c then x c ∷ [] else []) cs) ≡ flat_map (λ c. if t c then x c ∷ [] else []) (reverse cs)
reverse_flat t x [] = refl
reverse_flat {C} {A} t x (c ∷ cs) =
    reverse-append (f c) (flat_map f cs)
    ∙ rw (reverse_flat t x cs, one (t c)) (rw (reverse-cons, flat_map-append, append-nil) refl)
  where
    f : C → List A
    f d = if t d then x d ∷ [] else []

    one : (b : Bool) → reverse (if b then x c ∷ [] else []) ≡ (if b then x c ∷ [] else [])
    one true = refl
    one false = refl

low_vertex : (x : ℕ) (s : Side) → s ≡ low → 0 < x → x + size s ≡ x - 1 + size (opposite s)
low_vertex x s e l = rw e (omega arith)

high_vertex : (x : ℕ) (s : Side) → s ≡ high → x + size s ≡ x + 1 + size (opposite s)
high_vertex x s e = rw e (omega arith)

pub vertex_across : (b : Box) (c : Corner) (i : Axis) (h : Side) (e : ℕ) → side_on i c ≡ h → IsInner h (coord i b) e → vertex b c ≡ vertex (beyond i h b) (mate i c)
vertex_across b c first low e s l = ap (λ w. moved first w (vertex b c)) (low_vertex b.x0 c.s0 s l)
vertex_across b c first high e s l = ap (λ w. moved first w (vertex b c)) (high_vertex b.x0 c.s0 s)
vertex_across b c second low e s l = ap (λ w. moved second w (vertex b c)) (low_vertex b.x1 c.s1 s l)
vertex_across b c second high e s l = ap (λ w. moved second w (vertex b c)) (high_vertex b.x1 c.s1 s)
vertex_across b c third low e s l = ap (λ w. moved third w (vertex b c)) (low_vertex b.x2 c.s2 s l)
vertex_across b c third high e s l = ap (λ w. moved third w (vertex b c)) (high_vertex b.x2 c.s2 s)

pub side_on_mate : (i : Axis) (c : Corner) → side_on i (mate i c) ≡ opposite (side_on i c)
side_on_mate first c = refl
side_on_mate second c = refl
side_on_mate third c = refl

sides_differ : (h : Side) → h ≡ opposite h → ⊥
sides_differ low e = cc
sides_differ high e = cc

if_false : {V : Type 0} (t : Bool) (xs : List V) → (t ≡ true → ⊥) → (if t then xs else []) ≡ []
if_false true xs f = absurd (f refl)
if_false false xs f = refl

pub no_flat : {C V : Type 0} (f : C → List V) → ((c : C) → f c ≡ []) → (cs : List C) → flat_map f cs ≡ []
no_flat f none [] = refl
no_flat f none (c ∷ cs) = rw (none c, no_flat f none cs) refl

pub neighbour_inside : (bound : Axis → ℕ) (b : Box) (i : Axis) (h : Side) → IsInDomain bound b → IsInner h (coord i b) (bound i) → IsInDomain bound (beyond i h b)
neighbour_inside bound b first low f l first = omega (arith, f first)
neighbour_inside bound b first high f l first = l
neighbour_inside bound b second low f l second = omega (arith, f second)
neighbour_inside bound b second high f l second = l
neighbour_inside bound b third low f l third = omega (arith, f third)
neighbour_inside bound b third high f l third = l
neighbour_inside bound b first low f l second = f second
neighbour_inside bound b first high f l second = f second
neighbour_inside bound b first low f l third = f third
neighbour_inside bound b first high f l third = f third
neighbour_inside bound b second low f l first = f first
neighbour_inside bound b second high f l first = f first
neighbour_inside bound b second low f l third = f third
neighbour_inside bound b second high f l third = f third
neighbour_inside bound b third low f l first = f first
neighbour_inside bound b third high f l first = f first
neighbour_inside bound b third low f l second = f second
neighbour_inside bound b third high f l second = f second

module _ (A : Type 0) (name : ℕ → Box → Box → A) (goes comes : ℕ → Box → Corner → Axis → Side → Bool) where
  -- what passes across a face
  abbrev pub items_of : ℕ → Box → Axis → Side → List A
  items_of m b i h = flat_map (λ c. if goes m b c i h then name m (vertex b c) (beyond i h b) ∷ [] else []) all_corners

  abbrev pub found_at : ℕ → Box → Axis → Side → Corner → List A
  found_at m b i h c = if comes m b c i h then name m (vertex b c) b ∷ [] else []

  -- one corner's events on the lane of a face
  one_corner : (s : A → Step A) (t : Axis → Side → Bool) (b : Box) (x : Axis → Side → A) (i : Axis) (h : Side) → on_lane (lane i h b) (over_faces (λ j g. if t j g then record { on = lane j g b; step = s (x j g) } ∷ [] else [])) ≡ map s (if t i h then x i h ∷ [] else [])
  one_corner s t b x i h =
      only_face (lane i h b) (λ j g. if t j g then record { on = lane j g b; step = s (x j g) } ∷ [] else []) i h
      (λ j g e. off (t j g) (lane j g b) (x j g) (lanes_apart (number j) (number i) (coord j b + size g) (coord i b + size h) (number_apart j i e)))
      (off (t i (opposite h)) (lane i (opposite h) b) (x i (opposite h)) (sides_apart (number i) (coord i b) h))
      ∙ on (t i h)
    where
      off : (c : Bool) (l : ℕ) (y : A) → l ≢ lane i h b → on_lane (lane i h b) (if c then record { on = l; step = s y } ∷ [] else []) ≡ []
      off true l y n = rw (ne_eqb l (lane i h b) n) refl
      off false l y n = refl

      on : (c : Bool) → on_lane (lane i h b) (if c then record { on = lane i h b; step = s (x i h) } ∷ [] else []) ≡ map s (if c then x i h ∷ [] else [])
      on true = rw (eq-eqb (lane i h b) (lane i h b) refl) refl
      on false = refl

  all_corners_lane : (s : A → Step A) (t : Corner → Axis → Side → Bool) (b : Box) (x : Corner → Axis → Side → A) (i : Axis) (h : Side) (cs : List Corner) → on_lane (lane i h b) (flat_map (λ c. over_faces (λ j g. if t c j g then record { on = lane j g b; step = s (x c j g) } ∷ [] else [])) cs) ≡ map s (flat_map (λ c. if t c i h then x c i h ∷ [] else []) cs)
  all_corners_lane s t b x i h [] = refl
  all_corners_lane s t b x i h (c ∷ cs) =
      on_lane-append (lane i h b) (over_faces (λ j g. if t c j g then record { on = lane j g b; step = s (x c j g) } ∷ [] else [])) _
      ∙ rw (one_corner s (t c) b (x c) i h, all_corners_lane s t b x i h cs) (sym (map-append s _ _))

  module _ (m : ℕ) (b : Box) (place : Box → ℕ) (bound : Axis → ℕ) (p : Passes place bound (goes m) (comes m) b) (i : Axis) (h : Side) where
    outer : (g : Side) (x e : ℕ) → IsOuter g x e → IsInner g x e → ⊥
    outer low x e f g = omega arith
    outer high x e f g = omega arith

    given_is : (w : Way) → WayIs place bound b i h w → map push (items_of m b i h) ≡ at_exit w (map push (items_of m b i h))
    given_is entry f = ap (map push) (no_flat _ (λ c. if_false (goes m b c i h) (name m (vertex b c) (beyond i h b) ∷ []) (λ e. (let g = p.goes_later c i h e in omega arith))) all_corners)
    given_is exit f = refl
    given_is wall f = ap (map push) (no_flat _ (λ c. if_false (goes m b c i h) (name m (vertex b c) (beyond i h b) ∷ []) (λ e. outer h (coord i b) (bound i) f (p.goes_later c i h e).0)) all_corners)

    taken_is : (IsInner h (coord i b) (bound i) → (c : Corner) → goes m (beyond i h b) c i (opposite h) ≡ true → side_on i c ≡ opposite h) → (w : Way) → WayIs place bound b i h w → map pop (flat_map (found_at m b i h) (reverse all_corners)) ≡ at_entry w (map pop (reverse (items_of m (beyond i h b) i (opposite h))))
    taken_is own entry f =
        let n = beyond i h b in
        let given = λ (c : Corner). if goes m n c i (opposite h) then name m (vertex n c) (beyond i (opposite h) n) ∷ [] else [] in
        let matched =
        match_corners i h (found_at m b i h) given
        (λ c e. if_false (comes m b c i h) (name m (vertex b c) b ∷ []) (λ t. sides_differ h (sym (p.comes_own c i h t) ∙ e)))
        (λ c e. if_false (goes m n c i (opposite h)) (name m (vertex n c) (beyond i (opposite h) n) ∷ []) (λ t. sides_differ h (sym e ∙ own f.0 c t)))
        (λ c e. rw (p.comes_from c i h e f.0 f.1, vertex_across b c i h (bound i) e f.0, there_and_back i h b (bound i) f.0) refl) in
        ap (map pop) (matched ∙ sym (reverse_flat (λ c. goes m n c i (opposite h)) (λ c. name m (vertex n c) (beyond i (opposite h) n)) all_corners))
    taken_is own exit f = ap (map pop) (no_flat _ (λ c. if_false (comes m b c i h) (name m (vertex b c) b ∷ []) (λ e. (let g = p.comes_earlier c i h e in omega arith))) (reverse all_corners))
    taken_is own wall f = ap (map pop) (no_flat _ (λ c. if_false (comes m b c i h) (name m (vertex b c) b ∷ []) (λ e. outer h (coord i b) (bound i) f (p.comes_earlier c i h e).0)) (reverse all_corners))

  -- no other lane
  no_corner : (k : ℕ) → 6 ≤ k → (s : A → Step A) (t : Corner → Axis → Side → Bool) (b : Box) (x : Corner → Axis → Side → A) (cs : List Corner) → on_lane k (flat_map (λ c. over_faces (λ j g. if t c j g then record { on = lane j g b; step = s (x c j g) } ∷ [] else [])) cs) ≡ []
  no_corner k l s t b x [] = refl
  no_corner k l s t b x (c ∷ cs) =
      on_lane-append k (over_faces (λ j g. if t c j g then record { on = lane j g b; step = s (x c j g) } ∷ [] else [])) _
      ∙ rw (no_face A (λ m b i h. []) k (λ j g. if t c j g then record { on = lane j g b; step = s (x c j g) } ∷ [] else []) (λ j g. off (t c j g) (lane j g b) (x c j g) (lane_below A (λ m b i h. []) (number j) (coord j b + size g) k (number_below A (λ m b i h. []) j) l)), no_corner k l s t b x cs) refl
    where
      off : (u : Bool) (n : ℕ) (y : A) → n ≢ k → on_lane k (if u then record { on = n; step = s y } ∷ [] else []) ≡ []
      off true n y e = rw (ne_eqb n k e) refl
      off false n y e = refl

  pub no_more_corners : (k : ℕ) → 6 ≤ k → (vs : List Visit) → on_lane k (flat_map (by_corners A name goes comes) vs) ≡ []
  no_more_corners k l [] = refl
  no_more_corners k l (enter m b io ∷ vs) =
      on_lane-append k (by_corners A name goes comes (enter m b io)) _
      ∙ rw (no_corner k l pop (comes m b) b (λ c j g. name m (vertex b c) b) (reverse all_corners), no_more_corners k l vs) refl
  no_more_corners k l (leave m b io ∷ vs) =
      on_lane-append k (by_corners A name goes comes (leave m b io)) _
      ∙ rw (no_corner k l push (goes m b) b (λ c j g. name m (vertex b c) (beyond j g b)) all_corners, no_more_corners k l vs) refl

  module _ (dir : Direction) (axis : ℕ → Axis) (is_cell : ℕ → Bool) (splits : ℕ) (pass : AllPass dir axis is_cell splits goes comes) where
    enter_same : (m : ℕ) (b : Box) (io : Faces) (i : Axis) (h : Side) → IsRightCell dir axis is_cell splits m b io → on_lane (lane i h b) (by_corners A name goes comes (enter m b io)) ≡ on_lane (lane i h b) (passings A items_of (enter m b io))
    enter_same m b io i h r =
        let place = rank dir axis (splits - m) m in
        let bound = extent axis (splits - m) m in
        all_corners_lane pop (comes m b) b (λ c j g. name m (vertex b c) b) i h (reverse all_corners)
        ∙ taken_is m b place bound (pass m b r.cell r.level r.inside) i h (λ inner c t. (pass m (beyond i h b) r.cell r.level (neighbour_inside bound b i h r.inside inner)).goes_own c i (opposite h) t) (io i h) (r.ways i h)
        ∙ sym (enter_lane A items_of dir axis is_cell i m b h io)

    leave_same : (m : ℕ) (b : Box) (io : Faces) (i : Axis) (h : Side) → IsRightCell dir axis is_cell splits m b io → on_lane (lane i h b) (by_corners A name goes comes (leave m b io)) ≡ on_lane (lane i h b) (passings A items_of (leave m b io))
    leave_same m b io i h r =
        all_corners_lane push (goes m b) b (λ c j g. name m (vertex b c) (beyond j g b)) i h all_corners
        ∙ given_is m b (rank dir axis (splits - m) m) (extent axis (splits - m) m) (pass m b r.cell r.level r.inside) i h (io i h) (r.ways i h)
        ∙ sym (leave_lane A items_of dir axis is_cell i m b h io)

    visit_same : (k : ℕ) → k < 6 → (v : Visit) → IsRightVisit dir axis is_cell splits v → on_lane k (by_corners A name goes comes v) ≡ on_lane k (passings A items_of v)
    visit_same k l (enter m b io) r = let f = face_of b k l in rw f.2 at (enter_same m b io f.0 f.1 r)
    visit_same k l (leave m b io) r = let f = face_of b k l in rw f.2 at (leave_same m b io f.0 f.1 r)

    pub visits_same : (k : ℕ) → k < 6 → (vs : List Visit) → AllByRecursion (IsRightVisit dir axis is_cell splits) vs → on_lane k (flat_map (by_corners A name goes comes) vs) ≡ on_lane k (flat_map (passings A items_of) vs)
    visits_same k l [] f = refl
    visits_same k l (v ∷ vs) f =
        on_lane-append k (by_corners A name goes comes v) (flat_map (by_corners A name goes comes) vs)
        ∙ rw (visit_same k l v f.0, visits_same k l vs f.1) (sym (on_lane-append k (passings A items_of v) (flat_map (passings A items_of) vs)))

    module _ (same : A → A → Bool) (same_self : IsReflexive A same) where
      corner_lane : (k : ℕ) → run same [] (on_lane k (flat_map (by_corners A name goes comes) (visits dir axis is_cell splits root walls))) ≡ Some []
      corner_lane k =
          ⊎_elim
          (λ below. rw (visits_same k below (visits dir axis is_cell splits root walls) (ways_follow_the_order dir axis is_cell splits)) (each_lane A items_of same same_self dir axis is_cell splits k))
          (λ above. rw (no_more_corners k above (visits dir axis is_cell splits root walls)) refl)
          (cases_lt k 6)

pub corners_pass_along_lanes : (A : Type 0) → CornersPassAlongLanes A
corners_pass_along_lanes A same same_self dir axis is_cell splits name goes comes pass = together A same (flat_map (by_corners A name goes comes) (visits dir axis is_cell splits root walls)) (λ k. []) (λ k. []) (corner_lane A name goes comes dir axis is_cell splits pass same same_self)
