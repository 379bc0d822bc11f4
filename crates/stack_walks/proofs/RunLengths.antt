-- Each kept vertex is given along the lanes once less than its run is long.
use Rattle.std.proofs.Common.{◌≡◌, ℕ, ◌+◌, ◌-◌, ◌==◌, ◌≤◌, leb, Bool, true, false, cond, ◌&&◌, if◌then◌else◌, List, [], ◌∷◌, length, flat_map, refl, sym, ap, ◌∙◌, subst, arith, ⊎_elim, inl, inr, ◌⊎◌, eq-eqb, eqb-true, append-nil, length-append}
use Rattle.std.specs.List.{AllByRecursion, count_by}
use Rattle.std.proofs.lemmas.Bool.{leb-true, le-leb}
use Rattle.std.proofs.lemmas.Grind.{flat_map-append}
use Rattle.stack_law.specs.Boxes.{Axis, Box, Direction, first, second, third}
use Rattle.stack_law.specs.Domain.{root}
use Rattle.stack_law.specs.Visits.{Visit, enter, leave, visits, walls}
use Rattle.stack_law.specs.Order.{extent, IsInDomain, IsRightVisit}
use Rattle.stack_law.specs.Around.{Touches}
use Rattle.stack_law.specs.Stack.{AreDistinct}
use Rattle.stack_law.specs.Once.{IsIn, left_at}
use Rattle.stack_walks.specs.Corners.{Corner, same_corner, all_corners, vertex}
use Rattle.stack_law.specs.Moments.{TellsApart, same_box}
use Rattle.stack_walks.specs.Handing.{has_kept_corner, KeptUnbroken}
use Rattle.stack_walks.specs.Streams.{given_out}
use Rattle.stack_walks.specs.Counts.{Kept, kept_vertex, kept_corners, same_kept, is_end, is_corner_of, run_of, GivenOnceLessThanTheRun}
use Rattle.stack_law.proofs.Ways.{ways_follow_the_order}
use Rattle.stack_law.proofs.Distinct.{in_either, not_in}
use Rattle.stack_walks.proofs.GivenCorners.{and_true, same_box_self, same_box_exact, in_some, same_corner_self, same_corner_exact, corners_distinct, vertex_same}
use Rattle.stack_walks.proofs.Handing.{and_both, touches_vertex}
use Rattle.stack_law.proofs.Held.{false_if}
use Rattle.stack_walks.proofs.Counts.{count-append, each_kept_corner_is_given}
use Rattle.stack_walks.proofs.Ends.{kept_decided, corner_at, is_a_corner, outputs_distinct, ends_once}

-- one item more
pub count-cons : {A : Type 0} (p : A → Bool) (x : A) (xs : List A) → count_by p (x ∷ xs) ≡ cond (p x) 1 0 + count_by p xs
count-cons p x xs = count-append p (x ∷ []) xs ∙ ap (λ n. n + count_by p xs) (let e : 0 + cond (p x) 1 0 ≡ cond (p x) 1 0 = omega arith in e)

-- counts in distinct lists
module _ (A : Type 0) (same : A → A → Bool) (decides : TellsApart A same) (p : A → Bool) where
  pub count_none : (xs : List A) → ((y : A) → IsIn y xs → p y ≡ true → ⊥) → count_by p xs ≡ 0
  count_none [] f = refl
  count_none (x ∷ xs) f = count-cons p x xs ∙ rw (false_if (p x) (f x (inl refl)), count_none xs (λ y h. f y (inr h))) (omega arith)

  pub count_one : (x : A) (xs : List A) → AreDistinct same xs → IsIn x xs → p x ≡ true → ((y : A) → p y ≡ true → y ≡ x) → count_by p xs ≡ 1
  count_one x [] d h t f = absurd h
  count_one x (y ∷ xs) d (inl e) t f = count-cons p y xs ∙ rw (← e, t, count_none xs (λ z h u. not_in A same decides.reflexive decides.exact y xs d.0 (subst (λ w. IsIn w xs) (f z u ∙ e) h))) (omega arith)
  count_one x (y ∷ xs) d (inr h) t f = count-cons p y xs ∙ rw (false_if (p y) (λ u. not_in A same decides.reflexive decides.exact y xs d.0 (subst (λ w. IsIn w xs) (sym (f y u)) h)), count_one x xs d.1 h t f) (omega arith)

-- a list of at most one item each
pub count_flat : {C A : Type 0} (p : A → Bool) (t : C → Bool) (f : C → A) (cs : List C) → count_by p (flat_map (λ c. if t c then f c ∷ [] else []) cs) ≡ count_by (λ c. t c && p (f c)) cs
count_flat p t f [] = refl
count_flat {C} {A} p t f (c ∷ cs) = count-append p (if t c then f c ∷ [] else []) (flat_map (λ c. if t c then f c ∷ [] else []) cs) ∙ rw (count_flat p t f cs) (one (t c)) ∙ sym (count-cons (λ c. t c && p (f c)) c cs)
  where
    one : (b : Bool) → count_by p (if b then f c ∷ [] else []) + count_by (λ c. t c && p (f c)) cs ≡ cond (b && p (f c)) 1 0 + count_by (λ c. t c && p (f c)) cs
    one true = omega arith
    one false = omega arith

corners_decided : TellsApart Corner same_corner
corners_decided = record { reflexive = same_corner_self; exact = same_corner_exact }

-- the test of a corner
end_tells : (x v : ℕ) → is_end x v ≡ true → (x ≤ v) × (v ≤ x + 1)
end_tells x v t = (let f = and_true (leb x v) _ t in (leb-true x v f.0, leb-true v (x + 1) f.1))

end_told : (x v : ℕ) → x ≤ v → v ≤ x + 1 → is_end x v ≡ true
end_told x v l m = and_both (leb x v) (leb v (x + 1)) (le-leb x v l) (le-leb v (x + 1) m)

corner_tells : (v b : Box) → is_corner_of v b ≡ true → Touches v b
corner_tells v b t first = end_tells b.x0 v.x0 (and_true (is_end b.x0 v.x0) _ t).0
corner_tells v b t second = end_tells b.x1 v.x1 (and_true (is_end b.x1 v.x1) _ (and_true (is_end b.x0 v.x0) _ t).1).0
corner_tells v b t third = end_tells b.x2 v.x2 (and_true (is_end b.x1 v.x1) _ (and_true (is_end b.x0 v.x0) _ t).1).1

corner_told : (v b : Box) → Touches v b → is_corner_of v b ≡ true
corner_told v b t = and_both (is_end b.x0 v.x0) (is_end b.x1 v.x1 && is_end b.x2 v.x2) (end_told b.x0 v.x0 (t first).0 (t first).1) (and_both (is_end b.x1 v.x1) (is_end b.x2 v.x2) (end_told b.x1 v.x1 (t second).0 (t second).1) (end_told b.x2 v.x2 (t third).0 (t third).1))

module _ (dir : Direction) (axis : ℕ → Axis) (is_cell : ℕ → Bool) (splits : ℕ) (visited kept : ℕ → Box → Bool) (m : ℕ) (v : Box) (keeps : kept m v ≡ true) where
  abbrev is_it : Kept → Bool
  is_it k = (k.splits == m) && same_box k.vertex v

  abbrev in_run : Box → List Box
  in_run b = if visited m b && is_corner_of v b then b ∷ [] else []

  -- a cell of the level has the vertex at one corner or at none
  abbrev has_it : Box → Corner → Bool
  has_it b c = has_kept_corner dir axis splits visited kept m b c && is_it (kept_vertex m (vertex b c))

  corner_count : (b : Box) → count_by (has_it b) all_corners ≡ length (in_run b)
  corner_count b = by_test (visited m b && is_corner_of v b) refl
    where
      it_is : (c : Corner) → has_it b c ≡ true → (visited m b ≡ true) × (vertex b c ≡ v)
      it_is c t =
          let f = and_true (has_kept_corner dir axis splits visited kept m b c) _ t in
          let g = and_true (visited m b) _ f.0 in
          let h = and_true (m == m) _ f.1 in
          (g.0, same_box_exact (vertex b c) v h.1)

      by_test : (t : Bool) → (visited m b && is_corner_of v b) ≡ t → count_by (has_it b) all_corners ≡ length (if t then b ∷ [] else [])
      by_test true e =
          let f = and_true (visited m b) _ e in
          let q = corner_at v b (corner_tells v b f.1) in
          count_one Corner same_corner corners_decided (has_it b) q.0 all_corners corners_distinct (is_a_corner q.0) (and_both (visited m b && kept m (vertex b q.0)) ((m == m) && same_box (vertex b q.0) v) (and_both (visited m b) (kept m (vertex b q.0)) f.0 (subst (λ w. kept m w ≡ true) (sym q.1) keeps)) (and_both (m == m) (same_box (vertex b q.0) v) (eq-eqb m m refl) (subst (λ w. same_box w v ≡ true) (sym q.1) (same_box_self v))))
          (λ d t. vertex_same b d q.0 ((it_is d t).1 ∙ sym q.1))
      by_test false e = count_none Corner same_corner corners_decided (has_it b) all_corners (λ c h t. (let f = it_is c t in let g = and_both (visited m b) (is_corner_of v b) f.0 (corner_told v b (subst (λ w. Touches w b) f.1 (touches_vertex b c))) in cc))

  -- at another level it has it at none
  other_level : (n : ℕ) (b : Box) (cs : List Corner) → (n == m) ≡ false → count_by is_it (flat_map (λ c. if has_kept_corner dir axis splits visited kept n b c then kept_vertex n (vertex b c) ∷ [] else []) cs) ≡ 0
  other_level n b cs e = count_flat is_it (has_kept_corner dir axis splits visited kept n b) (λ c. kept_vertex n (vertex b c)) cs ∙ count_none Corner same_corner corners_decided (λ c. has_kept_corner dir axis splits visited kept n b c && is_it (kept_vertex n (vertex b c))) cs (λ c h t. (let f = and_true (has_kept_corner dir axis splits visited kept n b c) _ t in let g = and_true (n == m) _ f.1 in let k = g.0 in cc))

  visit_count : (w : Visit) → count_by is_it (kept_corners dir axis splits visited kept w) ≡ length (flat_map in_run (left_at m w))
  visit_count (enter n b io) = refl
  visit_count (leave n b io) = by_level (n == m) refl
    where
      by_level : (t : Bool) → (n == m) ≡ t → count_by is_it (kept_corners dir axis splits visited kept (leave n b io)) ≡ length (flat_map in_run (if t then b ∷ [] else []))
      by_level true e = (let q = eqb-true n m e in rw q (count_flat is_it (has_kept_corner dir axis splits visited kept m b) (λ c. kept_vertex m (vertex b c)) all_corners ∙ corner_count b ∙ ap length (sym (append-nil (in_run b)))))
      by_level false e = other_level n b all_corners e

  pub run_count : (vs : List Visit) → count_by is_it (flat_map (kept_corners dir axis splits visited kept) vs) ≡ length (flat_map in_run (flat_map (left_at m) vs))
  run_count [] = refl
  run_count (w ∷ vs) = count-append is_it (kept_corners dir axis splits visited kept w) (flat_map (kept_corners dir axis splits visited kept) vs) ∙ rw (visit_count w, run_count vs, flat_map-append, length-append) refl

-- where the cells of a run stand
inside_walk : (dir : Direction) (axis : ℕ → Axis) (is_cell : ℕ → Bool) (splits m : ℕ) (b : Box) (vs : List Visit) → AllByRecursion (IsRightVisit dir axis is_cell splits) vs → IsIn b (flat_map (left_at m) vs) → IsInDomain (extent axis (splits - m) m) b
inside_walk dir axis is_cell splits m b [] r h = absurd h
inside_walk dir axis is_cell splits m b (enter n c io ∷ vs) r h = inside_walk dir axis is_cell splits m b vs r.1 h
inside_walk dir axis is_cell splits m b (leave n c io ∷ vs) r h =
    ⊎_elim (λ g. here (n == m) refl g) (inside_walk dir axis is_cell splits m b vs r.1) (in_either b (left_at m (leave n c io)) (flat_map (left_at m) vs) h)
  where
    here : (t : Bool) → (n == m) ≡ t → IsIn b (if t then c ∷ [] else []) → IsInDomain (extent axis (splits - m) m) b
    here true e (inl f) = (let q = eqb-true n m e in let s = r.0.inside in subst (λ w. IsInDomain (extent axis (splits - m) m) w) (sym f) (subst (λ j. IsInDomain (extent axis (splits - j) j) c) q s))
    here true e (inr g) = absurd g
    here false e g = absurd g

empty_or_not : {V : Type 0} (xs : List V) → (length xs ≡ 0) ⊎ ((x : V) × IsIn x xs)
empty_or_not [] = inl refl
empty_or_not (x ∷ xs) = inr (x, inl refl)

module _ (dir : Direction) (axis : ℕ → Axis) (is_cell : ℕ → Bool) (splits : ℕ) (visited kept : ℕ → Box → Bool) (unbroken : KeptUnbroken dir axis splits visited kept is_cell) (m : ℕ) (v : Box) (cell : is_cell m ≡ true) (level : m ≤ splits) (keeps : kept m v ≡ true) where
  abbrev walked : List Visit
  walked = visits dir axis is_cell splits root walls

  abbrev it : Kept → Bool
  it k = (k.splits == m) && same_box k.vertex v

  in_one : (t : Bool) (b d : Box) → IsIn b (if t then d ∷ [] else []) → t ≡ true
  in_one true b d h = refl
  in_one false b d h = absurd h

  -- a run that is not empty ends once
  ends : (b : Box) → IsIn b (run_of dir axis is_cell splits visited m v) → count_by it (flat_map (given_out Kept kept_vertex dir axis splits visited kept) walked) ≡ 1
  ends b h =
      let f = in_some (λ d. if visited m d && is_corner_of v d then d ∷ [] else []) b (flat_map (left_at m) walked) h in
      let d = f.0 in
      let g = and_true (visited m d) _ (in_one (visited m d && is_corner_of v d) b d f.2) in
      let inside = inside_walk dir axis is_cell splits m d walked (ways_follow_the_order dir axis is_cell splits) f.1 in
      let q = corner_at v d (corner_tells v d g.1) in
      let kept_there = and_both (visited m d) (kept m (vertex d q.0)) g.0 (subst (λ w. kept m w ≡ true) (sym q.1) keeps) in
      let there = ends_once dir axis is_cell splits visited kept unbroken m d q.0 cell level inside kept_there in
      count_one Kept same_kept kept_decided it (kept_vertex m v) (flat_map (given_out Kept kept_vertex dir axis splits visited kept) walked)
      (outputs_distinct dir axis is_cell splits visited kept unbroken)
      (subst (λ w. IsIn (kept_vertex m w) (flat_map (given_out Kept kept_vertex dir axis splits visited kept) walked)) q.1 there)
      (and_both (m == m) (same_box v v) (eq-eqb m m refl) (same_box_self v))
      (λ k t. same_one k t)
    where
      same_one : (k : Kept) → it k ≡ true → k ≡ kept_vertex m v
      same_one k t =
          let f = and_true (k.splits == m) _ t in
          let s = eqb-true k.splits m f.0 in
          let w = same_box_exact k.vertex v f.1 in
          λ i. record { splits = s i; vertex = w i }

pub given_once_less_than_the_run : GivenOnceLessThanTheRun
given_once_less_than_the_run dir axis is_cell splits visited kept unbroken m v cell level keeps =
    let balance = each_kept_corner_is_given (λ n w. (n == m) && same_box w v) dir axis is_cell splits visited kept unbroken in
    let run_length = run_count dir axis is_cell splits visited kept m v keeps (visits dir axis is_cell splits root walls) in
    ⊎_elim
    (λ none. omega arith)
    (λ some. (let once = ends dir axis is_cell splits visited kept unbroken m v cell level keeps some.0 some.1 in omega arith))
    (empty_or_not (run_of dir axis is_cell splits visited m v))
