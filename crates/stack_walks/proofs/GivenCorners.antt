-- In a walk no corner is given twice on one lane.
use Rattle.std.proofs.Common.{◌≡◌, ℕ, ◌+◌, ◌==◌, Bool, true, false, ◌&&◌, if◌then◌else◌, List, [], ◌∷◌, ◌++◌, flat_map, refl, ap, arith, ⊎_elim, inl, inr, eq-eqb, eqb-true}
use Rattle.std.proofs.lemmas.Bool.{cases_lt}
use Rattle.stack_law.specs.Boxes.{same_side, Axis, Side, Box, low, high, size, beyond}
use Rattle.stack_law.specs.Visits.{visits, walls}
use Rattle.stack_law.specs.Stack.{Event, on_lane, pushed, AreDistinct}
use Rattle.stack_law.specs.Once.{IsIn}
use Rattle.stack_walks.specs.Corners.{same_corner, Corner, all_corners, vertex, by_corners}
use Rattle.stack_law.specs.Moments.{TellsApart, IsNamed, same_box}
use Rattle.stack_walks.specs.Passing.{BoxPassing, box_passing, same_box_passing}
use Rattle.stack_walks.specs.CornerLaws.{CornerLanesHoldTheRest}
use Rattle.stack_law.specs.Domain.{root}
use Rattle.stack_law.proofs.Ways.{ways_follow_the_order}
use Rattle.stack_walks.proofs.Corners.{items_of, visits_same, no_more_corners, corners_pass_along_lanes}
use Rattle.stack_law.proofs.Given.{given_once, at_each_moment}
use Rattle.stack_law.proofs.Distinct.{in_either, apart_from, not_in}

-- both parts of a test hold
pub and_true : (a b : Bool) → (a && b) ≡ true → (a ≡ true) × (b ≡ true)
and_true true b h = (refl, h)
and_true false b h = absurd (cc)

pub same_box_self : (b : Box) → same_box b b ≡ true
same_box_self b = rw (eq-eqb b.x0 b.x0 refl, eq-eqb b.x1 b.x1 refl, eq-eqb b.x2 b.x2 refl) refl

pub same_box_exact : (b c : Box) → same_box b c ≡ true → b ≡ c
same_box_exact b c h =
    let f = and_true (b.x0 == c.x0) _ h in
    let g = and_true (b.x1 == c.x1) _ f.1 in
    let p = eqb-true b.x0 c.x0 f.0 in
    let q = eqb-true b.x1 c.x1 g.0 in
    let r = eqb-true b.x2 c.x2 g.1 in
    λ i. record { x0 = p i; x1 = q i; x2 = r i }

pub passings_decided : TellsApart BoxPassing same_box_passing
passings_decided = record { reflexive = itself; exact = alike }
  where
    itself : (p : BoxPassing) → same_box_passing p p ≡ true
    itself p = rw (eq-eqb p.splits p.splits refl, same_box_self p.vertex, same_box_self p.cell) refl

    alike : (p q : BoxPassing) → same_box_passing p q ≡ true → p ≡ q
    alike p q h =
        let f = and_true (p.splits == q.splits) _ h in
        let g = and_true (same_box p.vertex q.vertex) _ f.1 in
        let s = eqb-true p.splits q.splits f.0 in
        let v = same_box_exact p.vertex q.vertex g.0 in
        let c = same_box_exact p.cell q.cell g.1 in
        λ i. record { splits = s i; vertex = v i; cell = c i }

-- where an item of joined lists comes from
pub in_some : {V W : Type 0} (f : V → List W) (x : W) (vs : List V) → IsIn x (flat_map f vs) → (v : V) × IsIn v vs × IsIn x (f v)
in_some f x [] h = absurd h
in_some f x (v ∷ vs) h = ⊎_elim (λ k. (v, inl refl, k)) (λ k. (let g = in_some f x vs k in (g.0, inr g.1, g.2))) (in_either x (f v) (flat_map f vs) h)

-- corners of one cell are different vertices
pub size_same : (x : ℕ) (s t : Side) → x + size s ≡ x + size t → s ≡ t
size_same x low low e = refl
size_same x low high e = absurd (omega arith)
size_same x high low e = absurd (omega arith)
size_same x high high e = refl

pub vertex_same : (b : Box) (c d : Corner) → vertex b c ≡ vertex b d → c ≡ d
vertex_same b c d e =
    let p = size_same b.x0 c.s0 d.s0 (ap (λ (v : Box). v.x0) e) in
    let q = size_same b.x1 c.s1 d.s1 (ap (λ (v : Box). v.x1) e) in
    let r = size_same b.x2 c.s2 d.s2 (ap (λ (v : Box). v.x2) e) in
    λ i. record { s0 = p i; s1 = q i; s2 = r i }

pub same_side_self : (s : Side) → same_side s s ≡ true
same_side_self low = refl
same_side_self high = refl

pub same_side_exact : (s t : Side) → same_side s t ≡ true → s ≡ t
same_side_exact low low e = refl
same_side_exact low high e = absurd (cc)
same_side_exact high low e = absurd (cc)
same_side_exact high high e = refl

pub same_corner_self : (c : Corner) → same_corner c c ≡ true
same_corner_self c = rw (same_side_self c.s0, same_side_self c.s1, same_side_self c.s2) refl

pub same_corner_exact : (c d : Corner) → same_corner c d ≡ true → c ≡ d
same_corner_exact c d h =
    let f = and_true (same_side c.s0 d.s0) _ h in
    let g = and_true (same_side c.s1 d.s1) _ f.1 in
    let p = same_side_exact c.s0 d.s0 f.0 in
    let q = same_side_exact c.s1 d.s1 g.0 in
    let r = same_side_exact c.s2 d.s2 g.1 in
    λ i. record { s0 = p i; s1 = q i; s2 = r i }

pub corners_distinct : AreDistinct same_corner all_corners
corners_distinct = (refl, (refl, (refl, (refl, (refl, (refl, (refl, (refl, tt))))))))

module _ (A : Type 0) (same : A → A → Bool) (same_self : (x : A) → same x x ≡ true) (exact : (x y : A) → same x y ≡ true → x ≡ y) (t : Corner → Bool) (f : Corner → A) (injective : (c d : Corner) → f c ≡ f d → c ≡ d) where
  pub one_at : (x : A) (d : Corner) (b : Bool) → IsIn x (if b then f d ∷ [] else []) → x ≡ f d
  one_at x d true (inl e) = e
  one_at x d true (inr h) = absurd h
  one_at x d false h = absurd h

  pub distinct_at : (cs : List Corner) → AreDistinct same_corner cs → AreDistinct same (flat_map (λ c. if t c then f c ∷ [] else []) cs)
  distinct_at [] d = tt
  distinct_at (c ∷ cs) d = first_one (t c) (distinct_at cs d.1) other
    where
      other : IsIn (f c) (flat_map (λ c. if t c then f c ∷ [] else []) cs) → ⊥
      other h =
          let g = in_some (λ c. if t c then f c ∷ [] else []) (f c) cs h in
          let e = injective c g.0 (one_at (f c) g.0 (t g.0) g.2) in
          not_in Corner same_corner same_corner_self same_corner_exact c cs d.0 (rw e g.1)

      first_one : (b : Bool) → AreDistinct same (flat_map (λ c. if t c then f c ∷ [] else []) cs) → (IsIn (f c) (flat_map (λ c. if t c then f c ∷ [] else []) cs) → ⊥) → AreDistinct same ((if b then f c ∷ [] else []) ++ flat_map (λ c. if t c then f c ∷ [] else []) cs)
      first_one true g h = (apart_from A same same_self exact (f c) _ h, g)
      first_one false g h = g

module _ (goes comes : ℕ → Box → Corner → Axis → Side → Bool) where
  abbrev handed : ℕ → Box → Axis → Side → List BoxPassing
  handed = items_of BoxPassing box_passing goes comes

  named : IsNamed BoxPassing same_box_passing (λ p. p.splits) (λ p. p.cell) handed
  named = record {
    level = λ m b i h x k. (let f = at_corner m b i h x k in ap (λ (p : BoxPassing). p.splits) f.1);
    receiver = λ m b i h x k. (let f = at_corner m b i h x k in ap (λ (p : BoxPassing). p.cell) f.1);
    distinct = λ m b i h. distinct_at BoxPassing same_box_passing passings_decided.reflexive passings_decided.exact (λ c. goes m b c i h) (λ c. box_passing m (vertex b c) (beyond i h b)) (λ c d e. vertex_same b c d (ap (λ (p : BoxPassing). p.vertex) e)) all_corners corners_distinct;
  }
    where
      at_corner : (m : ℕ) (b : Box) (i : Axis) (h : Side) (x : BoxPassing) → IsIn x (handed m b i h) → (c : Corner) × (x ≡ box_passing m (vertex b c) (beyond i h b))
      at_corner m b i h x k =
          let f = in_some (λ c. if goes m b c i h then box_passing m (vertex b c) (beyond i h b) ∷ [] else []) x all_corners k in
          (f.0, one_at BoxPassing same_box_passing passings_decided.reflexive passings_decided.exact (λ c. goes m b c i h) (λ c. box_passing m (vertex b c) (beyond i h b)) (λ c d e. vertex_same b c d (ap (λ (p : BoxPassing). p.vertex) e)) x f.0 (goes m b f.0 i h) f.2)

pub corner_lanes_hold_the_rest : CornerLanesHoldTheRest
corner_lanes_hold_the_rest dir axis is_cell splits goes comes pass done todo e =
    at_each_moment BoxPassing same_box_passing passings_decided whole done todo each
    (corners_pass_along_lanes BoxPassing same_box_passing passings_decided.reflexive dir axis is_cell splits box_passing goes comes pass) e
  where
    whole : List (Event BoxPassing)
    whole = flat_map (by_corners BoxPassing box_passing goes comes) (visits dir axis is_cell splits root walls)

    each : (k : ℕ) → AreDistinct same_box_passing (pushed (on_lane k (flat_map (by_corners BoxPassing box_passing goes comes) (visits dir axis is_cell splits root walls))))
    each k =
        ⊎_elim
        (λ below. rw (visits_same BoxPassing box_passing goes comes dir axis is_cell splits pass k below (visits dir axis is_cell splits root walls) (ways_follow_the_order dir axis is_cell splits)) (given_once BoxPassing same_box_passing passings_decided (λ p. p.splits) (λ p. p.cell) (handed goes comes) (named goes comes) dir axis is_cell splits k below))
        (λ above. rw (no_more_corners BoxPassing box_passing goes comes k above (visits dir axis is_cell splits root walls)) tt)
        (cases_lt k 6)
