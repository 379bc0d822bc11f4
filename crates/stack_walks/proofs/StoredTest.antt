-- The test of the grid cells round a vertex is exact.
use Rattle.std.proofs.Common.{◌≡◌, ℕ, ◌+◌, ◌-◌, ◌<◌, ◌≤◌, ltb, leb, Bool, true, ◌&&◌, List, [], ◌∷◌, refl, sym, ap, ◌∙◌, subst, arith, inl, inr}
use Rattle.std.proofs.lemmas.Bool.{ltb-true, lt-ltb, leb-true, le-leb}
use Rattle.stack_law.specs.Boxes.{Axis, Side, Box, first, second, third, low, high, size}
use Rattle.stack_law.specs.Order.{IsInDomain}
use Rattle.stack_law.specs.Around.{Touches}
use Rattle.stack_law.specs.Once.{IsIn}
use Rattle.stack_walks.specs.Corners.{Corner, all_corners, vertex}
use Rattle.stack_walks.specs.Grids.{IsStored, position, is_position, is_cell_at, all_of, is_stored}
use Rattle.stack_walks.specs.Instances.{StoredTestIsExact}
use Rattle.stack_walks.proofs.GivenCorners.{and_true}
use Rattle.stack_walks.proofs.Handing.{and_both, or_implies, implies_or}
use Rattle.stack_walks.proofs.Ends.{corner_at, is_a_corner}

all_at : {V : Type 0} (f : V → Bool) (x : V) (xs : List V) → all_of f xs ≡ true → IsIn x xs → f x ≡ true
all_at f x [] t h = absurd h
all_at f x (y ∷ ys) t (inl e) = subst (λ z. f z ≡ true) (sym e) (and_true (f y) _ t).0
all_at f x (y ∷ ys) t (inr h) = all_at f x ys (and_true (f y) _ t).1 h

at_all : {V : Type 0} (f : V → Bool) → ((x : V) → f x ≡ true) → (xs : List V) → all_of f xs ≡ true
at_all f t [] = refl
at_all f t (x ∷ xs) = and_both (f x) (all_of f xs) (t x) (at_all f t xs)

size_below : (s : Side) → size s ≤ 1
size_below low = omega arith
size_below high = omega arith

module _ (bound : Axis → ℕ) (cells : Box → Bool) where
  abbrev at_axes : Box → Corner → Bool
  at_axes v c = is_position bound v c first && (is_position bound v c second && is_position bound v c third)

  -- a cell at its corner's vertex is the vertex's position there
  back_again : (b : Box) (c : Corner) → position (vertex b c) c ≡ b
  back_again b c =
      let p : b.x0 + size c.s0 - size c.s0 ≡ b.x0 = omega arith in
      let q : b.x1 + size c.s1 - size c.s1 ≡ b.x1 = omega arith in
      let r : b.x2 + size c.s2 - size c.s2 ≡ b.x2 = omega arith in
      λ i. record { x0 = p i; x1 = q i; x2 = r i }

  is_there : (b : Box) (c : Corner) → IsInDomain bound b → at_axes (vertex b c) c ≡ true
  is_there b c f =
      let l = f first in
      let m = f second in
      let n = f third in
      and_both _ _ (on_axis b.x0 (bound first) c.s0 l) (and_both _ _ (on_axis b.x1 (bound second) c.s1 m) (on_axis b.x2 (bound third) c.s2 n))
    where
      on_axis : (x e : ℕ) (s : Side) → x < e → (leb (size s) (x + size s) && ltb (x + size s) (e + size s)) ≡ true
      on_axis x e s l = and_both (leb (size s) (x + size s)) (ltb (x + size s) (e + size s)) (le-leb (size s) (x + size s) (omega arith)) (lt-ltb (x + size s) (e + size s) (omega arith))

  test_tells : (v : Box) → is_stored bound cells v ≡ true → IsStored bound cells v
  test_tells v t b inside touching =
      let q = corner_at v b touching in
      let here = all_at (is_cell_at bound cells v) q.0 all_corners t (is_a_corner q.0) in
      let there = subst (λ w. at_axes w q.0 ≡ true) q.1 (is_there b q.0 inside) in
      subst (λ d. cells d ≡ true) (ap (λ w. position w q.0) (sym q.1) ∙ back_again b q.0) (or_implies (at_axes v q.0) (cells (position v q.0)) here there)

  -- a position inside the domain touches the vertex
  on_axis_tells : (x e : ℕ) (s : Side) → (leb (size s) x && ltb x (e + size s)) ≡ true → (x - size s < e) × (x - size s ≤ x) × (x ≤ x - size s + 1)
  on_axis_tells x e s t =
      let f = and_true (leb (size s) x) _ t in
      let l = leb-true (size s) x f.0 in
      let m = ltb-true x (e + size s) f.1 in
      let n = size_below s in
      (omega arith, omega arith, omega arith)

  test_told : (v : Box) → IsStored bound cells v → is_stored bound cells v ≡ true
  test_told v stored = at_all (is_cell_at bound cells v) (λ c. implies_or (at_axes v c) (cells (position v c)) (λ t. stored (position v c) (inside c t) (touching c t))) all_corners
    where
      facts0 : (c : Corner) → at_axes v c ≡ true → (v.x0 - size c.s0 < bound first) × (v.x0 - size c.s0 ≤ v.x0) × (v.x0 ≤ v.x0 - size c.s0 + 1)
      facts0 c t = on_axis_tells v.x0 (bound first) c.s0 (and_true (is_position bound v c first) _ t).0

      facts1 : (c : Corner) → at_axes v c ≡ true → (v.x1 - size c.s1 < bound second) × (v.x1 - size c.s1 ≤ v.x1) × (v.x1 ≤ v.x1 - size c.s1 + 1)
      facts1 c t = on_axis_tells v.x1 (bound second) c.s1 (and_true (is_position bound v c second) _ (and_true (is_position bound v c first) _ t).1).0

      facts2 : (c : Corner) → at_axes v c ≡ true → (v.x2 - size c.s2 < bound third) × (v.x2 - size c.s2 ≤ v.x2) × (v.x2 ≤ v.x2 - size c.s2 + 1)
      facts2 c t = on_axis_tells v.x2 (bound third) c.s2 (and_true (is_position bound v c second) _ (and_true (is_position bound v c first) _ t).1).1

      inside : (c : Corner) → at_axes v c ≡ true → IsInDomain bound (position v c)
      inside c t first = (facts0 c t).0
      inside c t second = (facts1 c t).0
      inside c t third = (facts2 c t).0

      touching : (c : Corner) → at_axes v c ≡ true → Touches v (position v c)
      touching c t first = ((facts0 c t).1, (facts0 c t).2)
      touching c t second = ((facts1 c t).1, (facts1 c t).2)
      touching c t third = ((facts2 c t).1, (facts2 c t).2)

pub stored_test_is_exact : StoredTestIsExact
stored_test_is_exact bound cells v = (test_tells bound cells v, test_told bound cells v)
