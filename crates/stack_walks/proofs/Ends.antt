-- Each kept vertex ends once.
use Rattle.std.proofs.Common.{◌≡◌, ℕ, zero, suc, ◌+◌, ◌-◌, ◌^◌, ◌==◌, ◌≤◌, Bool, true, false, if◌then◌else◌, List, [], ◌∷◌, flat_map, refl, sym, ap, ◌∙◌, subst, arith, ⊎_elim, inl, inr, eq-eqb, eqb-true}
use Rattle.stack_law.specs.Boxes.{Axis, Side, Box, Direction, first, second, third, low, high, size, beyond}
use Rattle.stack_law.specs.Domain.{root}
use Rattle.stack_law.specs.Visits.{Faces, Visit, enter, leave, visits, walls}
use Rattle.stack_law.specs.Order.{rank, extent, IsInDomain}
use Rattle.stack_law.specs.Around.{Touches, IsUnbroken, IsLastVisited}
use Rattle.stack_law.specs.Stack.{AreDistinct}
use Rattle.stack_law.specs.Once.{IsIn, left_at}
use Rattle.stack_walks.specs.Corners.{Corner, corner, all_corners, vertex}
use Rattle.stack_law.specs.Moments.{TellsApart}
use Rattle.stack_walks.specs.Handing.{has_kept_corner, ends_at, leads_nowhere, KeptUnbroken}
use Rattle.stack_walks.specs.Streams.{given_out}
use Rattle.stack_walks.specs.Counts.{Kept, kept_vertex, same_kept, EachVertexEndsOnce}
use Rattle.stack_law.proofs.Apart.{ranks_tell_cells_apart}
use Rattle.stack_law.proofs.Digits.{backward_is_reversed}
use Rattle.stack_law.proofs.Chains.{in_left, in_right}
use Rattle.stack_law.proofs.Visited.{visited_runs_go_across_faces, touches_beyond}
use Rattle.stack_law.proofs.Once.{each_cell_once}
use Rattle.stack_law.proofs.Distinct.{in_either}
use Rattle.stack_law.proofs.Leaves.{left_with, TellsCell, leaves_distinct}
use Rattle.stack_walks.proofs.Streams.{flat_same}
use Rattle.stack_walks.proofs.GivenCorners.{and_true, same_box_self, same_box_exact, in_some, distinct_at, corners_distinct, vertex_same}
use Rattle.stack_walks.proofs.Handing.{and_both, touches_vertex}
use Rattle.stack_walks.proofs.OneWay.{last_told, nowhere_when_last}

pub kept_decided : TellsApart Kept same_kept
kept_decided = record { reflexive = itself; exact = alike }
  where
    itself : (k : Kept) → same_kept k k ≡ true
    itself k = rw (eq-eqb k.splits k.splits refl, same_box_self k.vertex) refl

    alike : (k l : Kept) → same_kept k l ≡ true → k ≡ l
    alike k l h =
        let f = and_true (k.splits == l.splits) _ h in
        let s = eqb-true k.splits l.splits f.0 in
        let v = same_box_exact k.vertex l.vertex f.1 in
        λ i. record { splits = s i; vertex = v i }

-- the corner of a cell at a vertex
side_at : (x v : ℕ) → x ≤ v → v ≤ x + 1 → (s : Side) × (x + size s ≡ v)
side_at x v l m = by_test (x == v) refl
  where
    by_test : (t : Bool) → (x == v) ≡ t → (s : Side) × (x + size s ≡ v)
    by_test true e = (low, (let q = eqb-true x v e in omega arith))
    by_test false e = (high, (let q : x ≡ v → ⊥ = λ f. (let g = eq-eqb x v f in cc) in omega arith))

pub corner_at : (v b : Box) → Touches v b → (c : Corner) × (vertex b c ≡ v)
corner_at v b t =
    let p = side_at b.x0 v.x0 (t first).0 (t first).1 in
    let q = side_at b.x1 v.x1 (t second).0 (t second).1 in
    let r = side_at b.x2 v.x2 (t third).0 (t third).1 in
    let e = p.1 in
    let f = q.1 in
    let g = r.1 in
    (corner p.0 q.0 r.0, λ i. record { x0 = e i; x1 = f i; x2 = g i })

pub is_a_corner : (c : Corner) → IsIn c all_corners
is_a_corner c = at_sides c.s0 c.s1 c.s2
  where
    at_sides : (s t u : Side) → IsIn (corner s t u) all_corners
    at_sides low low low = inl refl
    at_sides high low low = inr (inl refl)
    at_sides low high low = inr (inr (inl refl))
    at_sides high high low = inr (inr (inr (inl refl)))
    at_sides low low high = inr (inr (inr (inr (inl refl))))
    at_sides high low high = inr (inr (inr (inr (inr (inl refl)))))
    at_sides low high high = inr (inr (inr (inr (inr (inr (inl refl))))))
    at_sides high high high = inr (inr (inr (inr (inr (inr (inr (inl refl)))))))

pub in_flat : {V W : Type 0} (f : V → List W) (x : W) (v : V) (vs : List V) → IsIn v vs → IsIn x (f v) → IsIn x (flat_map f vs)
in_flat f x v [] h k = absurd h
in_flat {V} {W} f x v (u ∷ vs) (inl e) k = in_left (λ z. 0) x (f u) (flat_map f vs) (subst (λ w. IsIn x (f w)) e k)
in_flat f x v (u ∷ vs) (inr h) k = in_right (λ z. 0) x (f u) (flat_map f vs) (in_flat f x v vs h k)

-- a cell that is left has a visit
record LeftAs (m : ℕ) (b : Box) (vs : List Visit) : Type 0 where
  pub io : Faces
  pub is_in : IsIn (leave m b io) vs

left_as : (m : ℕ) (b : Box) (vs : List Visit) → IsIn b (flat_map (left_at m) vs) → LeftAs m b vs
left_as m b [] h = absurd h
left_as m b (enter n c io ∷ vs) h = (let f = left_as m b vs h in record { io = f.io; is_in = inr f.is_in })
left_as m b (leave n c io ∷ vs) h =
    ⊎_elim
    (λ g. here (n == m) refl g)
    (λ g. (let f = left_as m b vs g in record { io = f.io; is_in = inr f.is_in }))
    (in_either b (left_at m (leave n c io)) (flat_map (left_at m) vs) h)
  where
    here : (t : Bool) → (n == m) ≡ t → IsIn b (if t then c ∷ [] else []) → LeftAs m b (leave n c io ∷ vs)
    here true e (inl f) = record { io = io; is_in = inl (let q = eqb-true n m e in (let r : leave m b io ≡ leave n c io = cc in r)) }
    here true e (inr g) = absurd g
    here false e g = absurd g

module _ (dir : Direction) (axis : ℕ → Axis) (n m : ℕ) (visited : Box → Bool) (v : Box) (unbroken : IsUnbroken (rank dir axis n m) (extent axis n m) visited v) where
  record Last : Type 0 where
    pub cell : Box
    pub inside : IsInDomain (extent axis n m) cell
    pub touching : Touches v cell
    pub there : visited cell ≡ true
    pub is_last : IsLastVisited (rank dir axis n m) (extent axis n m) visited v cell

  -- from cell to cell the run comes to its last
  last_from : (fuel : ℕ) (b : Box) → IsInDomain (extent axis n m) b → Touches v b → visited b ≡ true → 3 ^ n ≤ rank dir axis n m b + fuel → Last
  last_from zero b inside touching here l = (let e = backward_is_reversed dir axis n m b in absurd (omega arith))
  last_from (suc fuel) b inside touching here l =
      ⊎_elim
      (λ last. record { cell = b; inside = inside; touching = touching; there = here; is_last = last })
      (λ f. (let k = f.next.later in last_from fuel (beyond f.axis f.side b) f.inside (touches_beyond v b f.axis f.side f.plane touching) f.next.to (omega arith)))
      (visited_runs_go_across_faces dir axis n m visited v b unbroken inside touching here)

module _ (dir : Direction) (axis : ℕ → Axis) (is_cell : ℕ → Bool) (splits : ℕ) (visited kept : ℕ → Box → Bool) (unbroken : KeptUnbroken dir axis splits visited kept is_cell) where
  abbrev out : Visit → List Kept
  out = given_out Kept kept_vertex dir axis splits visited kept

  abbrev pub gift : ℕ → Box → Faces → List Kept
  gift m b io = flat_map (λ c. if ends_at dir axis splits visited kept m b c then kept_vertex m (vertex b c) ∷ [] else []) all_corners

  -- what is in a gift
  pub record Ended (x : Kept) (m : ℕ) (b : Box) : Type 0 where
    pub at_corner : Corner
    pub is : x ≡ kept_vertex m (vertex b at_corner)
    pub ends : ends_at dir axis splits visited kept m b at_corner ≡ true

  one_ended : (x : Kept) (m : ℕ) (b : Box) (c : Corner) (t : Bool) → ends_at dir axis splits visited kept m b c ≡ t → IsIn x (if t then kept_vertex m (vertex b c) ∷ [] else []) → Ended x m b
  one_ended x m b c true e (inl f) = record { at_corner = c; is = f; ends = e }
  one_ended x m b c true e (inr g) = absurd g
  one_ended x m b c false e g = absurd g

  pub ended : (x : Kept) (m : ℕ) (b : Box) (io : Faces) → IsIn x (gift m b io) → Ended x m b
  ended x m b io h = (let f = in_some (λ c. if ends_at dir axis splits visited kept m b c then kept_vertex m (vertex b c) ∷ [] else []) x all_corners h in one_ended x m b f.0 (ends_at dir axis splits visited kept m b f.0) refl f.2)

  one_cell : (m : ℕ) (b c : Box) (p q : Corner) → is_cell m ≡ true → m ≤ splits → IsInDomain (extent axis (splits - m) m) b → IsInDomain (extent axis (splits - m) m) c → vertex b p ≡ vertex c q → ends_at dir axis splits visited kept m b p ≡ true → ends_at dir axis splits visited kept m c q ≡ true → b ≡ c
  one_cell m b c p q cell level inside_b inside_c e g h =
      let n = splits - m in
      let f = and_true (has_kept_corner dir axis splits visited kept m b p) _ g in
      let k = and_true (has_kept_corner dir axis splits visited kept m c q) _ h in
      let f' = and_true (visited m b) _ f.0 in
      let k' = and_true (visited m c) _ k.0 in
      let last_b = last_told dir axis n m (visited m) b p inside_b f'.0 (unbroken m (vertex b p) cell level f'.1) f.1 in
      let last_c = last_told dir axis n m (visited m) c q inside_c k'.0 (unbroken m (vertex c q) cell level k'.1) k.1 in
      let up = last_b c inside_c (subst (λ v. Touches v c) (sym e) (touches_vertex c q)) k'.0 in
      let down = last_c b inside_b (subst (λ v. Touches v b) e (touches_vertex b p)) f'.0 in
      ranks_tell_cells_apart dir axis n m b c inside_b inside_c (omega arith)

  tells : TellsCell Kept dir axis is_cell splits gift
  tells x m b io n c jo r s h g =
      let f = ended x m b io h in
      let k = ended x n c jo g in
      let at_level : m ≡ n = sym (ap (λ (y : Kept). y.splits) f.is) ∙ ap (λ (y : Kept). y.splits) k.is in
      let at_vertex : vertex b f.at_corner ≡ vertex c k.at_corner = sym (ap (λ (y : Kept). y.vertex) f.is) ∙ ap (λ (y : Kept). y.vertex) k.is in
      (at_level, one_cell m b c f.at_corner k.at_corner r.cell r.level r.inside (subst (λ j. IsInDomain (extent axis (splits - j) j) c) (sym at_level) s.inside) at_vertex f.ends (subst (λ j. ends_at dir axis splits visited kept j c k.at_corner ≡ true) (sym at_level) k.ends))

  kept_same : (m : ℕ) (b : Box) (c d : Corner) → kept_vertex m (vertex b c) ≡ kept_vertex m (vertex b d) → c ≡ d
  kept_same m b c d e = vertex_same b c d (ap (λ (y : Kept). y.vertex) e)

  pub outputs_distinct : AreDistinct same_kept (flat_map (given_out Kept kept_vertex dir axis splits visited kept) (visits dir axis is_cell splits root walls))
  outputs_distinct =
      rw (flat_same (given_out Kept kept_vertex dir axis splits visited kept) (left_with Kept dir axis is_cell splits gift) as_left (visits dir axis is_cell splits root walls))
      (leaves_distinct Kept dir axis is_cell splits gift tells same_kept kept_decided (λ m b io r. distinct_at Kept same_kept kept_decided.reflexive kept_decided.exact (λ c. ends_at dir axis splits visited kept m b c) (λ c. kept_vertex m (vertex b c)) (kept_same m b) all_corners corners_distinct))
    where
      as_left : (w : Visit) → given_out Kept kept_vertex dir axis splits visited kept w ≡ left_with Kept dir axis is_cell splits gift w
      as_left (enter m b io) = refl
      as_left (leave m b io) = refl

  pub ends_once : (m : ℕ) (b : Box) (c : Corner) → is_cell m ≡ true → m ≤ splits → IsInDomain (extent axis (splits - m) m) b → has_kept_corner dir axis splits visited kept m b c ≡ true → IsIn (kept_vertex m (vertex b c)) (flat_map (given_out Kept kept_vertex dir axis splits visited kept) (visits dir axis is_cell splits root walls))
  ends_once m b c cell level inside k =
      let n = splits - m in
      let v = vertex b c in
      let f = and_true (visited m b) _ k in
      let last = last_from dir axis n m (visited m) v (unbroken m v cell level f.1) (3 ^ n) b inside (touches_vertex b c) f.0 (omega arith) in
      let d = last.cell in
      let q = corner_at v d last.touching in
      let kept_there = subst (λ w. kept m w ≡ true) (sym q.1) f.1 in
      let nowhere = nowhere_when_last dir axis n m (visited m) d q.0 last.inside last.there (unbroken m (vertex d q.0) cell level kept_there) (subst (λ w. IsLastVisited (rank dir axis n m) (extent axis n m) (visited m) w d) (sym q.1) last.is_last) in
      let ends = and_both (has_kept_corner dir axis splits visited kept m d q.0) (leads_nowhere (rank dir axis n m) (extent axis n m) (visited m) d q.0) (and_both (visited m d) (kept m (vertex d q.0)) last.there kept_there) nowhere in
      let visit = left_as m d (visits dir axis is_cell splits root walls) ((each_cell_once dir axis is_cell splits m cell level).3 d last.inside) in
      in_flat (given_out Kept kept_vertex dir axis splits visited kept) (kept_vertex m v) (leave m d visit.io) (visits dir axis is_cell splits root walls) visit.is_in
      (in_flat (λ p. if ends_at dir axis splits visited kept m d p then kept_vertex m (vertex d p) ∷ [] else []) (kept_vertex m v) q.0 all_corners (is_a_corner q.0) (rw ends (inl (ap (kept_vertex m) (sym q.1)))))

pub each_vertex_ends_once : EachVertexEndsOnce
each_vertex_ends_once dir axis is_cell splits visited kept unbroken = (outputs_distinct dir axis is_cell splits visited kept unbroken, ends_once dir axis is_cell splits visited kept unbroken)
