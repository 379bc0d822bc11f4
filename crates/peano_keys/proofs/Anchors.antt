-- Anchors and home corners: their planes, and the cells round them.
use Rattle.std.proofs.Common.{◌≡◌, ℕ, zero, suc, ◌+◌, ◌/◌, ◌^◌, ◌<◌, ◌≤◌, ◌==◌, ◌||◌, ◌⊎◌, inl, inr, not, Bool, true, false, Some, refl, sym, ap, ◌∙◌, subst, arith, ⊎_elim}
use Rattle.std.proofs.lemmas.Bool.Decides.{nat_tests}
use Rattle.peano_keys.specs.declared.cell.CellKey.{CellKey}
use Rattle.peano_keys.specs.declared.cell.Face.{Face}
use Rattle.peano_keys.specs.declared.vertex.VertexKey.{VertexKey}
use Rattle.peano_keys.specs.declared.dim.Dim.{Dim}
use Rattle.peano_keys.specs.declared.dim.Dim.TheVariants.{Two, Three}
use Rattle.peano_keys.specs.Dim.{axes, third_end}
use Rattle.peano_keys.specs.Cell.{IsCell, at, triple, parent_of, neighbour_of}
use Rattle.peano_keys.specs.Field.{face_on}
use Rattle.peano_keys.specs.Grid.{Spacetree, is_refined, has_cell}
use Rattle.peano_keys.specs.Laws.{SharesAnchor, HomeIsStored, AnchorIsStored, opposite}
use Rattle.peano_keys.specs.Vertex.{Touches, corner_of, number_of, inner_bit, home_of, anchor_bit, anchor_of}
use Rattle.peano_keys.proofs.Bits.{first_bit, second_bit, third_bit}
use Rattle.peano_keys.proofs.Faces.{Next, with_x, placed, neighbour_next}

pub bit_small : (own up : Bool) (x : ℕ) → anchor_bit own up x ≤ 1
bit_small true true x = omega arith
bit_small true false x = omega arith
bit_small false up x = grind (arith, nat_tests)

-- a vertex of a cell's level at three bits of it
abbrev pub vertex_by : Dim → CellKey → ℕ → ℕ → ℕ → VertexKey
vertex_by dim c a b d = record { level = c.level; v = triple (at c 0 + a) (at c 1 + b) (at c 2 + third_end dim d) }

-- a corner by the bits of its number
pub corner_by_bits : (dim : Dim) (c : CellKey) (a b d : ℕ) → a ≤ 1 → b ≤ 1 → d ≤ 1 → corner_of c (number_of dim a b d) ≡ vertex_by dim c a b d
corner_by_bits dim c a b d ha hb hd =
    let e0 = first_bit dim a b d ha hb hd in
    let e1 = second_bit dim a b d ha hb hd in
    let e2 = third_bit dim a b d ha hb hd in
    cc

module _ (dim : Dim) (c : CellKey) where
  pub anchor_planes : (f : Face) → corner_of c (anchor_of dim c f) ≡ vertex_by dim c (anchor_bit (f.axis == 0) f.high (at c 0)) (anchor_bit (f.axis == 1) f.high (at c 1)) (anchor_bit (f.axis == 2) f.high (at c 2))
  anchor_planes f = corner_by_bits dim c _ _ _ (bit_small (f.axis == 0) f.high (at c 0)) (bit_small (f.axis == 1) f.high (at c 1)) (bit_small (f.axis == 2) f.high (at c 2))

  pub home_planes : corner_of c (home_of dim c) ≡ vertex_by dim c (inner_bit (at c 0)) (inner_bit (at c 1)) (inner_bit (at c 2))
  home_planes = corner_by_bits dim c _ _ _ (bit_small false false (at c 0)) (bit_small false false (at c 1)) (bit_small false false (at c 2))

-- the plane between two neighbours is the high one of the lower cell and the low one of the higher
between : (up : Bool) (e x y : ℕ) → Next up e x y → x + anchor_bit true up x ≡ y + anchor_bit true (not up) y
between true e x y n = omega (arith, n.0)
between false e x y n = omega (arith, n)

module _ (c n : CellKey) (up : Bool) where
  abbrev Shares : Dim → ℕ → Type 0
  Shares dim i = corner_of c (anchor_of dim c (face_on i up)) ≡ corner_of n (anchor_of dim n (opposite (face_on i up)))

  -- where the planes of both anchors are one vertex
  by_planes : (dim : Dim) (i y : ℕ) → n ≡ with_x c (placed c i y) → (let m = with_x c (placed c i y) in vertex_by dim c (anchor_bit (i == 0) up (at c 0)) (anchor_bit (i == 1) up (at c 1)) (anchor_bit (i == 2) up (at c 2)) ≡ vertex_by dim m (anchor_bit (i == 0) (not up) (at m 0)) (anchor_bit (i == 1) (not up) (at m 1)) (anchor_bit (i == 2) (not up) (at m 2))) → Shares dim i
  by_planes dim i y is same =
      let m : CellKey = with_x c (placed c i y) in
      anchor_planes dim c (face_on i up) ∙ same ∙ sym (anchor_planes dim m (opposite (face_on i up))) ∙ sym (ap (λ (q : CellKey). corner_of q (anchor_of dim q (opposite (face_on i up)))) is)

  shares : (dim : Dim) (i : ℕ) → IsCell dim c → i < axes dim → neighbour_of c (face_on i up) ≡ Some n → Shares dim i
  shares dim zero cell axis found =
      let next = neighbour_next up 0 c n cell.shape found in
      by_planes dim 0 next.0 next.2 (ap (λ a. record { level = c.level; v = triple a (at c 1 + inner_bit (at c 1)) (at c 2 + third_end dim (inner_bit (at c 2))) }) (between up (3 ^ c.level) (at c 0) next.0 next.1))
  shares dim (suc zero) cell axis found =
      let next = neighbour_next up 1 c n cell.shape found in
      by_planes dim 1 next.0 next.2 (ap (λ a. record { level = c.level; v = triple (at c 0 + inner_bit (at c 0)) a (at c 2 + third_end dim (inner_bit (at c 2))) }) (between up (3 ^ c.level) (at c 1) next.0 next.1))
  shares Three (suc (suc zero)) cell axis found =
      let next = neighbour_next up 2 c n cell.shape found in
      by_planes Three 2 next.0 next.2 (ap (λ a. record { level = c.level; v = triple (at c 0 + inner_bit (at c 0)) (at c 1 + inner_bit (at c 1)) a }) (between up (3 ^ c.level) (at c 2) next.0 next.1))
  shares Two (suc (suc zero)) cell axis found = absurd (omega (arith, axis))
  shares Two (suc (suc (suc i))) cell axis found = absurd (omega (arith, axis))
  shares Three (suc (suc (suc i))) cell axis found = absurd (omega (arith, axis))

pub neighbours_share_anchor : SharesAnchor
neighbours_share_anchor dim c n f cell axis found = shares c n f.high dim f.axis cell axis found

-- a place next to the inner plane of x has the parent of x
inner_parent : (x r : ℕ) → r ≤ x + inner_bit x → x + inner_bit x ≤ r + 1 → r / 3 ≡ x / 3
inner_parent x r low high = grind (arith, nat_tests)

third_parent : (dim : Dim) (c r : CellKey) → IsCell dim c → IsCell dim r → at r 2 ≤ at c 2 + third_end dim (inner_bit (at c 2)) → at c 2 + third_end dim (inner_bit (at c 2)) ≤ at r 2 + 1 → at r 2 / 3 ≡ at c 2 / 3
third_parent Two c r cell there low high = omega (arith, cell.third, there.third)
third_parent Three c r cell there low high = inner_parent (at c 2) (at r 2) low high

same_parent : (r q : CellKey) → r.level ≡ q.level → at r 0 / 3 ≡ at q 0 / 3 → at r 1 / 3 ≡ at q 1 / 3 → at r 2 / 3 ≡ at q 2 / 3 → parent_of r ≡ parent_of q
same_parent r q l a b c = rw (l, a, b, c) refl

-- siblings are cells of a grid together
siblings : (t : Spacetree) (r q : CellKey) → r.level ≡ q.level → parent_of r ≡ parent_of q → has_cell t q ≡ true → has_cell t r ≡ true
siblings t r q level parents there = ap (λ l. (l == 0) || is_refined t (parent_of r)) level ∙ ap (λ p. (q.level == 0) || is_refined t p) parents ∙ there

pub home_is_stored : HomeIsStored
home_is_stored t c cell has = λ r there touches.
    let near : Touches r (vertex_by t.dim c (inner_bit (at c 0)) (inner_bit (at c 1)) (inner_bit (at c 2))) = subst (Touches r) (home_planes t.dim c) touches in
    siblings t r c near.level (same_parent r c near.level (inner_parent (at c 0) (at r 0) near.first_low near.first_high) (inner_parent (at c 1) (at r 1) near.second_low near.second_high) (third_parent t.dim c r cell there near.third_low near.third_high)) has

-- next to the plane between two neighbours stands one of them
one_of_both : (up : Bool) (e x y r : ℕ) → Next up e x y → r ≤ x + anchor_bit true up x → x + anchor_bit true up x ≤ r + 1 → (r ≡ x) ⊎ (r ≡ y)
one_of_both true e x y r n low high = let a = n.0 in grind arith
one_of_both false e x y r n low high = grind arith

module _ (c r : CellKey) (up : Bool) where
  -- a cell that touches the anchor is a sibling of one of the two
  beside : (dim : Dim) (i y : ℕ) → IsCell dim c → IsCell dim r → i < axes dim → Next up (3 ^ c.level) (at c i) y → Touches r (vertex_by dim c (anchor_bit (i == 0) up (at c 0)) (anchor_bit (i == 1) up (at c 1)) (anchor_bit (i == 2) up (at c 2))) → (parent_of r ≡ parent_of c) ⊎ (parent_of r ≡ parent_of (with_x c (placed c i y)))
  beside dim zero y cell there axis next near =
      let e1 = inner_parent (at c 1) (at r 1) near.second_low near.second_high in
      let e2 = third_parent dim c r cell there near.third_low near.third_high in
      ⊎_elim (λ e. inl (same_parent r c near.level (ap (λ x. x / 3) e) e1 e2)) (λ e. inr (same_parent r (with_x c (placed c 0 y)) near.level (ap (λ x. x / 3) e) e1 e2))
      (one_of_both up (3 ^ c.level) (at c 0) y (at r 0) next near.first_low near.first_high)
  beside dim (suc zero) y cell there axis next near =
      let e0 = inner_parent (at c 0) (at r 0) near.first_low near.first_high in
      let e2 = third_parent dim c r cell there near.third_low near.third_high in
      ⊎_elim (λ e. inl (same_parent r c near.level e0 (ap (λ x. x / 3) e) e2)) (λ e. inr (same_parent r (with_x c (placed c 1 y)) near.level e0 (ap (λ x. x / 3) e) e2))
      (one_of_both up (3 ^ c.level) (at c 1) y (at r 1) next near.second_low near.second_high)
  beside Three (suc (suc zero)) y cell there axis next near =
      let e0 = inner_parent (at c 0) (at r 0) near.first_low near.first_high in
      let e1 = inner_parent (at c 1) (at r 1) near.second_low near.second_high in
      ⊎_elim (λ e. inl (same_parent r c near.level e0 e1 (ap (λ x. x / 3) e))) (λ e. inr (same_parent r (with_x c (placed c 2 y)) near.level e0 e1 (ap (λ x. x / 3) e)))
      (one_of_both up (3 ^ c.level) (at c 2) y (at r 2) next near.third_low near.third_high)
  beside Two (suc (suc zero)) y cell there axis next near = absurd (omega (arith, axis))
  beside Two (suc (suc (suc i))) y cell there axis next near = absurd (omega (arith, axis))
  beside Three (suc (suc (suc i))) y cell there axis next near = absurd (omega (arith, axis))

pub anchor_is_stored : AnchorIsStored
anchor_is_stored t c n f cell axis found here across = λ r there touches.
    let next = neighbour_next f.high f.axis c n cell.shape found in
    let near = subst (Touches r) (anchor_planes t.dim c f) touches in
    ⊎_elim
    (λ e. siblings t r c near.level e here)
    (λ e. siblings t r n (near.level ∙ sym (ap (λ (q : CellKey). q.level) next.2)) (e ∙ sym (ap parent_of next.2)) across)
    (beside c r f.high t.dim f.axis next.0 cell there axis next.1 near)
