-- The neighbours of cells at a face come in the reverse order of the cells.
use Rattle.std.proofs.Common.{◌≡◌, ℕ, zero, suc, ◌+◌, ◌-◌, ◌*◌, ◌/◌, ◌^◌, ◌<◌, ◌≤◌, Bool, true, false, if◌then◌else◌, Option, Some, None, arith, refl, sym, ap, subst, ◌∙◌}
use Rattle.std.specs.Prelude.{IsSome}
use Rattle.std.proofs.Math.Nat.{mul-le-mul_right}
use Rattle.std.proofs.lemmas.Bool.{false≢true}
use Rattle.std.specs.Ordering.{nat_cmp, ordering_reverse}
use Rattle.peano_keys.specs.declared.cell.CellKey.{CellKey}
use Rattle.peano_keys.specs.declared.cell.Face.{Face}
use Rattle.peano_keys.specs.declared.dim.Dim.{Dim}
use Rattle.peano_keys.specs.declared.dim.Dim.TheVariants.{Two, Three}
use Rattle.peano_keys.specs.Dim.{axes, children}
use Rattle.peano_keys.specs.Cell.{IsCell, at, triple, neighbour_of}
use Rattle.peano_keys.specs.Field.{face_on}
use Rattle.peano_keys.proofs.Powers.{pow3_positive}
use Rattle.peano_keys.proofs.Faces.{Next, with_x, neighbour_next, next_neighbour}
use Rattle.peano_curve.specs.Order.{rank_from, rank_of, curve_cmp}
use Rattle.peano_curve.specs.Laws.{ancestor_of, IsIn, IsAtFace}
use Rattle.peano_curve.proofs.Ancestors.{rank_of_ancestor, pow3_parts}
use Rattle.peano_curve.proofs.Mirror.{plane_positive, mirror_0, mirror_1, mirror_2}
use Rattle.peano_curve.proofs.Compares.{level_cmp, cmp_mirrored}

-- the coordinates on the inner and on the outer side of a face of a cell at coordinate `x`, m levels below
abbrev pub inner_at : Bool → ℕ → ℕ → ℕ
inner_at up x m = if up then (x + 1) * 3 ^ m - 1 else x * 3 ^ m

abbrev pub outer_at : Bool → ℕ → ℕ → ℕ
outer_at up x m = if up then (x + 1) * 3 ^ m else x * 3 ^ m - 1

-- a face that has cells on both sides
abbrev pub IsInner : Bool → ℕ → Type 0
IsInner true x = Unit {0}
IsInner false x = 0 < x

outer_next : (up : Bool) (e x m a y : ℕ) → IsInner up x → a ≡ inner_at up x m → Next up e a y → y ≡ outer_at up x m
outer_next true e x m a y inner h next = let pos = plane_positive (x + 1) m (omega arith) in omega (arith, next.0)
outer_next false e x m a y inner h next = omega (arith, next)

sum_0 : (up : Bool) (dim : Dim) (x m x1 x2 : ℕ) → IsInner up x → rank_from dim m (inner_at up x m) x1 x2 + rank_from dim m (outer_at up x m) x1 x2 + 1 ≡ children dim ^ m
sum_0 true dim x m x1 x2 inner = mirror_0 dim m (x + 1) x1 x2 (omega arith)
sum_0 false dim x m x1 x2 inner = let h = mirror_0 dim m x x1 x2 inner in omega arith

sum_1 : (up : Bool) (dim : Dim) (x m x0 x2 : ℕ) → IsInner up x → rank_from dim m x0 (inner_at up x m) x2 + rank_from dim m x0 (outer_at up x m) x2 + 1 ≡ children dim ^ m
sum_1 true dim x m x0 x2 inner = mirror_1 dim m (x + 1) x0 x2 (omega arith)
sum_1 false dim x m x0 x2 inner = let h = mirror_1 dim m x x0 x2 inner in omega arith

sum_2 : (up : Bool) (x m x0 x1 : ℕ) → IsInner up x → rank_from Three m x0 x1 (inner_at up x m) + rank_from Three m x0 x1 (outer_at up x m) + 1 ≡ children Three ^ m
sum_2 true x m x0 x1 inner = mirror_2 m (x + 1) x0 x1 (omega arith)
sum_2 false x m x0 x1 inner = let h = mirror_2 m x x0 x1 inner in omega arith

-- the rank of the cell across the face at p's level, by axis
abbrev beyond : Dim → CellKey → Bool → ℕ → ℕ → ℕ
beyond dim p up m zero = rank_from dim p.level (outer_at up (at p 0) m / 3 ^ m) (at p 1) (at p 2)
beyond dim p up m (suc zero) = rank_from dim p.level (at p 0) (outer_at up (at p 1) m / 3 ^ m) (at p 2)
beyond dim p up m (suc (suc i)) = rank_from dim p.level (at p 0) (at p 1) (outer_at up (at p 2) m / 3 ^ m)

-- a cell at the face and its neighbour: their ranks below p and below the cell across sum to one less than the number there
record Image (dim : Dim) (p a n : CellKey) (m far : ℕ) : Type 0 where
  rank : ℕ
  whole : rank_of dim n ≡ children dim ^ m * far + rank
  sum : rank_from dim m (at a 0) (at a 1) (at a 2) + rank + 1 ≡ children dim ^ m

module _ (up : Bool) (p a n : CellKey) (shape : IsIn p a) where
  abbrev m : ℕ
  m = a.level - p.level

  own : (i : ℕ) → at (ancestor_of a p.level) i ≡ at p i
  own i = ap (λ (q : CellKey). at q i) shape.ancestor

  image : (dim : Dim) (i : ℕ) → IsCell dim a → i < axes dim → IsInner up (at p i) → at a i ≡ inner_at up (at p i) m → neighbour_of a (face_on i up) ≡ Some n → Image dim p a n m (beyond dim p up m i)
  image dim zero cell axis inner face found =
      let next = neighbour_next up 0 a n cell.shape found in
      let y : next.0 ≡ outer_at up (at p 0) m = outer_next up (3 ^ a.level) (at p 0) m (at a 0) next.0 inner face next.1 in
      let q : CellKey = with_x a (triple (outer_at up (at p 0) m) (at a 1) (at a 2)) in
      let is : n ≡ q = next.2 ∙ ap (λ z. with_x a (triple z (at a 1) (at a 2))) y in
      record {
        rank = rank_from dim m (outer_at up (at p 0) m) (at a 1) (at a 2);
        whole = ap (rank_of dim) is ∙ rank_of_ancestor dim q p.level shape.level ∙ ap (λ r. children dim ^ m * r + rank_from dim m (outer_at up (at p 0) m) (at a 1) (at a 2)) (ap (λ z. rank_from dim p.level (outer_at up (at p 0) m / 3 ^ m) z (at a 2 / 3 ^ m)) (own 1) ∙ ap (λ z. rank_from dim p.level (outer_at up (at p 0) m / 3 ^ m) (at p 1) z) (own 2));
        sum = ap (λ z. rank_from dim m z (at a 1) (at a 2) + rank_from dim m (outer_at up (at p 0) m) (at a 1) (at a 2) + 1) face ∙ sum_0 up dim (at p 0) m (at a 1) (at a 2) inner;
      }
  image dim (suc zero) cell axis inner face found =
      let next = neighbour_next up 1 a n cell.shape found in
      let y : next.0 ≡ outer_at up (at p 1) m = outer_next up (3 ^ a.level) (at p 1) m (at a 1) next.0 inner face next.1 in
      let q : CellKey = with_x a (triple (at a 0) (outer_at up (at p 1) m) (at a 2)) in
      let is : n ≡ q = next.2 ∙ ap (λ z. with_x a (triple (at a 0) z (at a 2))) y in
      record {
        rank = rank_from dim m (at a 0) (outer_at up (at p 1) m) (at a 2);
        whole = ap (rank_of dim) is ∙ rank_of_ancestor dim q p.level shape.level ∙ ap (λ r. children dim ^ m * r + rank_from dim m (at a 0) (outer_at up (at p 1) m) (at a 2)) (ap (λ z. rank_from dim p.level z (outer_at up (at p 1) m / 3 ^ m) (at a 2 / 3 ^ m)) (own 0) ∙ ap (λ z. rank_from dim p.level (at p 0) (outer_at up (at p 1) m / 3 ^ m) z) (own 2));
        sum = ap (λ z. rank_from dim m (at a 0) z (at a 2) + rank_from dim m (at a 0) (outer_at up (at p 1) m) (at a 2) + 1) face ∙ sum_1 up dim (at p 1) m (at a 0) (at a 2) inner;
      }
  image Three (suc (suc zero)) cell axis inner face found =
      let next = neighbour_next up 2 a n cell.shape found in
      let y : next.0 ≡ outer_at up (at p 2) m = outer_next up (3 ^ a.level) (at p 2) m (at a 2) next.0 inner face next.1 in
      let q : CellKey = with_x a (triple (at a 0) (at a 1) (outer_at up (at p 2) m)) in
      let is : n ≡ q = next.2 ∙ ap (λ z. with_x a (triple (at a 0) (at a 1) z)) y in
      record {
        rank = rank_from Three m (at a 0) (at a 1) (outer_at up (at p 2) m);
        whole = ap (rank_of Three) is ∙ rank_of_ancestor Three q p.level shape.level ∙ ap (λ r. children Three ^ m * r + rank_from Three m (at a 0) (at a 1) (outer_at up (at p 2) m)) (ap (λ z. rank_from Three p.level z (at a 1 / 3 ^ m) (outer_at up (at p 2) m / 3 ^ m)) (own 0) ∙ ap (λ z. rank_from Three p.level (at p 0) z (outer_at up (at p 2) m / 3 ^ m)) (own 1));
        sum = ap (λ z. rank_from Three m (at a 0) (at a 1) z + rank_from Three m (at a 0) (at a 1) (outer_at up (at p 2) m) + 1) face ∙ sum_2 up (at p 2) m (at a 0) (at a 1) inner;
      }
  image Two (suc (suc zero)) cell axis inner face found = absurd (omega (arith, axis))
  image Two (suc (suc (suc i))) cell axis inner face found = absurd (omega (arith, axis))
  image Three (suc (suc (suc i))) cell axis inner face found = absurd (omega (arith, axis))

in_parts : (dim : Dim) (p a : CellKey) (m : ℕ) → IsIn p a → a.level - p.level ≡ m → rank_of dim a ≡ children dim ^ m * rank_of dim p + rank_from dim m (at a 0) (at a 1) (at a 2)
in_parts dim p a m inside e =
    rank_of_ancestor dim a p.level inside.level
    ∙ ap (λ r. children dim ^ (a.level - p.level) * r + rank_from dim (a.level - p.level) (at a 0) (at a 1) (at a 2)) (ap (rank_of dim) inside.ancestor)
    ∙ ap (λ k. children dim ^ k * rank_of dim p + rank_from dim k (at a 0) (at a 1) (at a 2)) e

neighbour_level : (up : Bool) (i : ℕ) (a n : CellKey) (dim : Dim) → IsCell dim a → neighbour_of a (face_on i up) ≡ Some n → n.level ≡ a.level
neighbour_level up i a n dim cell found = let next = neighbour_next up i a n cell.shape found in ap (λ (q : CellKey). q.level) next.2

-- the face of a cell that has a neighbour there
inner_face : (up : Bool) (i : ℕ) (p : CellKey) (dim : Dim) → IsCell dim p → (o : Option CellKey) → neighbour_of p (face_on i up) ≡ o → IsSome o → IsInner up (at p i)
inner_face up i p dim cell None e h = absurd (false≢true h)
inner_face true i p dim cell (Some q) e h = tt
inner_face false i p dim cell (Some q) e h = let next = neighbour_next false i p q cell.shape e in omega (arith, next.1)

pub mirrored : (dim : Dim) (p a b n k : CellKey) (f : Face) → IsCell dim p → IsCell dim a → IsCell dim b → a.level ≡ b.level → f.axis < axes dim → IsSome (neighbour_of p f) → IsIn p a → IsIn p b → IsAtFace p f a → IsAtFace p f b → neighbour_of a f ≡ Some n → neighbour_of b f ≡ Some k → curve_cmp dim n k ≡ ordering_reverse (curve_cmp dim a b)
mirrored dim p a b n k f hp ha hb level axis there in_a in_b face_a face_b found_a found_b =
    let inner = inner_face f.high f.axis p dim hp (neighbour_of p f) refl there in
    let m : ℕ = a.level - p.level in
    let e : b.level - p.level ≡ m = ap (λ l. l - p.level) (sym level) in
    let one = image f.high p a n in_a dim f.axis ha axis inner face_a found_a in
    let two = subst (λ m. Image dim p b k m (beyond dim p f.high m f.axis)) e (image f.high p b k in_b dim f.axis hb axis inner face_b found_b) in
    let levels : n.level ≡ k.level = neighbour_level f.high f.axis a n dim ha found_a ∙ level ∙ sym (neighbour_level f.high f.axis b k dim hb found_b) in
    let wa = in_parts dim p a m in_a refl in
    let wb = in_parts dim p b m in_b e in
    level_cmp dim n k levels
    ∙ ap (λ r. nat_cmp r (rank_of dim k)) one.whole
    ∙ ap (λ r. nat_cmp (children dim ^ m * beyond dim p f.high m f.axis + one.rank) r) two.whole
    ∙ cmp_mirrored (children dim ^ m) (children dim ^ m * rank_of dim p) (children dim ^ m * beyond dim p f.high m f.axis) (rank_from dim m (at a 0) (at a 1) (at a 2)) (rank_from dim m (at b 0) (at b 1) (at b 2)) one.rank two.rank one.sum two.sum
    ∙ ap ordering_reverse (sym (level_cmp dim a b level ∙ ap (λ r. nat_cmp r (rank_of dim b)) wa ∙ ap (λ r. nat_cmp (children dim ^ m * rank_of dim p + rank_from dim m (at a 0) (at a 1) (at a 2)) r) wb))

-- a cell at such a face has a neighbour there too
inside_row : (v e w : ℕ) → 0 < w → v < e → v * w < e * w
inside_row v e w pos h = let row : suc v * w ≤ e * w = mul-le-mul_right w h in omega arith

outer_inside : (up : Bool) (i : ℕ) (p a : CellKey) (dim : Dim) → IsCell dim p → p.level ≤ a.level → (o : Option CellKey) → neighbour_of p (face_on i up) ≡ o → IsSome o → at a i ≡ inner_at up (at p i) (a.level - p.level) → Next up (3 ^ a.level) (at a i) (outer_at up (at p i) (a.level - p.level))
outer_inside up i p a dim cell level None e h face = absurd (false≢true h)
outer_inside true i p a dim cell level (Some q) e h face =
    let next = neighbour_next true i p q cell.shape e in
    let step = next.1 in
    let pos = plane_positive (at p i + 1) (a.level - p.level) (omega arith) in
    let row = inside_row (at p i + 1) (3 ^ p.level) (3 ^ (a.level - p.level)) (pow3_positive (a.level - p.level)) (omega (arith, step.0, step.1)) in
    let whole = pow3_parts p.level a.level level in
    (omega (arith, face), omega arith)
outer_inside false i p a dim cell level (Some q) e h face =
    let next = neighbour_next false i p q cell.shape e in
    let step = next.1 in
    let pos = plane_positive (at p i) (a.level - p.level) (omega (arith, step)) in
    omega (arith, face)

pub has_image : (dim : Dim) (p a : CellKey) (f : Face) → IsCell dim p → IsCell dim a → IsSome (neighbour_of p f) → IsIn p a → IsAtFace p f a → IsSome (neighbour_of a f)
has_image dim p a f hp ha there inside face =
    let next = next_neighbour f.high f.axis a (outer_at f.high (at p f.axis) (a.level - p.level)) ha.shape (outer_inside f.high f.axis p a dim hp inside.level (neighbour_of p f) refl there face) in
    subst IsSome (sym next) refl
