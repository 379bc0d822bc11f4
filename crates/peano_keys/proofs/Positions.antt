-- The cells at the adjacent positions of a vertex.
use Rattle.std.proofs.Common.{◌≡◌, ℕ, ◌+◌, ◌-◌, ◌^◌, ◌<◌, ◌≤◌, Bool, true, false, ◌&&◌, nat_le, if◌then◌else◌, List, [], ◌∷◌, length, slice_index, Option, Some, None, refl, sym, ap, ◌∙◌, subst, le-leb, leb-true, arith}
use Rattle.std.specs.Prelude.{IfSome}
use Rattle.peano_keys.specs.declared.cell.CellKey.{CellKey}
use Rattle.peano_keys.specs.declared.vertex.VertexKey.{VertexKey}
use Rattle.peano_keys.specs.declared.dim.Dim.{Dim}
use Rattle.peano_keys.specs.declared.dim.Dim.TheVariants.{Two, Three}
use Rattle.peano_keys.specs.Dim.{corners, third_extent, third_end}
use Rattle.peano_keys.specs.Cell.{IsCell, at, triple}
use Rattle.peano_keys.specs.Vertex.{IsVertex, Touches, plane, bit_of, number_of, corner_of, moved, third_moved, cell_at, adjacent_of, slot_from}
use Rattle.peano_keys.specs.Laws.{StandsInSlot, TouchesFromPosition}
use Rattle.peano_keys.proofs.Bits.{number_below, first_bit, second_bit, third_bit, slot_bit_first, slot_bit_second, slot_bit_third}

-- three coordinates are those that a list of three has
pub three : (xs : List ℕ) → length xs ≡ 3 → triple (slice_index xs 0) (slice_index xs 1) (slice_index xs 2) ≡ xs
three (a ∷ b ∷ c ∷ []) h = refl
three [] h = absurd (omega arith)
three (a ∷ []) h = absurd (omega arith)
three (a ∷ b ∷ []) h = absurd (omega arith)
three (a ∷ b ∷ c ∷ d ∷ xs) h = absurd (omega arith)

-- keys of one level and one place are one
pub same_cell : (q : CellKey) (l a b c : ℕ) → length q.x ≡ 3 → l ≡ q.level → a ≡ at q 0 → b ≡ at q 1 → c ≡ at q 2 → record { level = l; x = triple a b c } ≡ q
same_cell q l a b c shape hl ha hb hc = rw (hl, ha, hb, hc) (ap (λ (xs : List ℕ). record { level = q.level; x = xs }) (three q.x shape))

pub moved_to : (v s e x : ℕ) → v + s ≡ x + 1 → x < e → moved v s e ≡ Some x
moved_to v s e x h l = rw (le-leb 1 (v + s) (omega arith), le-leb (v + s) e (omega arith)) (ap Some (omega arith))

-- a coordinate on axis 2 moved to where a cell is
third_moved_to : (dim : Dim) (v s e x : ℕ) → v + s ≡ x + 1 → x < third_extent dim e → third_moved dim v s e ≡ Some x
third_moved_to Two v s e x h l = ap Some (omega arith)
third_moved_to Three v s e x h l = moved_to v s e x h l

-- a position from the three coordinates that stand there
position_gives : (dim : Dim) (v : VertexKey) (n : ℕ) (q : CellKey) → IsCell dim q → q.level ≡ v.level → plane v 0 + bit_of n 0 ≡ at q 0 + 1 → plane v 1 + bit_of n 1 ≡ at q 1 + 1 → third_moved dim (plane v 2) (bit_of n 2) (3 ^ v.level) ≡ Some (at q 2) → adjacent_of dim v n ≡ Some q
position_gives dim v n q cell level h0 h1 m2 =
    let m0 = moved_to (plane v 0) (bit_of n 0) (3 ^ v.level) (at q 0) h0 (subst (λ l. at q 0 < 3 ^ l) level cell.first) in
    let m1 = moved_to (plane v 1) (bit_of n 1) (3 ^ v.level) (at q 1) h1 (subst (λ l. at q 1 < 3 ^ l) level cell.second) in
    ap (λ (o : Option ℕ). cell_at v.level o (moved (plane v 1) (bit_of n 1) (3 ^ v.level)) (third_moved dim (plane v 2) (bit_of n 2) (3 ^ v.level))) m0
    ∙ ap (λ (o : Option ℕ). cell_at v.level (Some (at q 0)) o (third_moved dim (plane v 2) (bit_of n 2) (3 ^ v.level))) m1
    ∙ ap (λ (o : Option ℕ). cell_at v.level (Some (at q 0)) (Some (at q 1)) o) m2
    ∙ ap Some (same_cell q v.level (at q 0) (at q 1) (at q 2) cell.shape (sym level) refl refl refl)

pub cell_stands_in_slot : StandsInSlot
cell_stands_in_slot dim c n cell below =
    position_gives dim (corner_of c n) (slot_from dim n) c cell refl (omega (arith, slot_bit_first dim n below)) (omega (arith, slot_bit_second dim n below)) (third dim cell below)
  where
    third : (dim : Dim) → IsCell dim c → n < corners dim → third_moved dim (at c 2 + bit_of n 2) (bit_of (slot_from dim n) 2) (3 ^ c.level) ≡ Some (at c 2)
    third Two cell below = ap Some (omega (arith, cell.third))
    third Three cell below = moved_to (at c 2 + bit_of n 2) (bit_of (slot_from Three n) 2) (3 ^ c.level) (at c 2) (omega (arith, slot_bit_third n below)) cell.third

-- the bit by which a cell stands at a plane
abbrev pub bit_to : ℕ → ℕ → ℕ
bit_to v x = x + 1 - v

-- the position of a cell round a vertex
abbrev pub position : Dim → VertexKey → CellKey → ℕ
position dim v q = number_of dim (bit_to (plane v 0) (at q 0)) (bit_to (plane v 1) (at q 1)) (bit_to (plane v 2) (at q 2))

pub position_below : (dim : Dim) (v : VertexKey) (q : CellKey) → Touches q v → position dim v q < corners dim
position_below dim v q t = number_below dim _ _ _ (omega (arith, t.first_low)) (omega (arith, t.second_low)) (omega (arith, t.third_low))

pub at_position : (dim : Dim) (v : VertexKey) (q : CellKey) → IsCell dim q → Touches q v → adjacent_of dim v (position dim v q) ≡ Some q
at_position dim v q cell t =
    let a : ℕ = bit_to (plane v 0) (at q 0) in
    let b : ℕ = bit_to (plane v 1) (at q 1) in
    let c : ℕ = bit_to (plane v 2) (at q 2) in
    let ha : a ≤ 1 = omega (arith, t.first_low) in
    let hb : b ≤ 1 = omega (arith, t.second_low) in
    let hc : c ≤ 1 = omega (arith, t.third_low) in
    let e0 : bit_of (position dim v q) 0 ≡ a = first_bit dim a b c ha hb hc in
    let e1 : bit_of (position dim v q) 1 ≡ b = second_bit dim a b c ha hb hc in
    let e2 : bit_of (position dim v q) 2 ≡ third_end dim c = third_bit dim a b c ha hb hc in
    position_gives dim v (position dim v q) q cell t.level (omega (arith, e0, t.first_high)) (omega (arith, e1, t.second_high)) (third dim cell (bit_of (position dim v q) 2) e2)
  where
    third : (dim : Dim) → IsCell dim q → (s : ℕ) → s ≡ third_end dim (bit_to (plane v 2) (at q 2)) → third_moved dim (plane v 2) s (3 ^ v.level) ≡ Some (at q 2)
    third Two cell s e = ap Some (omega (arith, cell.third))
    third Three cell s e = moved_to (plane v 2) s (3 ^ v.level) (at q 2) (omega (arith, e, t.third_high, t.third_low)) (subst (λ l. at q 2 < 3 ^ l) t.level cell.third)

-- what a moved coordinate says
abbrev IsMoved : ℕ → ℕ → ℕ → Option ℕ → Type 0
IsMoved v s e None = Unit {0}
IsMoved v s e (Some x) = (v + s ≡ x + 1) × (x < e)

is_moved : (v s e : ℕ) → IsMoved v s e (moved v s e)
is_moved v s e = by_test (nat_le 1 (v + s)) (nat_le (v + s) e) refl refl
  where
    by_test : (a b : Bool) → nat_le 1 (v + s) ≡ a → nat_le (v + s) e ≡ b → IsMoved v s e (if a && b then Some (v + s - 1) else None)
    by_test true true ha hb = let l = leb-true 1 (v + s) ha in let m = leb-true (v + s) e hb in (omega arith, omega arith)
    by_test true false ha hb = tt
    by_test false b ha hb = tt

-- a place next to a plane, inside the domain
pub record Near (v e x : ℕ) : Type 0 where
  pub low : x ≤ v
  pub high : v ≤ x + 1
  pub inside : x < e

moved_near : (v n i e x : ℕ) → moved v (bit_of n i) e ≡ Some x → Near v e x
moved_near v n i e x h =
    let m : IsMoved v (bit_of n i) e (Some x) = subst (IsMoved v (bit_of n i) e) h (is_moved v (bit_of n i) e) in
    let b : bit_of n i ≤ 1 = omega arith in
    record { low = omega (arith, m.0); high = omega (arith, m.0); inside = m.1 }

third_near : (dim : Dim) (v n e x : ℕ) → v ≤ third_end dim e → third_moved dim v (bit_of n 2) e ≡ Some x → Near v (third_extent dim e) x
third_near Two v n e x vertex h = let z : 0 ≡ x = some_is h in record { low = omega arith; high = omega arith; inside = omega arith }
  where
    some_is : Some 0 ≡ Some x → 0 ≡ x
    some_is h = ap (λ (o : Option ℕ). elim o as (λ _. ℕ) [ Some y ↦ y | None ↦ 0 ]) h
third_near Three v n e x vertex h = moved_near v n 2 e x h

-- a cell by its three coordinates, where all are there
from_places : (P : CellKey → Type 0) (l : ℕ) (a b c : Option ℕ) → ((x y z : ℕ) → a ≡ Some x → b ≡ Some y → c ≡ Some z → P (record { level = l; x = triple x y z })) → IfSome (cell_at l a b c) P
from_places P l (Some x) (Some y) (Some z) f = f x y z refl refl refl
from_places P l None b c f = tt
from_places P l (Some x) None c f = tt
from_places P l (Some x) (Some y) None f = tt

-- what stands at a position is a cell that touches the vertex
pub adjacent_touches : (dim : Dim) (v : VertexKey) (n : ℕ) → IsVertex dim v → IfSome (adjacent_of dim v n) (λ q. IsCell dim q × Touches q v)
adjacent_touches dim v n vertex = from_places (λ q. IsCell dim q × Touches q v) v.level _ _ _ (λ x y z hx hy hz.
    let a = moved_near (plane v 0) n 0 (3 ^ v.level) x hx in
    let b = moved_near (plane v 1) n 1 (3 ^ v.level) y hy in
    let c = third_near dim (plane v 2) n (3 ^ v.level) z vertex.third hz in (
      record { shape = refl; level = vertex.level; first = a.inside; second = b.inside; third = c.inside },
      record { level = refl; first_low = a.low; first_high = a.high; second_low = b.low; second_high = b.high; third_low = c.low; third_high = c.high },
    ))

pub touching_cells : TouchesFromPosition
touching_cells dim v q vertex = (
  λ h. (position dim v q, position_below dim v q h.1, at_position dim v q h.0 h.1),
  λ h. subst (λ (o : Option CellKey). IfSome o (λ q. IsCell dim q × Touches q v)) h.2 (adjacent_touches dim v h.0 vertex),
)
