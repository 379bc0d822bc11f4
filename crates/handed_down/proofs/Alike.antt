-- Vertices between the same planes of a cell are stored alike: the cells round them have the same parents.
use Rattle.std.proofs.Common.{◌≡◌, ◌≢◌, ◌⊎◌, ◌↔◌, inl, inr, ℕ, suc, ◌+◌, ◌-◌, ◌*◌, ◌/◌, ◌%◌, ◌^◌, ◌==◌, ◌||◌, ◌<◌, ◌≤◌, Bool, true, false, arith, refl, sym, ap, subst, ◌∙◌, Option, Some, None}
use Rattle.std.proofs.Math.Nat.{pow-suc}
use Rattle.peano_keys.specs.declared.cell.CellKey.{CellKey}
use Rattle.peano_keys.specs.declared.vertex.VertexKey.{VertexKey}
use Rattle.peano_keys.specs.declared.dim.Dim.{Dim}
use Rattle.peano_keys.specs.declared.dim.Dim.TheVariants.{Two, Three}
use Rattle.peano_keys.specs.Dim.{corners, third_extent}
use Rattle.peano_keys.specs.Cell.{IsCell, at, triple, parent_of}
use Rattle.peano_keys.specs.Vertex.{Touches, plane, bit_of, corner_of}
use Rattle.peano_keys.specs.Grid.{Spacetree, is_refined, IsStored}
use Rattle.hanging_nodes.specs.Views.{AreGrids, IsStoredIn}
use Rattle.hanging_nodes.proofs.TwoGrids.{next_dim}
use Rattle.handed_down.specs.Stored.{count_below, vertex_below}

-- two planes are one, or lie between the same planes of the next coarser cells
abbrev pub Like : ℕ → ℕ → Type 0
Like v w = (v ≡ w) ⊎ ((v / 3 ≡ w / 3) × (v % 3 ≢ 0) × (w % 3 ≢ 0))

-- on axis 2 a plane of space alone has others
abbrev LikeThird : Dim → ℕ → ℕ → Type 0
LikeThird Two v w = v ≡ w
LikeThird Three v w = Like v w

-- a place next to w, moved to v
abbrev to : ℕ → ℕ → ℕ → ℕ
to v w q = q + v - w

to_low : (v w q : ℕ) → Like v w → q ≤ w → w ≤ q + 1 → to v w q ≤ v
to_low v w q (inl e) h k = omega arith
to_low v w q (inr e) h k = omega (arith, e.0, e.1, e.2)

to_high : (v w q : ℕ) → Like v w → q ≤ w → w ≤ q + 1 → v ≤ to v w q + 1
to_high v w q (inl e) h k = omega arith
to_high v w q (inr e) h k = omega (arith, e.0, e.1, e.2)

to_parent : (v w q : ℕ) → Like v w → q ≤ w → w ≤ q + 1 → to v w q / 3 ≡ q / 3
to_parent v w q (inl e) h k = ap (λ z. z / 3) (omega arith)
to_parent v w q (inr e) h k = omega (arith, e.0, e.1, e.2)

to_inside : (e v w q : ℕ) → Like v w → q ≤ w → w ≤ q + 1 → q < 3 * e → to v w q < 3 * e
to_inside e v w q l h k inside = let p = to_parent v w q l h k in omega (arith, p)

third_like : (dim : Dim) (v w : ℕ) → LikeThird dim v w → Like v w
third_like Two v w e = inl e
third_like Three v w e = e

third_inside : (dim : Dim) (e v w q : ℕ) → LikeThird dim v w → q ≤ w → w ≤ q + 1 → q < third_extent dim (3 * e) → to v w q < third_extent dim (3 * e)
third_inside Two e v w q l h k inside = omega arith
third_inside Three e v w q l h k inside = to_inside e v w q l h k inside

module _ (dim : Dim) (v w : VertexKey) (level : v.level ≡ w.level) (below : 1 ≤ w.level) (l0 : Like (plane v 0) (plane w 0)) (l1 : Like (plane v 1) (plane w 1)) (l2 : LikeThird dim (plane v 2) (plane w 2)) where
  module _ (q : CellKey) (cell : IsCell dim q) (t : Touches q w) where
    abbrev moved : CellKey
    moved = record { level = q.level; x = triple (to (plane v 0) (plane w 0) (at q 0)) (to (plane v 1) (plane w 1) (at q 1)) (to (plane v 2) (plane w 2) (at q 2)) }

    end : 3 ^ q.level ≡ 3 * 3 ^ (q.level - 1)
    end = let e : q.level ≡ suc (q.level - 1) = omega (arith, t.level, below) in ap (λ k. 3 ^ k) e ∙ omega (arith, pow-suc 3 (q.level - 1))

    there : IsCell dim moved
    there = record {
      shape = refl;
      level = cell.level;
      first = subst (λ e. at moved 0 < e) (sym end) (to_inside (3 ^ (q.level - 1)) (plane v 0) (plane w 0) (at q 0) l0 t.first_low t.first_high (subst (λ e. at q 0 < e) end cell.first));
      second = subst (λ e. at moved 1 < e) (sym end) (to_inside (3 ^ (q.level - 1)) (plane v 1) (plane w 1) (at q 1) l1 t.second_low t.second_high (subst (λ e. at q 1 < e) end cell.second));
      third = subst (λ e. at moved 2 < third_extent dim e) (sym end) (third_inside dim (3 ^ (q.level - 1)) (plane v 2) (plane w 2) (at q 2) l2 t.third_low t.third_high (subst (λ e. at q 2 < third_extent dim e) end cell.third));
    }

    near : Touches moved v
    near = record {
      level = t.level ∙ sym level;
      first_low = to_low (plane v 0) (plane w 0) (at q 0) l0 t.first_low t.first_high;
      first_high = to_high (plane v 0) (plane w 0) (at q 0) l0 t.first_low t.first_high;
      second_low = to_low (plane v 1) (plane w 1) (at q 1) l1 t.second_low t.second_high;
      second_high = to_high (plane v 1) (plane w 1) (at q 1) l1 t.second_low t.second_high;
      third_low = to_low (plane v 2) (plane w 2) (at q 2) (third_like dim (plane v 2) (plane w 2) l2) t.third_low t.third_high;
      third_high = to_high (plane v 2) (plane w 2) (at q 2) (third_like dim (plane v 2) (plane w 2) l2) t.third_low t.third_high;
    }

    same_parent : parent_of moved ≡ parent_of q
    same_parent =
        let e0 = to_parent (plane v 0) (plane w 0) (at q 0) l0 t.first_low t.first_high in
        let e1 = to_parent (plane v 1) (plane w 1) (at q 1) l1 t.second_low t.second_high in
        let e2 = to_parent (plane v 2) (plane w 2) (at q 2) (third_like dim (plane v 2) (plane w 2) l2) t.third_low t.third_high in
        rw (e0, e1, e2) refl

  pub stored_alike : (g : Spacetree) → g.dim ≡ dim → IsStored g v → IsStored g w
  stored_alike g same stored q cell t =
      let c = subst (λ d. IsCell d q) same cell in
      ap (λ (p : CellKey). (q.level == 0) || is_refined g p) (sym (same_parent q c t)) ∙ stored (moved q c t) (subst (λ d. IsCell d (moved q c t)) (sym same) (there q c t)) (near q c t)

  pub stored_in_alike : (depth : ℕ) (after : Bool) (old : Option Spacetree) (new : Spacetree) → AreGrids depth dim old new after → IsStoredIn after old new v → IsStoredIn after old new w
  stored_in_alike depth false None new grids h = absurd h
  stored_in_alike depth false (Some old) new grids h = stored_alike old grids.old_dim h
  stored_in_alike depth true None new grids h = stored_alike new grids.1 h
  stored_in_alike depth true (Some old) new grids h = stored_alike new (next_dim depth dim old new grids) h

-- what is told of one vertex holds of one like it
module _ (dim : Dim) (depth : ℕ) (after : Bool) (old : Option Spacetree) (new : Spacetree) (grids : AreGrids depth dim old new after) (c : CellKey) (told : Bool) where
  by_like : (j i : ℕ) → Like (plane (vertex_below c j) 0) (plane (vertex_below c i) 0) → Like (plane (vertex_below c j) 1) (plane (vertex_below c i) 1) → LikeThird dim (plane (vertex_below c j) 2) (plane (vertex_below c i) 2) → Like (plane (vertex_below c i) 0) (plane (vertex_below c j) 0) → Like (plane (vertex_below c i) 1) (plane (vertex_below c j) 1) → LikeThird dim (plane (vertex_below c i) 2) (plane (vertex_below c j) 2) → (told ≡ true) ↔ IsStoredIn after old new (vertex_below c j) → (told ≡ true) ↔ IsStoredIn after old new (vertex_below c i)
  by_like j i l0 l1 l2 m0 m1 m2 h = (
    λ t. stored_in_alike dim (vertex_below c j) (vertex_below c i) refl (omega arith) l0 l1 l2 depth after old new grids (h.0 t),
    λ s. h.1 (stored_in_alike dim (vertex_below c i) (vertex_below c j) refl (omega arith) m0 m1 m2 depth after old new grids s),
  )

  third_same : (dim : Dim) (v w : ℕ) → v ≡ w → LikeThird dim v w
  third_same Two v w e = e
  third_same Three v w e = inl e

  pub first_told : (i : ℕ) → i % 4 ≡ 2 → (told ≡ true) ↔ IsStoredIn after old new (vertex_below c (i - 1)) → (told ≡ true) ↔ IsStoredIn after old new (vertex_below c i)
  first_told i e h = by_like (i - 1) i (inr (omega arith, (λ z. omega arith), (λ z. omega arith))) (inl (omega arith)) (third_same dim _ _ (omega arith)) (inr (omega arith, (λ z. omega arith), (λ z. omega arith))) (inl (omega arith)) (third_same dim _ _ (omega arith)) h

  pub second_told : (i : ℕ) → i / 4 % 4 ≡ 2 → (told ≡ true) ↔ IsStoredIn after old new (vertex_below c (i - 4)) → (told ≡ true) ↔ IsStoredIn after old new (vertex_below c i)
  second_told i e h = by_like (i - 4) i (inl (omega arith)) (inr (omega arith, (λ z. omega arith), (λ z. omega arith))) (third_same dim _ _ (omega arith)) (inl (omega arith)) (inr (omega arith, (λ z. omega arith), (λ z. omega arith))) (third_same dim _ _ (omega arith)) h

  third_other : (dim : Dim) (i : ℕ) → i < count_below dim → i / 16 ≡ 2 → LikeThird dim (3 * at c 2 + (i - 16) / 16) (3 * at c 2 + i / 16) × LikeThird dim (3 * at c 2 + i / 16) (3 * at c 2 + (i - 16) / 16)
  third_other Two i below e = absurd (omega arith)
  third_other Three i below e = (inr (omega arith, (λ z. omega arith), (λ z. omega arith)), inr (omega arith, (λ z. omega arith), (λ z. omega arith)))

  pub third_told : (i : ℕ) → i < count_below dim → i / 16 ≡ 2 → (told ≡ true) ↔ IsStoredIn after old new (vertex_below c (i - 16)) → (told ≡ true) ↔ IsStoredIn after old new (vertex_below c i)
  third_told i below e h = let t = third_other dim i below e in by_like (i - 16) i (inl (omega arith)) (inl (omega arith)) t.0 (inl (omega arith)) (inl (omega arith)) t.1 h

-- the number of a cell's corner among the vertices of its parent's children
abbrev pub number_in : CellKey → ℕ → ℕ
number_in c n = at c 0 % 3 + n % 2 + 4 * (at c 1 % 3 + n / 2 % 2) + 16 * (at c 2 % 3 + n / 4)

pub number_below : (dim : Dim) (c : CellKey) (n : ℕ) → IsCell dim c → n < corners dim → number_in c n < count_below dim
number_below Two c n cell h = omega (arith, cell.third)
number_below Three c n cell h = omega arith

bits : (dim : Dim) (c : CellKey) (n : ℕ) → n < corners dim → (number_in c n % 4 ≡ at c 0 % 3 + bit_of n 0) × (number_in c n / 4 % 4 ≡ at c 1 % 3 + bit_of n 1) × (number_in c n / 16 ≡ at c 2 % 3 + bit_of n 2)
bits Two c n h = (omega arith, omega arith, omega arith)
bits Three c n h = (omega arith, omega arith, omega arith)

abbrev vertex_at : ℕ → ℕ → ℕ → ℕ → VertexKey
vertex_at l a b c = record { level = l; v = triple a b c }

same_vertex : (l m a b c e f g : ℕ) → l ≡ m → a ≡ e → b ≡ f → c ≡ g → vertex_at l a b c ≡ vertex_at m e f g
same_vertex l m a b c e f g hl ha hb hc = rw (hl, ha, hb, hc) refl

pub corner_below : (dim : Dim) (c : CellKey) (n : ℕ) → 1 ≤ c.level → n < corners dim → vertex_below (parent_of c) (number_in c n) ≡ corner_of c n
corner_below dim c n up h = let b = bits dim c n h in same_vertex (c.level - 1 + 1) c.level _ _ _ (at c 0 + bit_of n 0) (at c 1 + bit_of n 1) (at c 2 + bit_of n 2) (omega arith) (omega (arith, b.0)) (omega (arith, b.1)) (omega (arith, b.2))
