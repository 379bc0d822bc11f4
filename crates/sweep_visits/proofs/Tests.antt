-- The tests of held cells and stored vertices are exact.
use Rattle.std.proofs.Common.{◌≡◌, ℕ, zero, suc, ◌+◌, ◌-◌, ◌*◌, ◌^◌, ◌<◌, min, max, Bool, true, Option, Some, None, arith, refl, subst}
use Rattle.std.specs.Prelude.{IfSome}
use Rattle.std.proofs.lemmas.Bool.{ltb-true, lt-ltb}
use Rattle.peano_keys.specs.declared.cell.CellKey.{CellKey}
use Rattle.peano_keys.specs.declared.vertex.VertexKey.{VertexKey}
use Rattle.peano_keys.specs.declared.dim.Dim.{Dim}
use Rattle.peano_keys.specs.declared.dim.Dim.TheVariants.{Two, Three}
use Rattle.peano_keys.specs.Dim.{corners, children}
use Rattle.peano_keys.specs.Cell.{IsCell}
use Rattle.peano_keys.specs.Vertex.{IsVertex, Touches, adjacent_of}
use Rattle.peano_keys.specs.Grid.{Spacetree, IsStored}
use Rattle.peano_keys.proofs.Positions.{position, position_below, at_position, adjacent_touches}
use Rattle.peano_curve.specs.Order.{rank_of}
use Rattle.peano_curve.specs.Run.{HoldsCell}
use Rattle.stack_walks.proofs.GivenCorners.{and_true}
use Rattle.stack_walks.specs.Grids.{all_of}
use Rattle.sweep_visits.specs.Plan.{SweepPlan, dim_of, is_held, corner_numbers, is_settled, is_stored}

pub held_tells : (p : SweepPlan) (c : CellKey) → is_held p c ≡ true → HoldsCell (dim_of p) p.depth p.range c
held_tells p c t =
    let s : ℕ = rank_of (dim_of p) c * children (dim_of p) ^ (p.depth - c.level) in
    let w : ℕ = children (dim_of p) ^ (p.depth - c.level) in
    let h : max s p.range.lo < min (s + w) p.range.hi = ltb-true (max s p.range.lo) (min (s + w) p.range.hi) t in
    (max s p.range.lo, (omega arith, omega arith), (omega arith, omega arith))

pub held_told : (p : SweepPlan) (c : CellKey) → HoldsCell (dim_of p) p.depth p.range c → is_held p c ≡ true
held_told p c h =
    let s : ℕ = rank_of (dim_of p) c * children (dim_of p) ^ (p.depth - c.level) in
    let w : ℕ = children (dim_of p) ^ (p.depth - c.level) in
    let k : ℕ = h.0 in
    lt-ltb (max s p.range.lo) (min (s + w) p.range.hi) (omega (arith, h.1.0, h.1.1, h.2.0, h.2.1))

-- an item of the numbers of corners
pub all_at : (dim : Dim) (f : ℕ → Bool) (n : ℕ) → n < corners dim → all_of f (corner_numbers dim) ≡ true → f n ≡ true
all_at Two f zero h t = (and_true (f 0) _ t).0
all_at Two f (suc zero) h t = (and_true (f 1) _ (and_true (f 0) _ t).1).0
all_at Two f (suc (suc zero)) h t = (and_true (f 2) _ (and_true (f 1) _ (and_true (f 0) _ t).1).1).0
all_at Two f (suc (suc (suc zero))) h t = (and_true (f 3) _ (and_true (f 2) _ (and_true (f 1) _ (and_true (f 0) _ t).1).1).1).0
all_at Two f (suc (suc (suc (suc n)))) h t = absurd (omega arith)
all_at Three f zero h t = (and_true (f 0) _ t).0
all_at Three f (suc zero) h t = (and_true (f 1) _ (and_true (f 0) _ t).1).0
all_at Three f (suc (suc zero)) h t = (and_true (f 2) _ (and_true (f 1) _ (and_true (f 0) _ t).1).1).0
all_at Three f (suc (suc (suc zero))) h t = (and_true (f 3) _ (and_true (f 2) _ (and_true (f 1) _ (and_true (f 0) _ t).1).1).1).0
all_at Three f (suc (suc (suc (suc zero)))) h t = (and_true (f 4) _ (and_true (f 3) _ (and_true (f 2) _ (and_true (f 1) _ (and_true (f 0) _ t).1).1).1).1).0
all_at Three f (suc (suc (suc (suc (suc zero))))) h t = (and_true (f 5) _ (and_true (f 4) _ (and_true (f 3) _ (and_true (f 2) _ (and_true (f 1) _ (and_true (f 0) _ t).1).1).1).1).1).0
all_at Three f (suc (suc (suc (suc (suc (suc zero)))))) h t = (and_true (f 6) _ (and_true (f 5) _ (and_true (f 4) _ (and_true (f 3) _ (and_true (f 2) _ (and_true (f 1) _ (and_true (f 0) _ t).1).1).1).1).1).1).0
all_at Three f (suc (suc (suc (suc (suc (suc (suc zero))))))) h t = (and_true (f 7) _ (and_true (f 6) _ (and_true (f 5) _ (and_true (f 4) _ (and_true (f 3) _ (and_true (f 2) _ (and_true (f 1) _ (and_true (f 0) _ t).1).1).1).1).1).1).1).0
all_at Three f (suc (suc (suc (suc (suc (suc (suc (suc n)))))))) h t = absurd (omega arith)

pub all_told : (dim : Dim) (f : ℕ → Bool) → ((n : ℕ) → n < corners dim → f n ≡ true) → all_of f (corner_numbers dim) ≡ true
all_told Two f h = rw (h 0 (omega arith), h 1 (omega arith), h 2 (omega arith), h 3 (omega arith)) refl
all_told Three f h = rw (h 0 (omega arith), h 1 (omega arith), h 2 (omega arith), h 3 (omega arith), h 4 (omega arith), h 5 (omega arith), h 6 (omega arith), h 7 (omega arith)) refl

pub stored_tells : (t : Spacetree) (v : VertexKey) → is_stored t v ≡ true → IsStored t v
stored_tells t v h q cell touches = subst (λ o. is_settled t o ≡ true) (at_position t.dim v q cell touches) (all_at t.dim (λ n. is_settled t (adjacent_of t.dim v n)) (position t.dim v q) (position_below t.dim v q touches) h)

pub stored_told : (t : Spacetree) (v : VertexKey) → IsVertex t.dim v → IsStored t v → is_stored t v ≡ true
stored_told t v vertex stored = all_told t.dim (λ n. is_settled t (adjacent_of t.dim v n)) (λ n h. by (adjacent_of t.dim v n) (adjacent_touches t.dim v n vertex))
  where
    by : (o : Option CellKey) → IfSome o (λ q. IsCell t.dim q × Touches q v) → is_settled t o ≡ true
    by None h = refl
    by (Some q) h = stored q h.0 h.1
