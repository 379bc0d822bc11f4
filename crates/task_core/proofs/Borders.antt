-- A corner of a cell of a grid is at a border exactly where it is shared or a position round it shows one.
use Rattle.std.proofs.Common.{◌≡◌, ◌⊎◌, inl, inr, ⊎_elim, ℕ, ◌<◌, Bool, true, false, refl, sym, subst, ◌∙◌, Option, Some, None, IsSome}
use Rattle.std.specs.Prelude.{IsSomeAnd, IfSome}
use Rattle.std.proofs.lemmas.Bool.{false≢true}
use Rattle.peano_keys.specs.declared.cell.CellKey.{CellKey}
use Rattle.peano_keys.specs.declared.vertex.VertexKey.{VertexKey}
use Rattle.peano_keys.specs.Dim.{corners}
use Rattle.peano_keys.specs.Cell.{IsCell}
use Rattle.peano_keys.specs.Vertex.{IsVertex, Touches, adjacent_of}
use Rattle.peano_keys.specs.Grid.{Spacetree, has_cell, is_refined, IsStored, IsGridCorner}
use Rattle.peano_keys.proofs.Positions.{position, position_below, at_position, adjacent_touches}
use Rattle.curve_cuts.specs.Cuts.{Cuts, IsShared}
use Rattle.curve_cuts.specs.Enclave.{HasRefined, IsAtBorder}
use Rattle.task_core.specs.Tours.{IsBroken}

module _ (k : Cuts) (g : Spacetree) (t : ℕ) (v : VertexKey) (corner : IsGridCorner g v) where
  found : (o : Option CellKey) (P : CellKey → Type 0) → IsSomeAnd o P → (q : CellKey) × (o ≡ Some q) × P q
  found None P h = absurd h
  found (Some q) P h = (q, refl, h)

  -- a position that shows a border
  pub broken_is : (n : ℕ) → IsVertex g.dim v → n < corners g.dim → IsBroken g v n → IsAtBorder k g t v
  broken_is n vertex below h =
      let q = found (adjacent_of g.dim v n) (λ c. (has_cell g c ≡ false) ⊎ (is_refined g c ≡ true)) h in
      let near = subst (λ (o : Option CellKey). IfSome o (λ c. IsCell g.dim c × Touches c v)) q.1 (adjacent_touches g.dim v n vertex) in
      ⊎_elim
      (λ away. IsAtBorder.hangs (corner, λ stored. false≢true (sym away ∙ stored q.0 near.0 near.1)))
      (λ refined. IsAtBorder.refined (record { cell = q.0; inside = near.0; touches = near.1; refined = refined }))
      q.2

  broken_at : (q : CellKey) → IsCell g.dim q → Touches q v → (has_cell g q ≡ false) ⊎ (is_refined g q ≡ true) → IsBroken g v (position g.dim v q)
  broken_at q cell touches h = subst (λ o. IsSomeAnd o (λ c. (has_cell g c ≡ false) ⊎ (is_refined g c ≡ true))) (sym (at_position g.dim v q cell touches)) h

  -- where none does, the corner is at no border
  pub none_broken : (¬ IsShared k t v) → ((n : ℕ) → n < corners g.dim → ¬ IsBroken g v n) → IsAtBorder k g t v → ⊥
  none_broken alone none (IsAtBorder.shared h) = alone h
  none_broken alone none (IsAtBorder.refined r) = none (position g.dim v r.cell) (position_below g.dim v r.cell r.touches) (broken_at r.cell r.inside r.touches (inr r.refined))
  none_broken alone none (IsAtBorder.hangs h) = h.1 (λ q cell touches. by_cell q cell touches (has_cell g q) refl)
    where
      by_cell : (q : CellKey) → IsCell g.dim q → Touches q v → (b : Bool) → has_cell g q ≡ b → has_cell g q ≡ true
      by_cell q cell touches true e = e
      by_cell q cell touches false e = absurd (none (position g.dim v q) (position_below g.dim v q touches) (broken_at q cell touches (inl e)))
