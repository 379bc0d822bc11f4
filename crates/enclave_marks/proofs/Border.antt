-- A corner of a view shows a border exactly where it is at one.
use Rattle.std.proofs.Common.{◌≡◌, Bool, not, ◌&&◌, inl, inr, ⊎_elim, ℕ, ◌<◌, true, false, refl, sym, subst, ◌∙◌, Option, Some, None, IsSome}
use Rattle.std.specs.Prelude.{IfSome}
use Rattle.std.proofs.lemmas.Bool.{false≢true}
use Rattle.peano_keys.specs.declared.cell.CellKey.{CellKey}
use Rattle.peano_keys.specs.declared.vertex.VertexKey.{VertexKey}
use Rattle.peano_keys.specs.Dim.{corners}
use Rattle.peano_keys.specs.Cell.{IsCell}
use Rattle.peano_keys.specs.Vertex.{IsVertex, Touches, corner_of, adjacent_of}
use Rattle.peano_keys.specs.Grid.{Spacetree, IsStored, is_refined, is_leaf, has_cell}
use Rattle.peano_keys.proofs.Positions.{position, position_below, at_position, adjacent_touches}
use Rattle.peano_records.specs.declared.view.Corner.{Corner}
use Rattle.peano_records.specs.declared.view.Corner.TheVariants.{Vertex, Hanging, Beyond}
use Rattle.peano_records.specs.declared.view.CellView.{CellView}
use Rattle.peano_records.specs.Slots.{VertexRecord, slot_at}
use Rattle.peano_records.specs.Tells.{slot_tells, corner_at}
use Rattle.hanging_nodes.specs.Views.{Shows, IsShown}
use Rattle.hanging_nodes.proofs.Anchors.{touches_corner}
use Rattle.hanging_nodes.proofs.TwoGrids.{slot_tells_old}
use Rattle.curve_cuts.specs.Cuts.{Cuts}
use Rattle.curve_cuts.specs.Enclave.{OwnsLeaf, HasRefined, IsAtBorder, IsEnclave, IsSkeleton}
use Rattle.enclave_marks.specs.Corners.{TellsRefined, ShowsBorder}

-- a leaf is a cell of the grid
leaf_there : (g : Spacetree) (c : CellKey) → is_leaf g c ≡ true → has_cell g c ≡ true
leaf_there g c h = first_and (has_cell g c) (not (is_refined g c)) h
  where
    first_and : (a b : Bool) → (a && b) ≡ true → a ≡ true
    first_and true b h = refl
    first_and false b h = h

module _ (k : Cuts) (g : Spacetree) (t : ℕ) (view : CellView) (same : g.dim ≡ k.dim) (shows : Shows k.dim (Some g) g false view) (owns : OwnsLeaf k g t view.key) where
  abbrev here : ℕ → VertexKey
  here n = corner_of view.key n

  cell_here : (q : CellKey) → IsCell k.dim q → IsCell g.dim q
  cell_here q h = subst (λ d. IsCell d q) (sym same) h

  -- a record tells of each cell round its vertex whether it is refined
  tells : (n j : ℕ) (s : VertexRecord) (q : CellKey) → IsShown k.dim (Some g) g false (here n) (Vertex s) → j < corners k.dim → adjacent_of k.dim (here n) j ≡ Some q → slot_tells false (slot_at s j) ≡ is_refined g q
  tells n j s q shown below at =
      let stored : IsStored g (here n) = ⊎_elim (λ h. h) (λ h. h) shown.1.0 in
      slot_tells_old g g false q (slot_at s j) (shown.1.1 stored j q below (subst (λ (w : VertexKey). adjacent_of k.dim w j ≡ Some q) (sym shown.0) at))

  some_cell : (o : Option CellKey) → IsSome o → (q : CellKey) × (o ≡ Some q)
  some_cell None h = absurd (false≢true h)
  some_cell (Some q) h = (q, refl)

  refined_told : (n j : ℕ) (s : VertexRecord) → IsVertex k.dim (here n) → IsShown k.dim (Some g) g false (here n) (Vertex s) → j < corners k.dim → TellsRefined k.dim (here n) s j → HasRefined g (here n)
  refined_told n j s vertex shown below told =
      let found = some_cell (adjacent_of k.dim (here n) j) told.0 in
      let near = subst (λ (o : Option CellKey). IfSome o (λ q. IsCell k.dim q × Touches q (here n))) found.1 (adjacent_touches k.dim (here n) j vertex) in
      record { cell = found.0; inside = cell_here found.0 near.0; touches = near.1; refined = sym (tells n j s found.0 shown below found.1) ∙ told.1 }

  border_of : (n : ℕ) (o : Corner) → IsVertex k.dim (here n) → IsShown k.dim (Some g) g false (here n) o → ShowsBorder k t (here n) o → IsAtBorder k g t (here n)
  border_of n (Vertex s) vertex shown h = ⊎_elim (λ other. IsAtBorder.shared other) (λ r. IsAtBorder.refined (refined_told n r.0 s vertex shown r.1 r.2)) h
  border_of n (Hanging v) vertex shown h = IsAtBorder.hangs ((view.key, cell_here view.key owns.cell, touches_corner k.dim view.key n, leaf_there g view.key owns.leaf), shown.1)
  border_of n Beyond vertex shown h = absurd shown

  told_refined : (n : ℕ) (s : VertexRecord) → IsShown k.dim (Some g) g false (here n) (Vertex s) → HasRefined g (here n) → (j : ℕ) × (j < corners k.dim) × TellsRefined k.dim (here n) s j
  told_refined n s shown r =
      let j : ℕ = position k.dim (here n) r.cell in
      let below = position_below k.dim (here n) r.cell r.touches in
      let at = at_position k.dim (here n) r.cell (subst (λ d. IsCell d r.cell) same r.inside) r.touches in
      (j, below, (subst IsSome (sym at) refl, tells n j s r.cell shown below at ∙ r.refined))

  shown_of : (n : ℕ) (o : Corner) → IsShown k.dim (Some g) g false (here n) o → IsAtBorder k g t (here n) → ShowsBorder k t (here n) o
  shown_of n (Vertex s) shown (IsAtBorder.hangs h) = absurd (h.1 (⊎_elim (λ a. a) (λ a. a) shown.1.0))
  shown_of n (Vertex s) shown (IsAtBorder.shared h) = inl h
  shown_of n (Vertex s) shown (IsAtBorder.refined h) = inr (told_refined n s shown h)
  shown_of n (Hanging v) shown b = tt
  shown_of n Beyond shown b = tt

  pub enclave_if : ((n : ℕ) → n < corners k.dim → ¬ ShowsBorder k t (here n) (corner_at view n)) → IsEnclave k g t view.key
  enclave_if none = (owns, λ b. none b.0 b.1 (shown_of b.0 (corner_at view b.0) (shows b.0 b.1) b.2))

  pub no_enclave : (n : ℕ) → n < corners k.dim → IsVertex k.dim (here n) → ShowsBorder k t (here n) (corner_at view n) → IsEnclave k g t view.key → ⊥
  no_enclave n below vertex h enclave = enclave.1 (n, below, border_of n (corner_at view n) vertex (shows n below) h)

  -- so the leaf is a skeleton leaf
  pub skeleton_if : (n : ℕ) → n < corners k.dim → IsVertex k.dim (here n) → ShowsBorder k t (here n) (corner_at view n) → IsSkeleton k g t view.key
  skeleton_if n below vertex h = (owns, (n, below, border_of n (corner_at view n) vertex (shows n below) h))

  pub no_skeleton : ((n : ℕ) → n < corners k.dim → ¬ ShowsBorder k t (here n) (corner_at view n)) → IsSkeleton k g t view.key → ⊥
  no_skeleton none skeleton = (enclave_if none).1 skeleton.1
