-- A view that shows a grid and the marks of its leaves: one that shows the grid, with the marks put into its slots.
use Rattle.std.proofs.Common.{◌≡◌, ◌⊎◌, inl, inr, ⊎_elim, ℕ, zero, suc, ◌<◌, ◌≤◌, false, List, [], ◌∷◌, map, length, Option, Some, None, refl, sym, ap, subst, ◌∙◌, arith}
use Rattle.std.specs.Prelude.{slice_index_or}
use Rattle.peano_keys.specs.declared.cell.CellKey.{CellKey}
use Rattle.peano_keys.specs.declared.vertex.VertexKey.{VertexKey}
use Rattle.peano_keys.specs.declared.side.Mark.{Mark}
use Rattle.peano_keys.specs.Dim.{corners}
use Rattle.peano_keys.specs.Cell.{IsCell}
use Rattle.peano_keys.specs.Vertex.{corner_of, adjacent_of}
use Rattle.peano_keys.specs.Grid.{Spacetree, IsStored}
use Rattle.peano_records.specs.declared.slot.Slot.{Slot}
use Rattle.peano_records.specs.declared.view.Corner.{Corner}
use Rattle.peano_records.specs.declared.view.Corner.TheVariants.{Vertex, Hanging, Beyond}
use Rattle.peano_records.specs.declared.view.CellView.{CellView}
use Rattle.peano_records.specs.Slots.{VertexRecord, slot_at}
use Rattle.peano_records.specs.AtRest.{SaysOfCells}
use Rattle.peano_records.specs.Tells.{corner_at}
use Rattle.peano_records.proofs.Intents.{below_eight}
use Rattle.hanging_nodes.specs.Views.{IsOldSlot, IsShown, Shows}
use Rattle.hanging_nodes.proofs.Exist.{views_exist}
use Rattle.adapt_marks.specs.Views.{HasMark}
use Rattle.adapt_marks.specs.Laws.{MarkedViewsExist}

lt_or_le : (n m : ℕ) → (n < m) ⊎ (m ≤ n)
lt_or_le n zero = inr (omega arith)
lt_or_le zero (suc m) = inl (omega arith)
lt_or_le (suc n) (suc m) = ⊎_elim (λ h. inl (omega (arith, h))) (λ h. inr (omega (arith, h))) (lt_or_le n m)

-- the places of eight things
abbrev eight : {A : Type 0} → (ℕ → A) → List A
eight f = map f (0 ∷ 1 ∷ 2 ∷ 3 ∷ 4 ∷ 5 ∷ 6 ∷ 7 ∷ [])

eight_at : {A : Type 0} (f : ℕ → A) (d : A) (n : ℕ) → n < 8 → slice_index_or (eight f) n d ≡ f n
eight_at f d zero h = refl
eight_at f d (suc zero) h = refl
eight_at f d (suc (suc zero)) h = refl
eight_at f d (suc (suc (suc zero))) h = refl
eight_at f d (suc (suc (suc (suc zero)))) h = refl
eight_at f d (suc (suc (suc (suc (suc zero))))) h = refl
eight_at f d (suc (suc (suc (suc (suc (suc zero)))))) h = refl
eight_at f d (suc (suc (suc (suc (suc (suc (suc zero))))))) h = refl
eight_at f d (suc (suc (suc (suc (suc (suc (suc (suc n)))))))) h = absurd (omega (arith, h))

module _ (g : Spacetree) (marks : CellKey → Mark) where
  -- a slot with the mark of the cell at its position
  abbrev marked_by : Option CellKey → Slot → Slot
  marked_by None s = s
  marked_by (Some q) s = record s { mark = marks q }

  abbrev marked_record : VertexRecord → VertexRecord
  marked_record s = record { key = s.key; slots = eight (λ n. marked_by (adjacent_of g.dim s.key n) (slot_at s n)) }

  abbrev marked_corner : Corner → Corner
  marked_corner (Vertex s) = Vertex (marked_record s)
  marked_corner (Hanging k) = Hanging k
  marked_corner Beyond = Beyond

  marked_slot : (s : VertexRecord) (n : ℕ) (q : CellKey) → n < corners g.dim → adjacent_of g.dim s.key n ≡ Some q → slot_at (marked_record s) n ≡ marked_by (Some q) (slot_at s n)
  marked_slot s n q below at = eight_at (λ n. marked_by (adjacent_of g.dim s.key n) (slot_at s n)) _ n (below_eight g.dim n below) ∙ ap (λ (o : Option CellKey). marked_by o (slot_at s n)) at

  has_marks : (s : VertexRecord) → SaysOfCells g.dim (marked_record s) (HasMark g marks)
  has_marks s = λ n q below at leaf. ap (λ (r : Slot). r.mark) (marked_slot s n q below at)

  still_old : (q : CellKey) (s : Slot) → IsOldSlot g g false q s → IsOldSlot g g false q (marked_by (Some q) s)
  still_old q s h = record { split = h.split; merge = h.merge; stay = h.stay; splits = h.splits; merges = h.merges }

  still_shown : (w : VertexKey) (o : Corner) → IsShown g.dim (Some g) g false w o → IsShown g.dim (Some g) g false w (marked_corner o)
  still_shown w (Vertex s) h =
      let stored : IsStored g w = ⊎_elim (λ a. a) (λ a. a) h.1.0 in
      (h.0, (h.1.0, (λ again n q below at. subst (IsOldSlot g g false q) (sym (marked_slot s n q below at)) (still_old q (slot_at s n) (h.1.1 stored n q below at))), (λ none. absurd (none stored))))
  still_shown w (Hanging k) h = h
  still_shown w Beyond h = h

  abbrev record_of : VertexRecord → Corner → VertexRecord
  record_of d (Vertex s) = s
  record_of d (Hanging k) = d
  record_of d Beyond = d

  marks_at : (w : VertexKey) (o : Corner) (s : VertexRecord) → IsShown g.dim (Some g) g false w o → marked_corner o ≡ Vertex s → SaysOfCells g.dim s (HasMark g marks)
  marks_at w (Vertex r) s h is = subst (λ (v : VertexRecord). SaysOfCells g.dim v (HasMark g marks)) (ap (record_of s) is) (has_marks r)
  marks_at w (Hanging k) s h is = cc
  marks_at w Beyond s h is = absurd h

pub marked_views_exist : MarkedViewsExist
marked_views_exist depth g marks c grid cell = (view, shown.1, record { cell = subst (IsCell g.dim) (sym shown.1) cell; grid = shows; marked = marked; beyond = beyond })
  where
    shown : (v : CellView) × (v.key ≡ c) × (length v.corners ≡ 8) × Shows g.dim (Some g) g false v
    shown = views_exist depth g.dim (Some g) g false c (record { grid = grid; old_dim = refl; step = inl refl }) cell

    place_by : (n : ℕ) → (n < corners g.dim) ⊎ (corners g.dim ≤ n) → Corner
    place_by n (inl h) = marked_corner g marks (corner_at shown.0 n)
    place_by n (inr h) = Beyond

    place : ℕ → Corner
    place n = place_by n (lt_or_le n (corners g.dim))

    view : CellView
    view = record shown.0 { corners = eight place }

    placed : (n : ℕ) → n < 8 → corner_at view n ≡ place n
    placed n h = eight_at place Beyond n h

    used : (n : ℕ) (e : (n < corners g.dim) ⊎ (corners g.dim ≤ n)) → n < corners g.dim → place_by n e ≡ marked_corner g marks (corner_at shown.0 n)
    used n (inl h) below = refl
    used n (inr h) below = absurd (omega (arith, h, below))

    left : (n : ℕ) (e : (n < corners g.dim) ⊎ (corners g.dim ≤ n)) → corners g.dim ≤ n → place_by n e ≡ Beyond
    left n (inl h) above = absurd (omega (arith, h, above))
    left n (inr h) above = refl

    at_place : (n : ℕ) → n < corners g.dim → corner_at view n ≡ marked_corner g marks (corner_at shown.0 n)
    at_place n below = placed n (below_eight g.dim n below) ∙ used n (lt_or_le n (corners g.dim)) below

    shows : (n : ℕ) → n < corners g.dim → IsShown g.dim (Some g) g false (corner_of view.key n) (corner_at view n)
    shows n below = subst (IsShown g.dim (Some g) g false (corner_of view.key n)) (sym (at_place n below)) (still_shown g marks (corner_of view.key n) (corner_at shown.0 n) (shown.3 n below))

    marked : (n : ℕ) (s : VertexRecord) → n < corners g.dim → corner_at view n ≡ Vertex s → SaysOfCells g.dim s (HasMark g marks)
    marked n s below is = marks_at g marks (corner_of view.key n) (corner_at shown.0 n) s (shown.3 n below) (sym (at_place n below) ∙ is)

    beyond : (n : ℕ) → corners g.dim ≤ n → n < 8 → corner_at view n ≡ Beyond
    beyond n above below = placed n below ∙ left n (lt_or_le n (corners g.dim)) above
