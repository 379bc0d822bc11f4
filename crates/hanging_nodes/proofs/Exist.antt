-- A view that shows the grids of a sweep, made corner by corner.
use Rattle.std.proofs.Common.{◌≡◌, ◌⊎◌, inl, inr, ℕ, zero, suc, ◌<◌, ◌≤◌, ◌^◌, Bool, true, false, pos, List, [], ◌∷◌, map, Option, Some, None, refl, sym, ap, ◌∙◌, subst, arith, ⊎_elim}
use Rattle.std.specs.Prelude.{IfSome, slice_index_or}
use Rattle.std.proofs.lemmas.Bool.{false≢true, cases_eq}
use Rattle.peano_keys.specs.declared.dim.Dim.{Dim}
use Rattle.peano_keys.specs.declared.dim.Dim.TheVariants.{Two, Three}
use Rattle.peano_keys.specs.declared.cell.CellKey.{CellKey}
use Rattle.peano_keys.specs.declared.vertex.VertexKey.{VertexKey}
use Rattle.peano_keys.specs.declared.state.State.TheVariants.{Single}
use Rattle.peano_keys.specs.declared.side.Mark.TheVariants.{Keep}
use Rattle.peano_keys.specs.declared.side.Side.TheVariants.{Edge}
use Rattle.peano_keys.specs.Dim.{corners, third_end}
use Rattle.peano_keys.specs.Cell.{IsCell}
use Rattle.peano_keys.specs.Vertex.{IsVertex, Touches, plane, corner_of, adjacent_of}
use Rattle.peano_keys.specs.Grid.{Spacetree, IsStored, is_refined, has_cell}
use Rattle.peano_keys.proofs.Positions.{position, position_below, at_position, adjacent_touches}
use Rattle.peano_records.specs.declared.slot.Slot.{Slot}
use Rattle.peano_records.specs.declared.slot.Status.TheVariants.{Outside}
use Rattle.peano_records.specs.declared.slot.Intent.{Intent}
use Rattle.peano_records.specs.declared.slot.Intent.TheVariants.{Stay}
use Rattle.peano_records.specs.declared.view.Corner.{Corner}
use Rattle.peano_records.specs.declared.view.Corner.TheVariants.{Vertex, Hanging, Beyond}
use Rattle.peano_records.specs.declared.view.CellView.{CellView}
use Rattle.peano_records.specs.Slots.{VertexRecord, blank}
use Rattle.peano_records.specs.AtRest.{status_of, intent_between, SaysOfCells}
use Rattle.peano_records.proofs.Intents.{below_eight}
use Rattle.hanging_nodes.specs.Views.{AreGrids, IsOldSlot, IsNewSlot, IsFirstSlot, IsShown, Shows}
use Rattle.hanging_nodes.specs.Laws.{ViewsExist}
use Rattle.hanging_nodes.proofs.TwoGrids.{next_dim}
use Rattle.hanging_nodes.proofs.Told.{old_slot_of, refined_is}

-- below a number or not
lt_or_le : (n m : ℕ) → (n < m) ⊎ (m ≤ n)
lt_or_le n zero = inr (omega arith)
lt_or_le zero (suc m) = inl (omega arith)
lt_or_le (suc n) (suc m) = ⊎_elim (λ h. inl (omega (arith, h))) (λ h. inr (omega (arith, h))) (lt_or_le n m)

-- the places of eight things
abbrev eight : {A : Type 0} → (ℕ → A) → List A
eight f = map f (0 ∷ 1 ∷ 2 ∷ 3 ∷ 4 ∷ 5 ∷ 6 ∷ 7 ∷ [])

eight_at : {A : Type 0} (f : ℕ → A) (d : A) (n : ℕ) → n < 8 → slice_index_or (eight f) n d ≡ f n
eight_at f d zero h = refl
eight_at f d (suc zero) h = refl
eight_at f d (suc (suc zero)) h = refl
eight_at f d (suc (suc (suc zero))) h = refl
eight_at f d (suc (suc (suc (suc zero)))) h = refl
eight_at f d (suc (suc (suc (suc (suc zero))))) h = refl
eight_at f d (suc (suc (suc (suc (suc (suc zero)))))) h = refl
eight_at f d (suc (suc (suc (suc (suc (suc (suc zero))))))) h = refl
eight_at f d (suc (suc (suc (suc (suc (suc (suc (suc n)))))))) h = absurd (omega (arith, h))

-- a Boolean test holds below a number, or fails at one
all_or_one : (b : ℕ → Bool) (m : ℕ) → ((k : ℕ) → k < m → b k ≡ true) ⊎ ((k : ℕ) × (k < m) × (b k ≡ false))
all_or_one b zero = inl (λ k h. absurd (omega (arith, h)))
all_or_one b (suc m) = ⊎_elim
    (λ all. by_last (b m) refl all)
    (λ one. inr (one.0, omega (arith, one.1), one.2))
    (all_or_one b m)
  where
    by_last : (x : Bool) → b m ≡ x → ((k : ℕ) → k < m → b k ≡ true) → ((k : ℕ) → k < suc m → b k ≡ true) ⊎ ((k : ℕ) × (k < suc m) × (b k ≡ false))
    by_last true e all = inl (λ k h. ⊎_elim (λ same. ap b same ∙ e) (λ other. all k (omega (arith, h, other))) (cases_eq k m))
    by_last false e all = inr (m, omega arith, e)

abbrev there : Spacetree → Option CellKey → Bool
there t None = true
there t (Some q) = has_cell t q

-- a vertex is stored or not
decided : (dim : Dim) (t : Spacetree) (w : VertexKey) → t.dim ≡ dim → IsVertex dim w → IsStored t w ⊎ ¬ IsStored t w
decided dim t w same vertex = ⊎_elim
    (λ all. inl (λ q cell touches. ap (there t) (sym (at_position dim w q (subst (λ d. IsCell d q) same cell) touches)) ∙ all (position dim w q) (position_below dim w q touches)))
    (λ one. inr (λ stored. missing (adjacent_of dim w one.0) stored (adjacent_touches dim w one.0 vertex) one.2))
    (all_or_one (λ k. there t (adjacent_of dim w k)) (corners dim))
  where
    missing : (o : Option CellKey) → IsStored t w → IfSome o (λ q. IsCell dim q × Touches q w) → there t o ≡ false → ⊥
    missing None stored near e = false≢true (sym e)
    missing (Some q) stored near e = false≢true (sym e ∙ stored q (subst (λ d. IsCell d q) (sym same) near.0) near.1)

-- a record with the same thing said of each cell inside the domain
module _ (dim : Dim) (w : VertexKey) (say : CellKey → Slot) where
  abbrev said : Option CellKey → Slot
  said None = blank Outside
  said (Some q) = say q

  abbrev made : VertexRecord
  made = record { key = w; slots = eight (λ n. said (adjacent_of dim w n)) }

  made_says : (P : CellKey → Slot → Type 0) → ((q : CellKey) → IsCell dim q → Touches q w → P q (say q)) → IsVertex dim w → SaysOfCells dim made P
  made_says P each vertex = λ n q below at.
      let near = subst (λ (o : Option CellKey). IfSome o (λ q. IsCell dim q × Touches q w)) at (adjacent_touches dim w n vertex) in
      subst (P q) (sym (eight_at (λ n. said (adjacent_of dim w n)) _ n (below_eight dim n below) ∙ ap said at)) (each q near.0 near.1)

abbrev slot_by : Bool → Intent → Slot
slot_by refined intent = record { status = status_of refined; value = Single (pos 0); next = Single (pos 0); mark = Keep; intent = intent }

abbrev say_old : Spacetree → Spacetree → CellKey → Slot
say_old old new q = slot_by (is_refined old q) (intent_between (is_refined old q) (is_refined new q))

abbrev say_new : Spacetree → CellKey → Slot
say_new new q = slot_by (is_refined new q) Stay

-- a corner that is right
abbrev Right : Dim → Option Spacetree → Spacetree → Bool → VertexKey → Type 0
Right dim old new after w = (o : Corner) × IsShown dim old new after w o

right : (depth : ℕ) (dim : Dim) (old : Option Spacetree) (new : Spacetree) (after : Bool) (w : VertexKey) → AreGrids depth dim old new after → IsVertex dim w → Right dim old new after w
right depth dim None new after w grids vertex = ⊎_elim
    (λ stored. (Vertex (made dim w (say_new new)), (refl, (stored, made_says dim w (say_new new) (IsFirstSlot new) (λ q cell touches. record { stay = refl; refined = refined_is (is_refined new q) }) vertex))))
    (λ hangs. (Hanging w, (refl, (λ none. none), hangs)))
    (decided dim new w grids.1 vertex)
right depth dim (Some old) new after w grids vertex = ⊎_elim
    (λ stored. (Vertex (made dim w (say_old old new)), (refl, (inl stored, (λ again. made_says dim w (say_old old new) (IsOldSlot old new after) (λ q cell touches. old_slot_of old new after q (say_old old new q) (stored q (subst (λ d. IsCell d q) (sym grids.old_dim) cell) touches) (record { status = refl; intent = refl })) vertex), (λ none. absurd (none stored))))))
    (λ hung. ⊎_elim
    (λ stored. (Vertex (made dim w (say_new new)), (refl, (inr stored, (λ was. absurd (hung was)), (λ none. made_says dim w (say_new new) (IsNewSlot new) (λ q cell touches. record { stay = refl; refined = (refined_is (is_refined new q)).0 }) vertex)))))
    (λ hangs. (Hanging w, (refl, hung, hangs)))
    (decided dim new w (next_dim depth dim old new grids) vertex))
    (decided dim old w grids.old_dim vertex)

-- a corner of a cell is a vertex
third_corner : (dim : Dim) (c : CellKey) (n : ℕ) → n < corners dim → IsCell dim c → plane (corner_of c n) 2 ≤ third_end dim (3 ^ c.level)
third_corner Two c n h cell = omega (arith, h, cell.third)
third_corner Three c n h cell = omega (arith, cell.third)

corner_is_vertex : (dim : Dim) (c : CellKey) (n : ℕ) → n < corners dim → IsCell dim c → IsVertex dim (corner_of c n)
corner_is_vertex dim c n h cell = record { shape = refl; level = cell.level; first = omega (arith, cell.first); second = omega (arith, cell.second); third = third_corner dim c n h cell }

pub views_exist : ViewsExist
views_exist depth dim old new after c grids cell = (view, refl, refl, shows)
  where
    place_by : (n : ℕ) → (n < corners dim) ⊎ (corners dim ≤ n) → Corner
    place_by n (inl h) = (right depth dim old new after (corner_of c n) grids (corner_is_vertex dim c n h cell)).0
    place_by n (inr h) = Beyond

    place : ℕ → Corner
    place n = place_by n (lt_or_le n (corners dim))

    view : CellView
    view = record { key = c; was = None; will = None; corners = eight place; sides = record { low = Edge ∷ Edge ∷ Edge ∷ []; high = Edge ∷ Edge ∷ Edge ∷ [] }; carried = Single (pos 0); task = 0 }

    shown_by : (n : ℕ) (e : (n < corners dim) ⊎ (corners dim ≤ n)) → n < corners dim → IsShown dim old new after (corner_of c n) (place_by n e)
    shown_by n (inl h) below = (right depth dim old new after (corner_of c n) grids (corner_is_vertex dim c n h cell)).1
    shown_by n (inr h) below = absurd (omega (arith, h, below))

    shows : Shows dim old new after view
    shows n below = subst (IsShown dim old new after (corner_of c n)) (sym (eight_at place Beyond n (below_eight dim n below))) (shown_by n (lt_or_le n (corners dim)) below)
