-- Adapted views.
use Rattle.std.proofs.Common.{◌≡◌, ◌⊎◌, ◌↔◌, ℕ, Bool, true, false, Some, None, length, refl, ap, sym, ◌∙◌, subst, inl, inr, ⊎_elim, length-set}
use Rattle.std.proofs.lemmas.List.{get_or-set_same, get_or-set_other, set_past}
use Rattle.std.proofs.lemmas.Bool.{false≢true, cases_eq}
use Rattle.peano_keys.specs.declared.dim.Dim.{Dim}
use Rattle.peano_keys.specs.declared.state.State.{State}
use Rattle.peano_keys.specs.Cell.{IsCell}
use Rattle.peano_keys.specs.Dim.{corners}
use Rattle.peano_keys.specs.Vertex.{adjacent_of, corner_of, home_of, slot_from}
use Rattle.peano_keys.specs.Grid.{Spacetree, IsStored, has_cell, is_refined}
use Rattle.peano_keys.proofs.Positions.{cell_stands_in_slot}
use Rattle.peano_keys.proofs.Anchors.{home_is_stored}
use Rattle.peano_records.specs.declared.slot.Slot.{Slot}
use Rattle.peano_records.specs.declared.slot.Status.{Status}
use Rattle.peano_records.specs.declared.slot.Status.TheVariants.{Unset, Leaf, Refined}
use Rattle.peano_records.specs.declared.view.Corner.{Corner}
use Rattle.peano_records.specs.declared.view.Corner.TheVariants.{Vertex, Hanging, Beyond}
use Rattle.peano_records.specs.declared.view.CellView.{CellView}
use Rattle.peano_records.specs.Slots.{VertexRecord, blank, slot_at, with_slot}
use Rattle.peano_records.specs.AtRest.{status_of}
use Rattle.peano_records.specs.Tells.{corner_at}
use Rattle.hanging_nodes.specs.Views.{IsShown}
use Rattle.hanging_nodes.proofs.TwoGrids.{next_had, slot_tells_new}
use Rattle.step_phases.proofs.Homes.{home_below, home_stands, slot_below}
use Rattle.tree_automaton.specs.declared.kinds.Serves.TheVariants.{Adapting}
use Rattle.tree_automaton.specs.Promises.{HasKey, IsViewIn, Keeps, KnowsStep, MayEnter, SameCorner}
use Rattle.curve_cuts.specs.Cuts.{Cuts}
use Rattle.adapt_sweep.specs.Adapts.{Adapts, IsAdaptedView, corner_tells, refined_by, refined_next, value_next, written}
use Rattle.adapt_sweep.proofs.Views.{at_corner, lt_or_le, one_record, same_itself, same_record}

same_truth : (a b : Bool) → (a ≡ true → b ≡ true) → (b ≡ true → a ≡ true) → a ≡ b
same_truth true true f g = refl
same_truth true false f g = sym (f refl)
same_truth false true f g = g refl
same_truth false false f g = refl

-- a slot of a record in which one was written is as before, or it is that one
pub slot_written : (s : VertexRecord) (k j : ℕ) (x : Slot) → (slot_at (with_slot s k x) j ≡ slot_at s j) ⊎ ((j ≡ k) × (slot_at (with_slot s k x) j ≡ x))
slot_written s k j x = ⊎_elim
    (λ inside. ⊎_elim
    (λ here. inr (here, subst (λ i. slot_at (with_slot s k x) i ≡ x) (sym here) (get_or-set_same s.slots k x (blank Unset) inside)))
    (λ away. inl (get_or-set_other s.slots k j x (blank Unset) away))
    (cases_eq j k))
    (λ past. inl (ap (λ l. slot_at (record s { slots = l }) j) (set_past s.slots k x past)))
    (lt_or_le k (length s.slots))

written_same : (k : ℕ) (status : Status) (value : State) (c : Corner) → SameCorner c (written k status value c)
written_same k status value (Vertex s) = (refl, length-set s.slots k (record (slot_at s k) { status = status; value = value }))
written_same k status value (Hanging v) = refl
written_same k status value Beyond = tt

pub adapted_keeps : (dim : Dim) (v w : CellView) → IsAdaptedView dim v w → Keeps v w
adapted_keeps dim v w h = record {
  key = ap (λ (x : CellView). x.key) h.others;
  was = ap (λ (x : CellView). x.was) h.others;
  will = ap (λ (x : CellView). x.will) h.others;
  sides = ap (λ (x : CellView). x.sides) h.others;
  carried = ap (λ (x : CellView). x.carried) h.others;
  shape = h.size;
  corners_stay = λ n. ⊎_elim
      (λ below. subst (SameCorner (corner_at v n)) (sym (h.each n below)) (written_same (slot_from dim n) (status_of (refined_next dim v)) (value_next dim v) (corner_at v n)))
      (λ past. subst (SameCorner (corner_at v n)) (sym (h.past n past)) (same_itself (corner_at v n)))
      (lt_or_le n (corners dim));
}

-- a view that shows both grids tells whether its cell is refined in the new one
module _ (depth : ℕ) (old grid : Spacetree) (v : CellView) (of : IsViewIn grid.dim v) (knows : KnowsStep depth old grid v) where
  abbrev home : ℕ
  home = home_of grid.dim v.key

  home_stored : has_cell old v.key ≡ true → IsStored old (corner_of v.key home)
  home_stored there = subst (λ d. IsStored old (corner_of v.key (home_of d v.key))) knows.grids.old_dim (home_is_stored old v.key (subst (λ d. IsCell d v.key) (sym knows.grids.old_dim) of.cell) there)

  tells : has_cell old v.key ≡ true → (k : Corner) → IsShown grid.dim (Some old) grid true (corner_of v.key home) k → corner_tells (slot_from grid.dim home) k ≡ is_refined grid v.key
  tells there (Vertex s) (key, slots) = slot_tells_new old grid v.key (slot_at s (slot_from grid.dim home)) (λ refined. next_had depth grid.dim old grid v.key knows.grids refined)
      (slots.1 (home_stored there) (slot_from grid.dim home) v.key (slot_below grid.dim home) (subst (λ w. adjacent_of grid.dim w (slot_from grid.dim home) ≡ Some v.key) (sym key) (home_stands grid.dim v.key of.cell)))
  tells there (Hanging w) (key, before, after) = absurd (before (home_stored there))
  tells there Beyond shown = absurd shown

  pub tells_next : refined_next grid.dim v ≡ is_refined grid v.key
  tells_next = by (has_cell old v.key) refl
    where
      by : (b : Bool) → has_cell old v.key ≡ b → refined_next grid.dim v ≡ is_refined grid v.key
      by true there =
          let was : v.was ≡ Some (is_refined old v.key) = knows.was ∙ (rw there refl) in
          ap (λ o. refined_by grid.dim o v) was ∙ tells there (corner_at v home) (knows.shows home (home_below grid.dim v.key))
      by false away =
          let was : v.was ≡ None = knows.was ∙ (rw away refl) in
          ap (λ o. refined_by grid.dim o v) was ∙ same_truth false (is_refined grid v.key) (λ e. absurd (false≢true e)) (λ refined. sym away ∙ next_had depth grid.dim old grid v.key knows.grids refined)

-- what a visitor of adaptation sweeps may do, an adapted view does
status_tells : (b c : Bool) → b ≡ c → (status_of b ≡ Refined) ↔ (c ≡ true)
status_tells true c e = (λ _. sym e, λ _. refl)
status_tells false c e = (λ (l : Leaf ≡ Refined). absurd (apart l), λ t. absurd (false≢true (e ∙ t)))
  where
    apart : Leaf ≡ Refined → ⊥
    apart l = cc

module _ (grid : Spacetree) (v w : CellView) (of : IsViewIn grid.dim v) (h : IsAdaptedView grid.dim v w) where
  -- the record at a corner
  pub record_adapted : (n : ℕ) (s t : VertexRecord) → corner_at v n ≡ Vertex s → corner_at w n ≡ Vertex t → t ≡ with_slot s (slot_from grid.dim n) (record (slot_at s (slot_from grid.dim n)) { status = status_of (refined_next grid.dim v); value = value_next grid.dim v })
  record_adapted n s t at to =
      let below = at_corner grid.dim v n s of at in
      same_record t _ (sym to ∙ (h.each n below ∙ ap (written (slot_from grid.dim n) (status_of (refined_next grid.dim v)) (value_next grid.dim v)) at))

  abbrev pub new_slot : (n : ℕ) (s : VertexRecord) → Slot
  new_slot n s = record (slot_at s (slot_from grid.dim n)) { status = status_of (refined_next grid.dim v); value = value_next grid.dim v }

  -- each slot is as before, or it is the cell's
  pub slot_adapted : (n k : ℕ) (s t : VertexRecord) → corner_at v n ≡ Vertex s → corner_at w n ≡ Vertex t → (slot_at t k ≡ slot_at s k) ⊎ ((k ≡ slot_from grid.dim n) × (slot_at t k ≡ new_slot n s))
  slot_adapted n k s t at to = subst (λ (x : VertexRecord). (slot_at x k ≡ slot_at s k) ⊎ ((k ≡ slot_from grid.dim n) × (slot_at x k ≡ new_slot n s))) (sym (record_adapted n s t at to)) (slot_written s (slot_from grid.dim n) k (new_slot n s))

  pub adapted_may : MayEnter Adapting grid v w
  adapted_may = (
    λ n k s t at to below. ⊎_elim
        (λ same. (ap (λ (x : Slot). x.intent) same, inr (ap (λ (x : Slot). x.status) same, ap (λ (x : Slot). x.value) same)))
        (λ here. (
          ap (λ (x : Slot). x.intent) here.1 ∙ ap (λ i. (slot_at s i).intent) (sym here.0),
          inl (let inside = at_corner grid.dim v n s of at in
              subst (λ (x : ℕ). adjacent_of grid.dim s.key x ≡ Some v.key) (sym here.0) (subst (λ u. adjacent_of grid.dim u (slot_from grid.dim n) ≡ Some v.key) (sym (subst (HasKey (corner_of v.key n)) at (of.keys n inside))) (cell_stands_in_slot grid.dim v.key n of.cell inside))),
        ))
        (slot_adapted n k s t at to),
    λ depth old knows n k s t at to below own. ⊎_elim
        (λ same. inl (ap (λ (x : Slot). x.status) same))
        (λ here. inr (subst (λ (x : Slot). (x.status ≡ Refined) ↔ (is_refined grid v.key ≡ true)) (sym here.1) (status_tells (refined_next grid.dim v) (is_refined grid v.key) (tells_next depth old grid v of knows))))
        (slot_adapted n k s t at to),
  )

-- a view that is left as it is
pub same_may : (grid : Spacetree) (v : CellView) → MayEnter Adapting grid v v
same_may grid v = (
  λ n k s t at to below. let e = one_record (corner_at v n) s t at to in (ap (λ (r : VertexRecord). (slot_at r k).intent) e, inr (ap (λ (r : VertexRecord). (slot_at r k).status) e, ap (λ (r : VertexRecord). (slot_at r k).value) e)),
  λ depth old knows n k s t at to below own. let e = one_record (corner_at v n) s t at to in inl (ap (λ (r : VertexRecord). (slot_at r k).status) e),
)

-- so a visitor that writes to the tree's own cells alone does what it may
pub adapts_may : (k : Cuts) (t : ℕ) (grid : Spacetree) (v w : CellView) → grid.dim ≡ k.dim → IsViewIn grid.dim v → Adapts k t v w → MayEnter Adapting grid v w
adapts_may k t grid v w dim of (inl own) = adapted_may grid v w of (subst (λ d. IsAdaptedView d v w) (sym dim) own.1)
adapts_may k t grid v w dim of (inr guest) = subst (MayEnter Adapting grid v) (sym guest.1) (same_may grid v)
