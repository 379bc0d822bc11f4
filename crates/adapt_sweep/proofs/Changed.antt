-- What the calls of an adapting visitor change in the slots of each cell.
use Rattle.std.proofs.Common.{◌≡◌, ◌⊎◌, ℕ, ◌<◌, ◌≤◌, Bool, true, false, List, Some, if◌then◌else◌, map, refl, ap, sym, ◌∙◌, subst, inl, inr, ⊎_elim}
use Rattle.std.specs.Prelude.{◌||◌}
use Rattle.std.proofs.lemmas.Bool.{false≢true}
use Rattle.peano_records.specs.Tells.{slot_tells}
use Rattle.peano_keys.specs.declared.dim.Dim.{Dim}
use Rattle.peano_keys.specs.declared.cell.CellKey.{CellKey}
use Rattle.peano_keys.specs.Dim.{corners}
use Rattle.peano_keys.specs.Cell.{IsCell, parent_of}
use Rattle.peano_keys.specs.Vertex.{slot_from}
use Rattle.peano_keys.specs.Grid.{has_cell, is_refined}
use Rattle.stack_law.specs.Stack.{AreDistinct}
use Rattle.peano_records.specs.declared.slot.Slot.{Slot}
use Rattle.peano_records.specs.declared.stored.Stored.{Stored}
use Rattle.peano_records.specs.declared.view.CellView.{CellView}
use Rattle.peano_records.specs.Slots.{slot_at}
use Rattle.peano_records.specs.AtRest.{status_of}
use Rattle.hanging_nodes.specs.Views.{AreOldAndNew}
use Rattle.curve_cuts.specs.Cuts.{Cuts, IsCutGrid, Owns}
use Rattle.vertex_stacks.specs.declared.tale.Tale.{Tale}
use Rattle.sweep_visits.specs.Plan.{IsSweepPlan, dim_of, is_cell_in}
use Rattle.sweep_visits.specs.Visits.{enter, visits_of}
use Rattle.sweep_visits.specs.Moves.{same_vertex}
use Rattle.sweep_streams.specs.Records.{IsHeldCell, in_grids}
use Rattle.step_phases.specs.Stores.{home_slot}
use Rattle.step_phases.specs.Change.{Change}
use Rattle.step_phases.specs.Sweeps.{AdaptChanges}
use Rattle.step_phases.proofs.Grids.{level_in, or_true}
use Rattle.tree_automaton.specs.Sweep.{TreeSweep}
use Rattle.tree_automaton.specs.Story.{Call, IsAmong}
use Rattle.tree_automaton.specs.Sweeps.{AllCallsFit, Chain, begun, key_of, visit_of}
use Rattle.tree_automaton.specs.Journeys.{CellChanged}
use Rattle.swept_slots.specs.Changes.{EachVisitChanges, IsSweepOf}
use Rattle.swept_slots.specs.Copies.{copies}
use Rattle.swept_slots.proofs.Visited.{cell_held, told}
use Rattle.adapt_sweep.specs.Own.{IsOwn}
use Rattle.adapt_sweep.specs.Adapts.{Adapts, refined_next, value_next}
use Rattle.adapt_sweep.proofs.Calls.{at_enter, at_leave, intent_stays, one_cell, own_slot, wrote, Wrote}
use Rattle.adapt_sweep.proofs.Found.{tells_here, tells_none, value_above, value_here}

module _ {A : Type 0} (entered left : A → CellView → CellView → A → Type 0) (r b : A) (k : Cuts) (t : ℕ)
    (enters : (x y : A) (v w : CellView) → x ≡ r → entered x v w y → (y ≡ r) × Adapts k t v w)
    (leaves : (x y : A) (v w : CellView) → x ≡ r → left x v w y → (y ≡ r) × (w ≡ v))
    (p : TreeSweep) (is_plan : IsSweepPlan p.plan) (start : List Stored) (tale : Tale) (calls : List Call) (visits_are : map visit_of calls ≡ visits_of p.plan) (fit : AllCallsFit (begun p start tale) calls) (chain : Chain entered left calls r b)
    (distinct : AreDistinct same_vertex (map key_of start)) (w : Change) (of : IsSweepOf k t p.plan) (is_old : p.plan.old ≡ Some w.old) (is_new : p.plan.new ≡ w.new) (old_cut : IsCutGrid k w.old) (new_cut : IsCutGrid k w.new) (step : AreOldAndNew k.depth k.dim w.old w.new) where
  abbrev d : Dim
  d = dim_of p.plan

  each_enter : (q : CellKey) (x : Call) → IsAmong x calls → x.visit ≡ enter q → Adapts k t x.given x.made
  each_enter = at_enter entered left r b k t enters leaves p start tale calls fit chain

  old_dim : w.old.dim ≡ d
  old_dim = old_cut.dim ∙ sym of.dim

  module _ (c : CellKey) (n : ℕ) (s u : Stored) (below : n < corners d) (visit : CellChanged (told p is_plan start tale calls visits_are fit) c n s u) where
    held : IsHeldCell p.plan (in_grids p.plan) c
    held = cell_held p is_plan start tale calls visits_are fit c n s u below visit

    did : Adapts k t visit.entering.given visit.entering.made
    did = each_enter c visit.entering visit.entering_among visit.enters

    left_as : visit.leaving.made ≡ visit.leaving.given
    left_as = at_leave entered left r b k t enters leaves p start tale calls fit chain c visit.leaving visit.leaving_among visit.leaves

    there : (has_cell w.old c ≡ true) ⊎ (has_cell w.new c ≡ true)
    there = or_true (has_cell w.old c) (has_cell w.new c) (subst (λ g. (has_cell w.old c || has_cell g c) ≡ true) is_new (subst (λ o. (is_cell_in o c || has_cell p.plan.new c) ≡ true) is_old held.passes))

    level : c.level ≤ k.depth
    level = ⊎_elim (λ h. level_in k w.old c old_cut h) (λ h. level_in k w.new c new_cut h) there

    owned : Owns k t c → IsOwn k t visit.entering.given.key
    owned owns = subst (IsOwn k t) (sym visit.view.view.key) (record { level = level; owns = owns })

  -- nothing but the cell's own slot is changed
  only : EachVisitChanges (told p is_plan start tale calls visits_are fit) (λ c s u. Unit {0})
  only c n s u below visit = one_cell k t (told p is_plan start tale calls visits_are fit) of.dim c n s u (held c n s u below visit).cell below visit (did c n s u below visit) (left_as c n s u below visit) (λ x y. Unit {0}) tt

  module _ (c : CellKey) (n : ℕ) (s u : Stored) (below : n < corners d) (visit : CellChanged (told p is_plan start tale calls visits_are fit) c n s u) where
    cell : IsCell d c
    cell = (held c n s u below visit).cell

    -- what the visitor found, by what stood there before: of a cell that the old grid has, and of one that it lacks
    abbrev Finds : Bool → Type 0
    Finds had = (refined_next d visit.entering.given ≡ (if had then slot_tells true (home_slot k.dim (copies start) c) else false)) × (value_next d visit.entering.given ≡ (home_slot k.dim (copies start) (if had then c else parent_of c)).value)

    found : Finds (has_cell w.old c)
    found = by (has_cell w.old c) refl
      where
        by : (a : Bool) → has_cell w.old c ≡ a → Finds (has_cell w.old c)
        by true is = subst Finds (sym is) (subst (λ x. (refined_next d visit.entering.given ≡ slot_tells true (home_slot x (copies start) c)) × (value_next d visit.entering.given ≡ (home_slot x (copies start) c).value)) of.dim (
          tells_here p is_plan start tale calls visits_are fit distinct only w.old w.new is_old is_new old_dim c cell is visit.entering visit.entering_among visit.enters visit.view,
          value_here p is_plan start tale calls visits_are fit distinct only w.old w.new is_old is_new old_dim c cell is visit.entering visit.entering_among visit.enters visit.view,
        ))
        by false is =
            let has : has_cell w.new c ≡ true = ⊎_elim (λ h. absurd (false≢true (sym is ∙ h))) (λ h. h) (there c n s u below visit) in
            let grid : (q : CellKey) → is_refined w.new q ≡ true → IsCell d q = λ q refined. subst (λ x. IsCell x q) (new_cut.dim ∙ sym of.dim) (new_cut.grid.cells q refined) in
            let step_here : AreOldAndNew k.depth d w.old w.new = subst (λ x. AreOldAndNew k.depth x w.old w.new) (sym of.dim) step in
            subst Finds (sym is) (subst (λ x. (refined_next d visit.entering.given ≡ false) × (value_next d visit.entering.given ≡ (home_slot x (copies start) (parent_of c)).value)) of.dim (
              tells_none p is_plan start tale calls visits_are fit distinct only w.old w.new is_old is_new old_dim k.depth step_here grid c is has visit.entering visit.entering_among visit.enters k t (sym of.dim) each_enter,
              value_above p is_plan start tale calls visits_are fit distinct only w.old w.new is_old is_new old_dim k.depth step_here grid c is has visit.entering visit.entering_among visit.enters k t (sym of.dim) each_enter,
            ))

    changes : AdaptChanges k w (copies start) t c (slot_at s (slot_from d n)) (slot_at u (slot_from d n))
    changes = by (wrote k t (told p is_plan start tale calls visits_are fit) of.dim c n s u cell below visit (did c n s u below visit) (left_as c n s u below visit))
      where
        intent : (slot_at u (slot_from d n)).intent ≡ (slot_at s (slot_from d n)).intent
        intent = intent_stays k t (told p is_plan start tale calls visits_are fit) of.dim c n s u cell below visit (did c n s u below visit) (left_as c n s u below visit)

        by : Wrote k t (told p is_plan start tale calls visits_are fit) of.dim c n s u cell below visit (did c n s u below visit) (left_as c n s u below visit) → AdaptChanges k w (copies start) t c (slot_at s (slot_from d n)) (slot_at u (slot_from d n))
        by (inl own) =
            let here = own_slot k t (told p is_plan start tale calls visits_are fit) of.dim c n s u cell below visit (did c n s u below visit) (left_as c n s u below visit) own.1 in
            record {
              intent = intent;
              status = λ owns. ap (λ (x : Slot). x.status) here ∙ ap status_of found.0;
              value = λ owns. ap (λ (x : Slot). x.value) here ∙ found.1;
            }
        by (inr guest) = record { intent = intent; status = λ owns. absurd (guest.0 (owned c n s u below visit owns)); value = λ owns. absurd (guest.0 (owned c n s u below visit owns)) }

  -- the two calls at a cell change its slot as an adaptation does, and no other slot
  pub each_adapts : EachVisitChanges (told p is_plan start tale calls visits_are fit) (AdaptChanges k w (copies start) t)
  each_adapts c n s u below visit = one_cell k t (told p is_plan start tale calls visits_are fit) of.dim c n s u (held c n s u below visit).cell below visit (did c n s u below visit) (left_as c n s u below visit) (AdaptChanges k w (copies start) t c) (changes c n s u below visit)
