-- What an adapting visitor finds at the home corners of cells: what stood there before the sweep.
use Rattle.std.proofs.Common.{◌≡◌, ℕ, ◌<◌, ◌==◌, Bool, true, false, List, ◌∷◌, ◌++◌, Some, None, map, length, refl, ap, sym, ◌∙◌, subst, inl, inr, arith, append_assoc}
use Rattle.std.proofs.lemmas.List.{get_or-set_same}
use Rattle.std.proofs.lemmas.Bool.{false≢true}
use Rattle.std.proofs.lemmas.Bool.Decides.{nat_tests}
use Rattle.peano_keys.specs.declared.dim.Dim.{Dim}
use Rattle.peano_keys.specs.declared.cell.CellKey.{CellKey}
use Rattle.peano_keys.specs.Cell.{IsCell, parent_of}
use Rattle.peano_keys.specs.Vertex.{IsVertex, corner_of, home_of, slot_from}
use Rattle.peano_keys.specs.Grid.{Spacetree, IsStored, has_cell, is_refined}
use Rattle.peano_keys.proofs.Anchors.{home_is_stored}
use Rattle.stack_law.specs.Stack.{AreDistinct}
use Rattle.peano_records.specs.declared.slot.Slot.{Slot}
use Rattle.peano_records.specs.declared.slot.Status.TheVariants.{Unset}
use Rattle.peano_records.specs.declared.stored.Stored.{Stored}
use Rattle.peano_records.specs.declared.view.Corner.{Corner}
use Rattle.peano_records.specs.declared.view.Corner.TheVariants.{Vertex, Hanging, Beyond}
use Rattle.peano_records.specs.declared.view.CellView.{CellView}
use Rattle.peano_records.specs.Slots.{blank, slot_at}
use Rattle.peano_records.specs.AtRest.{status_of}
use Rattle.peano_records.specs.Tells.{corner_at, slot_tells}
use Rattle.peano_records.proofs.Intents.{below_eight}
use Rattle.hanging_nodes.specs.Views.{AreOldAndNew, IsStoredBefore}
use Rattle.hanging_nodes.proofs.OneGrid.{there_by_parent}
use Rattle.hanging_nodes.proofs.TwoGrids.{next_had}
use Rattle.curve_cuts.specs.Cuts.{Cuts}
use Rattle.vertex_stacks.specs.declared.tale.Tale.{Tale}
use Rattle.sweep_visits.specs.Plan.{IsSweepPlan, dim_of, is_stored_in}
use Rattle.sweep_visits.specs.Visits.{enter, visits_of}
use Rattle.sweep_visits.specs.Moves.{same_vertex}
use Rattle.sweep_visits.proofs.Tests.{stored_told}
use Rattle.step_phases.specs.Stores.{Store, home_slot}
use Rattle.step_phases.proofs.Homes.{corner_is_vertex, home_below, slot_below}
use Rattle.tree_automaton.specs.Sweep.{TreeSweep, flag_in}
use Rattle.tree_automaton.specs.Story.{Call, Story, IsAmong, with_calls}
use Rattle.tree_automaton.specs.Sweeps.{AllCallsFit, CallFits, IsEntered, WasEntered, begun, key_of, visit_of}
use Rattle.tree_automaton.specs.Views.{CornerGiven, ViewGiven, value_at_home, value_in}
use Rattle.tree_automaton.proofs.Journeys.{fits_at}
use Rattle.swept_slots.specs.Changes.{EachVisitChanges}
use Rattle.swept_slots.specs.Copies.{copies}
use Rattle.swept_slots.proofs.Visited.{told}
use Rattle.adapt_sweep.specs.Adapts.{Adapts, IsAdaptedView, corner_tells, refined_by, refined_next, value_by, value_next, written}
use Rattle.adapt_sweep.proofs.Arrived.{arrived}
use Rattle.adapt_sweep.proofs.Calls.{given_eight}

-- the value in a corner's slot, after it was written
written_value : (d : Dim) (n : ℕ) (status : _) (value : _) (s : Stored) → length s.slots ≡ 8 → value_in d n (written (slot_from d n) status value (Vertex s)) ≡ value
written_value d n status value s eight = ap (λ (x : Slot). x.value) (get_or-set_same s.slots (slot_from d n) (record (slot_at s (slot_from d n)) { status = status; value = value }) (blank Unset) (let l = below_eight d (slot_from d n) (slot_below d n) in omega (arith, eight, l)))

module _ (p : TreeSweep) (is_plan : IsSweepPlan p.plan) (start : List Stored) (tale : Tale) (calls : List Call) (visits_are : map visit_of calls ≡ visits_of p.plan) (fit : AllCallsFit (begun p start tale) calls)
    (distinct : AreDistinct same_vertex (map key_of start))
    (only : EachVisitChanges (told p is_plan start tale calls visits_are fit) (λ c s u. Unit {0}))
    (old new : Spacetree) (is_old : p.plan.old ≡ Some old) (is_new : p.plan.new ≡ new) (old_dim : old.dim ≡ dim_of p.plan) where
  abbrev d : Dim
  d = dim_of p.plan

  abbrev before : Store
  before = copies start

  -- at the enter of a cell of the old grid
  module _ (c : CellKey) (cell : IsCell d c) (there : has_cell old c ≡ true) (call : Call) (among : IsAmong call calls) (visit : call.visit ≡ enter c) (view : ViewGiven p c call.given) where
    abbrev home : ℕ
    home = home_of d c

    stored : IsStored old (corner_of c home)
    stored = subst (λ x. IsStored old (corner_of c (home_of x c))) old_dim (home_is_stored old c (subst (λ x. IsCell x c) (sym old_dim) cell) there)

    is_there : is_stored_in p.plan.old (corner_of c home) ≡ true
    is_there = subst (λ o. is_stored_in o (corner_of c home) ≡ true) (sym is_old) (stored_told old (corner_of c home) (subst (λ x. IsVertex x (corner_of c home)) (sym old_dim) (corner_is_vertex d c home (home_below d c) cell)) stored)

    found : (s : Stored) × (corner_at call.given home ≡ Vertex s)
    found = by (corner_at call.given home) refl
      where
        by : (k : Corner) → corner_at call.given home ≡ k → (s : Stored) × (corner_at call.given home ≡ Vertex s)
        by (Vertex s) e = (s, e)
        by (Hanging v) e = absurd ((subst (CornerGiven p (corner_of c home)) e (view.each home (home_below d c))).1 (subst (λ o. IsStoredBefore o (corner_of c home)) (sym is_old) stored))
        by Beyond e = absurd (subst (CornerGiven p (corner_of c home)) e (view.each home (home_below d c)))

    eight : length found.0.slots ≡ 8
    eight = given_eight p (corner_of c home) found.0 (subst (CornerGiven p (corner_of c home)) found.1 (view.each home (home_below d c)))

    -- its slot there is as it was before the sweep
    as_before : slot_at found.0 (slot_from d home) ≡ home_slot d before c
    as_before = arrived p is_plan start tale calls visits_are fit distinct (λ x s u. Unit {0}) only c home cell (home_below d c) is_there call among visit found.0 found.1

    own_key : call.given.key ≡ c
    own_key = view.view.key

    was_here : call.given.was ≡ Some (is_refined old c)
    was_here = view.view.was ∙ (ap (λ o. flag_in o c) is_old ∙ (rw there refl))

    pub tells_here : refined_next d call.given ≡ slot_tells true (home_slot d before c)
    tells_here = ap (λ o. refined_by d o call.given) was_here ∙ (ap (λ q. corner_tells (slot_from d (home_of d q)) (corner_at call.given (home_of d q))) own_key ∙ (ap (corner_tells (slot_from d home)) found.1 ∙ ap (slot_tells true) as_before))

    pub value_here : value_next d call.given ≡ (home_slot d before c).value
    value_here = ap (λ o. value_by d o call.given) was_here ∙ (ap (λ q. value_in d (home_of d q) (corner_at call.given (home_of d q))) own_key ∙ (ap (value_in d home) found.1 ∙ ap (λ (x : Slot). x.value) as_before))

    -- and the value stays when the cell is adapted
    pub value_made : (k : Cuts) (t : ℕ) → k.dim ≡ d → Adapts k t call.given call.made → value_at_home d call.made ≡ (home_slot d before c).value
    value_made k t dim (inr guest) = ap (value_at_home d) guest.1 ∙ (ap (λ o. value_by d o call.given) (sym was_here) ∙ value_here)
    value_made k t dim (inl own) =
        let adapted : IsAdaptedView d call.given call.made = subst (λ x. IsAdaptedView x call.given call.made) dim own.1 in
        let key : call.made.key ≡ c = ap (λ (x : CellView). x.key) adapted.others ∙ own_key in
        ap (λ q. value_in d (home_of d q) (corner_at call.made (home_of d q))) key
        ∙ (ap (value_in d home) (adapted.each home (home_below d c) ∙ ap (written (slot_from d home) (status_of (refined_next d call.given)) (value_next d call.given)) found.1)
        ∙ (written_value d home (status_of (refined_next d call.given)) (value_next d call.given) found.0 eight ∙ value_here))

  -- at the enter of a cell of the new grid alone
  module _ (depth : ℕ) (step : AreOldAndNew depth d old new) (grid : (q : CellKey) → is_refined new q ≡ true → IsCell d q) (c : CellKey) (away : has_cell old c ≡ false) (there : has_cell new c ≡ true) (call : Call) (among : IsAmong call calls) (visit : call.visit ≡ enter c)
      (k : Cuts) (t : ℕ) (dim : k.dim ≡ d) (each : (q : CellKey) (x : Call) → IsAmong x calls → x.visit ≡ enter q → Adapts k t x.given x.made) where
    so_far : Story
    so_far = with_calls (begun p start tale) among.before

    below_root : 0 < c.level
    below_root = by (c.level == 0) refl
      where
        by : (b : Bool) → (c.level == 0) ≡ b → 0 < c.level
        by true e = absurd (false≢true (sym away ∙ first_of e))
          where
            first_of : (c.level == 0) ≡ true → has_cell old c ≡ true
            first_of e = rw e refl
        by false e = grind (arith, nat_tests, e)

    opened : is_refined new (parent_of c) ≡ true
    opened = sym (there_by_parent new c below_root) ∙ there

    entered : IsEntered so_far c call.given call.made
    unfolding so_far
    entered = subst (λ v. CallFits so_far v call.given call.made) visit (fits_at (begun p start tale) among.before call among.after (subst (AllCallsFit (begun p start tale)) among.place fit))

    was_none : call.given.was ≡ None
    unfolding so_far
    was_none = entered.view.view.was ∙ (ap (λ o. flag_in o c) is_old ∙ (rw away refl))

    pub tells_none : refined_next d call.given ≡ false
    tells_none = ap (λ o. refined_by d o call.given) was_none

    carries : (parent : CellView) × WasEntered so_far (parent_of c) parent × (call.given.carried ≡ value_at_home d parent)
    unfolding so_far
    carries = entered.carries below_root

    pub value_above : value_next d call.given ≡ (home_slot d before (parent_of c)).value
    unfolding so_far
    value_above =
        let was : WasEntered so_far (parent_of c) carries.0 = carries.1 in
        let rest = was.among.after ++ call ∷ among.after in
        let place : calls ≡ was.among.before ++ was.call ∷ rest = among.place ∙ (ap (λ l. l ++ call ∷ among.after) was.among.place ∙ append_assoc was.among.before (was.call ∷ was.among.after) (call ∷ among.after)) in
        let above : IsAmong was.call calls = record { before = was.among.before; after = rest; place = place } in
        let fits : IsEntered (with_calls (begun p start tale) was.among.before) (parent_of c) was.call.given was.call.made = subst (λ v. CallFits (with_calls (begun p start tale) was.among.before) v was.call.given was.call.made) was.visit (fits_at (begun p start tale) was.among.before was.call rest (subst (AllCallsFit (begun p start tale)) place fit)) in
        ap (λ o. value_by d o call.given) was_none
        ∙ (carries.2 ∙ (ap (value_at_home d) was.same ∙ value_made (parent_of c) (grid (parent_of c) opened) (next_had depth d old new (parent_of c) step opened) was.call above was.visit fits.view k t dim (each (parent_of c) was.call above was.visit)))
