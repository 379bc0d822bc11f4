-- What a primary sweep makes of the slots of cells.
use Rattle.std.proofs.Common.{◌≡◌, ◌↔◌, ℕ, ◌<◌, Bool, true, false, List, [], Some, map, refl, ap, sym, ◌∙◌, subst, ⊎_elim}
use Rattle.peano_keys.specs.declared.cell.CellKey.{CellKey}
use Rattle.std.specs.Prelude.{IsFalse}
use Rattle.std.proofs.lemmas.Bool.{false≢true}
use Rattle.peano_keys.specs.Dim.{corners}
use Rattle.peano_keys.specs.Cell.{IsCell}
use Rattle.peano_keys.specs.Vertex.{corner_of}
use Rattle.peano_keys.specs.Grid.{Spacetree, has_cell, is_leaf}
use Rattle.peano_keys.specs.Field.{sides_of, value_of}
use Rattle.peano_records.specs.declared.slot.Slot.{Slot}
use Rattle.peano_records.specs.declared.stored.Stored.{Stored}
use Rattle.peano_records.specs.declared.view.CellView.{CellView}
use Rattle.peano_records.specs.declared.view.Corner.TheVariants.{Vertex}
use Rattle.peano_records.specs.Tells.{corner_at}
use Rattle.curve_cuts.specs.Cuts.{Cuts, IsCutGrid, Owns}
use Rattle.curve_cuts.specs.Enclave.{OwnsLeaf, IsSkeleton}
use Rattle.curve_cuts.specs.Keys.{cuts_of}
use Rattle.solver_api.specs.Step.{new_state}
use Rattle.spacetree.specs.Fields.{IsFieldOn}
use Rattle.sweep_visits.specs.Plan.{IsSweepPlan, dim_of}
use Rattle.sweep_visits.specs.Visits.{visits_of}
use Rattle.sweep_streams.specs.Records.{IsHeldCell, in_grids}
use Rattle.vertex_stacks.specs.declared.tale.Tale.{Tale}
use Rattle.tree_automaton.specs.declared.kinds.Serves.TheVariants.{Plain}
use Rattle.tree_automaton.specs.Sweep.{TreeSweep}
use Rattle.tree_automaton.specs.Story.{Call, Story, IsAmong}
use Rattle.tree_automaton.specs.Sweeps.{AllCallsFit, Chain, begun, visit_of}
use Rattle.tree_automaton.specs.Views.{CornerFits, KnowsField, ViewFits, value_at_home}
use Rattle.tree_automaton.proofs.Collects.{each_call}
use Rattle.step_phases.specs.Change.{Change}
use Rattle.step_phases.specs.Sweeps.{PrimaryChanges}
use Rattle.swept_slots.specs.Changes.{ChangesOneCell, EachVisitChanges}
use Rattle.swept_slots.proofs.Views.{one_record}
use Rattle.swept_slots.proofs.Visited.{cell_held, told as story}
use Rattle.step_sweeps.specs.declared.told.Told.{Told}
use Rattle.step_sweeps.specs.Told.{told_slot, told_record, IsTold}
use Rattle.step_sweeps.specs.Enclaves.{DecidesEnclave}
use Rattle.step_sweeps.specs.Kernels.{Kernel, IsChangeBy, new_in}
use Rattle.step_sweeps.specs.Primaries.{PrimaryWork, Computes, PrimaryEnters, PrimaryLeaves, leaf_told, mark_told}
use Rattle.step_sweeps.proofs.OwnSlots.{record_told, told_changes, changes_less, changes_none}
use Rattle.step_sweeps.proofs.Plain.{view_fits, leaf_shown, leaf_seen, home_shows, there_in, decides_skeleton}
use Rattle.step_sweeps.proofs.Primaries.{Did, Same, did, computes, is_new, told_change, marked_change, passed_change}

-- a sweep of the primary visitor over a grid and a field
module _ {S : Type 0} (kernel : S → Kernel) (start end : PrimaryWork S) (p : TreeSweep) (serves : p.serves ≡ Plain) (one : p.plan.old ≡ Some p.plan.new) (is_plan : IsSweepPlan p.plan)
    (first : List Stored) (tale : Tale) (calls : List Call) (visits_are : map visit_of calls ≡ visits_of p.plan) (fit : AllCallsFit (begun p first tale) calls) (chain : Chain (PrimaryEnters kernel) (PrimaryLeaves kernel) calls start end) where
  abbrev pub made_with : Kernel
  made_with = kernel start.solver

  abbrev pub cuts : Cuts
  cuts = cuts_of start.keys

  abbrev told : Story
  told = story p is_plan first tale calls visits_are fit

  pub each_did : (call : Call) → IsAmong call calls → Did made_with cuts start.tree call.visit call.given call.made
  each_did = each_call (PrimaryEnters kernel) (PrimaryLeaves kernel) (begun p first tale) (Same kernel start) (λ call. Did made_with cuts start.tree call.visit call.given call.made) (λ so_far call a b same fits stands. did kernel start a b call.visit call.given call.made same stands) [] calls start end fit chain refl

  -- each cell is one of the grid
  pub there : (c : CellKey) → IsHeldCell p.plan (in_grids p.plan) c → has_cell p.plan.new c ≡ true
  there c held = there_in p.plan.old p.plan.new c one held.passes

  module _ (w : Change) (change : IsChangeBy made_with p.plan.new p.field w) (dim : dim_of p.plan ≡ cuts.dim) (fits : IsCutGrid cuts p.plan.new) (field : IsFieldOn made_with.parts p.plan.new p.field) where
    as_old : Spacetree → Type 0
    as_old g = (c : CellKey) (v : CellView) → ViewFits p c v → IsCell g.dim c → has_cell g c ≡ true → (value_at_home cuts.dim v ≡ value_of g p.field c) × (v.sides ≡ sides_of g p.field c) × (v.was ≡ Some false → is_leaf g c ≡ true) × (is_leaf g c ≡ true → v.was ≡ Some false)

    known : as_old p.plan.new
    unfolding as_old
    known c v view cell here = (
      subst (λ d. value_at_home d v ≡ value_of p.plan.new p.field c) dim (home_shows p serves one c v view cell here),
      (subst (λ s. KnowsField s p c v) serves view.view.field).0,
      leaf_shown p serves one c v view,
      leaf_seen p serves one c v view,
    )

    known_old : as_old w.old
    known_old = subst as_old (sym change.old) known

    change_old : IsChangeBy made_with w.old p.field w
    change_old = subst (λ g. IsChangeBy made_with g p.field w) (sym change.old) change

    fits_old : IsCutGrid cuts w.old
    fits_old = subst (IsCutGrid cuts) (sym change.old) fits

    field_old : IsFieldOn made_with.parts w.old p.field
    field_old = subst (λ g. IsFieldOn made_with.parts g p.field) (sym change.old) field

    abbrev Changed : CellKey → Slot → Slot → Type 0
    Changed c x y = PrimaryChanges cuts w start.tree c x y

    -- a view that decides for an enclave is of no skeleton leaf
    enclave_apart : (c : CellKey) (v : CellView) → ViewFits p c v → DecidesEnclave cuts start.tree v true → IsSkeleton cuts w.old start.tree c → ⊥
    enclave_apart c v view decides skeleton =
        let here : IsSkeleton cuts p.plan.new start.tree c = subst (λ g. IsSkeleton cuts g start.tree c) change.old skeleton in
        false≢true (sym ((decides_skeleton p serves one c v view cuts start.tree fits.dim here.0 true decides).1 here))

    -- what is told of a cell at a corner
    told_in : (c : CellKey) (n : ℕ) (s u : Stored) (v m : CellView) (what : Told) → n < corners (dim_of p.plan) → IsCell (dim_of p.plan) c → CornerFits p (corner_of c n) (Vertex s) → corner_at v n ≡ Vertex s → corner_at m n ≡ Vertex u → IsTold cuts.dim what v m →
        ((x y : Slot) → y ≡ told_slot what x → Changed c x y) → ChangesOneCell (dim_of p.plan) c (Changed c) s u
    told_in c n s u v m what low cell corner at to told changes =
        let told_here : IsTold (dim_of p.plan) what v m = subst (λ d. IsTold d what v m) (sym dim) told in
        let is : u ≡ told_record (dim_of p.plan) what n s = record_told (dim_of p.plan) what v m told_here n s u low at to in
        subst (ChangesOneCell (dim_of p.plan) c (Changed c) s) (sym is) (changes_less (dim_of p.plan) c (λ x y. y ≡ told_slot what x) (Changed c) s (told_record (dim_of p.plan) what n s) changes
        (told_changes (dim_of p.plan) what c n s cell low corner.0 corner.1.eight))

    -- the two calls at a cell
    pub each_visit : EachVisitChanges told Changed
    unfolding as_old
    each_visit c n s u low changed =
        let e : Call = changed.entering in
        let held = cell_held p is_plan first tale calls visits_are fit c n s u low changed in
        let view : ViewFits p c e.given = view_fits p serves one c e.given changed.view in
        let corner : CornerFits p (corner_of c n) (Vertex s) = subst (CornerFits p (corner_of c n)) changed.given (view.each n low) in
        let cell : IsCell w.old.dim c = subst (λ (g : Spacetree). IsCell g.dim c) (sym change.old) held.cell in
        let here : has_cell w.old c ≡ true = subst (λ g. has_cell g c ≡ true) (sym change.old) (there c held) in
        let shown = known_old c e.given view cell here in
        let kept : u ≡ changed.between = one_record (corner_at changed.leaving.made n) changed.between u (ap (λ (v : CellView). corner_at v n) (subst (λ v. Did made_with cuts start.tree v changed.leaving.given changed.leaving.made) changed.leaves (each_did changed.leaving changed.leaving_among) ∙ changed.same) ∙ changed.kept) changed.made in
        subst (ChangesOneCell (dim_of p.plan) c (Changed c) s) (sym kept) (⊎_elim
        (λ h. told_in c n s changed.between e.given (record e.made { task = e.given.task }) (mark_told made_with cuts.dim e.given) low held.cell corner changed.given changed.kept h.2
        (marked_change made_with cuts start.tree w p.field change_old fits_old field_old c e.given view.view.key shown.1 (λ _. shown.0) shown.2 shown.3 cell
        (λ skeleton. enclave_apart c e.given view h.1 skeleton)))
        (λ other. ⊎_elim
        (λ h. told_in c n s changed.between e.given e.made (leaf_told made_with cuts.dim e.given) low held.cell corner changed.given changed.kept h.2
        (told_change made_with cuts start.tree w p.field change_old fits_old field_old c e.given view.view.key shown.1 (λ _. shown.0) shown.2 shown.3 cell h.0))
        (λ h. changes_none (dim_of p.plan) c (Changed c) s changed.between (one_record (corner_at e.made n) s changed.between (ap (λ (v : CellView). corner_at v n) h.1 ∙ changed.given) changed.kept)
        (passed_change made_with cuts start.tree w p.field change_old fits_old field_old c e.given view.view.key shown.1 (λ _. shown.0) shown.2 shown.3 cell h.0 here))
        other)
        (subst (λ v. Did made_with cuts start.tree v e.given e.made) changed.enters (each_did e changed.entering_among)))

    -- what is known of a leaf as it is entered
    pub record IsKnownLeaf (c : CellKey) (v : CellView) : Type 0 where
      pub leaf : v.was ≡ Some false → is_leaf w.old c ≡ true
      pub new : is_leaf w.old c ≡ true → new_in made_with cuts.dim v ≡ new_state made_with.updated w.old p.field c
      pub computed : Owns cuts start.tree c → is_leaf w.old c ≡ true → Computes made_with cuts start.tree v
      pub kind : (b : Bool) → DecidesEnclave cuts start.tree v b → OwnsLeaf cuts p.plan.new start.tree c → IsFalse b ↔ IsSkeleton cuts p.plan.new start.tree c

    pub known_leaf : (c : CellKey) (v : CellView) → IsHeldCell p.plan (in_grids p.plan) c → ViewFits p c v → IsKnownLeaf c v
    unfolding as_old
    known_leaf c v held view =
        let cell : IsCell w.old.dim c = subst (λ (g : Spacetree). IsCell g.dim c) (sym change.old) held.cell in
        let here : has_cell w.old c ≡ true = subst (λ g. has_cell g c ≡ true) (sym change.old) (there c held) in
        let shown = known_old c v view cell here in
        record {
          leaf = shown.2;
          new = is_new made_with cuts start.tree w p.field change_old fits_old field_old c v view.view.key shown.1 (λ _. shown.0) shown.2 shown.3 cell;
          computed = λ owns leaf. computes made_with cuts start.tree w p.field change_old fits_old field_old c v view.view.key shown.1 (λ _. shown.0) shown.2 shown.3 cell owns leaf here;
          kind = λ b decides owns. decides_skeleton p serves one c v view cuts start.tree fits.dim owns b decides;
        }
