-- What the calls of the primary visitor do to the slots of cells.
use Rattle.std.proofs.Common.{◌≡◌, ◌⊎◌, ℕ, ◌≤◌, true, false, Option, Some, refl, ap, ap₂, sym, ◌∙◌, subst, inl, inr}
use Rattle.std.specs.Prelude.{unwrap_or}
use Rattle.peano_keys.specs.declared.cell.CellKey.{CellKey}
use Rattle.peano_keys.specs.Cell.{IsCell}
use Rattle.peano_keys.specs.Grid.{has_cell, is_leaf}
use Rattle.peano_keys.specs.Field.{States, state_at, sides_of, value_of}
use Rattle.peano_records.specs.declared.slot.Slot.{Slot}
use Rattle.peano_records.specs.declared.view.CellView.{CellView}
use Rattle.curve_cuts.specs.Cuts.{Cuts, IsCutGrid, Owns}
use Rattle.curve_cuts.specs.Enclave.{IsSkeleton}
use Rattle.curve_cuts.specs.Keys.{cuts_of}
use Rattle.solver_api.specs.Parts.{HaveParts}
use Rattle.solver_api.specs.Step.{IsLeafOf, new_state}
use Rattle.spacetree.specs.Fields.{IsFieldOn}
use Rattle.sweep_visits.specs.Visits.{Visit, enter, leave}
use Rattle.tree_automaton.specs.Sweeps.{Stands}
use Rattle.tree_automaton.specs.Views.{value_at_home}
use Rattle.step_phases.specs.Change.{Change}
use Rattle.step_phases.specs.Sweeps.{PrimaryChanges}
use Rattle.step_phases.proofs.Grids.{level_in}
use Rattle.step_values.proofs.Values.{value_shows_leaves}
use Rattle.step_world.proofs.Parts.{leaf_has}
use Rattle.step_world.proofs.Worlds.{deep_grid}
use Rattle.step_sweeps.specs.Told.{told_slot, IsTold}
use Rattle.step_sweeps.specs.Enclaves.{DecidesEnclave}
use Rattle.step_sweeps.specs.Kernels.{Kernel, IsChangeBy, new_in, mark_in, failing_with}
use Rattle.step_sweeps.specs.Primaries.{PrimaryWork, Computes, PrimaryEnters, PrimaryLeaves, leaf_told, mark_told}

-- what a call of the visitor did, by its kernel and its tree
abbrev pub Did : Kernel → Cuts → ℕ → Visit → CellView → CellView → Type 0
Did k cuts t (enter c) v w = (Computes k cuts t v × DecidesEnclave cuts t v true × IsTold cuts.dim (mark_told k cuts.dim v) v (record w { task = v.task })) ⊎ ((Computes k cuts t v × DecidesEnclave cuts t v false × IsTold cuts.dim (leaf_told k cuts.dim v) v w) ⊎ ((Computes k cuts t v → ⊥) × (w ≡ v)))
Did k cuts t (leave c) v w = w ≡ v

module _ {S : Type 0} (kernel : S → Kernel) (start : PrimaryWork S) where
  -- no call changes the visitor but in the leaf that it found and its tasks
  abbrev pub Same : PrimaryWork S → Type 0
  Same a = a ≡ record start { failing = a.failing; tasks = a.tasks }

  pub did : (a b : PrimaryWork S) (visit : Visit) (v w : CellView) → Same a → Stands (PrimaryEnters kernel) (PrimaryLeaves kernel) visit v w a b → Same b × Did (kernel start.solver) (cuts_of start.keys) start.tree visit v w
  did a b (enter c) v w same (inl h) = (
    h.same ∙ (ap (λ (x : PrimaryWork S). record x { tasks = b.tasks }) same ∙ ap (λ o. record start { failing = o; tasks = b.tasks }) (sym (ap (λ (x : PrimaryWork S). x.failing) h.same))),
    inl (
      subst (λ (x : PrimaryWork S). Computes (kernel x.solver) (cuts_of x.keys) x.tree v) same h.computed,
      subst (λ (x : PrimaryWork S). DecidesEnclave (cuts_of x.keys) x.tree v true) same h.enclave,
      subst (λ (x : PrimaryWork S). IsTold x.keys.dim (mark_told (kernel x.solver) x.keys.dim v) v (record w { task = v.task })) same h.told,
    ),
  )
  did a b (enter c) v w same (inr (inl h)) =
      let found : Option CellKey = failing_with a.failing v.key (new_in (kernel a.solver) a.keys.dim v) in (
        h.found ∙ (ap (λ (x : PrimaryWork S). record x { failing = found }) same ∙ ap₂ (λ o t. record start { failing = o; tasks = t }) (sym (ap (λ (x : PrimaryWork S). x.failing) h.found)) (sym (ap (λ (x : PrimaryWork S). x.tasks) h.found))),
        inr (inl (
          subst (λ (x : PrimaryWork S). Computes (kernel x.solver) (cuts_of x.keys) x.tree v) same h.computed,
          subst (λ (x : PrimaryWork S). DecidesEnclave (cuts_of x.keys) x.tree v false) same h.skeleton,
          subst (λ (x : PrimaryWork S). IsTold x.keys.dim (leaf_told (kernel x.solver) x.keys.dim v) v w) same h.told,
        )),
      )
  did a b (enter c) v w same (inr (inr h)) = (subst Same (sym h.same) same, inr (inr ((λ k. h.other (subst (λ (x : PrimaryWork S). Computes (kernel x.solver) (cuts_of x.keys) x.tree v) (sym same) k)), h.view)))
  did a b (leave c) v w same h = (subst Same (sym h.1) same, h.0)

-- a leaf takes its mark, and a skeleton leaf its new value
module _ (k : Kernel) (cuts : Cuts) (t : ℕ) (w : Change) (f : States) (change : IsChangeBy k w.old f w) (fits : IsCutGrid cuts w.old) (field : IsFieldOn k.parts w.old f) where
  leaf_value : (c : CellKey) → is_leaf w.old c ≡ true → value_of w.old f c ≡ state_at f c
  leaf_value c leaf = value_shows_leaves w.old f c leaf

  module _ (c : CellKey) (v : CellView) (key : v.key ≡ c) (sides : v.sides ≡ sides_of w.old f c) (value : is_leaf w.old c ≡ true → value_at_home cuts.dim v ≡ value_of w.old f c) (leaf_from : v.was ≡ Some false → is_leaf w.old c ≡ true) (leaf_to : is_leaf w.old c ≡ true → v.was ≡ Some false) (cell : IsCell w.old.dim c) where
    as_leaf : is_leaf w.old c ≡ true → IsLeafOf w.old c
    as_leaf leaf = record { cell = cell; leaf = leaf }

    own_state : is_leaf w.old c ≡ true → value_at_home cuts.dim v ≡ state_at f c
    own_state leaf = value leaf ∙ leaf_value c leaf

    pub is_mark : is_leaf w.old c ≡ true → mark_in k cuts.dim v ≡ w.mark c
    is_mark leaf = ap (λ s. k.marked s v.sides v.key.level) (own_state leaf) ∙ (ap (λ s. k.marked (state_at f c) s v.key.level) sides ∙ (ap (λ (q : CellKey). k.marked (state_at f c) (sides_of w.old f c) q.level) key ∙ sym (change.marks c (as_leaf leaf))))

    pub is_new : is_leaf w.old c ≡ true → new_in k cuts.dim v ≡ new_state k.updated w.old f c
    is_new leaf = ap (λ s. k.updated s v.sides v.key.level) (own_state leaf) ∙ (ap (λ s. k.updated (state_at f c) s v.key.level) sides ∙ ap (λ (q : CellKey). k.updated (state_at f c) (sides_of w.old f c) q.level) key)

    pub computes : Owns cuts t c → is_leaf w.old c ≡ true → has_cell w.old c ≡ true → Computes k cuts t v
    computes owns leaf there = record {
      own = record { leaf = leaf_to leaf; level = subst (λ (q : CellKey). q.level ≤ cuts.depth) (sym key) (level_in cuts w.old c fits there); owns = subst (Owns cuts t) (sym key) owns };
      parts = subst (λ s. HaveParts k.parts s v.sides) (sym (own_state leaf)) (subst (HaveParts k.parts (state_at f c)) (sym sides) (leaf_has k.parts w.old f (deep_grid cuts w.old fits) field c (as_leaf leaf)));
    }

    pub told_change : Computes k cuts t v → (x y : Slot) → y ≡ told_slot (leaf_told k cuts.dim v) x → PrimaryChanges cuts w t c x y
    told_change computed x y e = record {
      status = ap (λ (s : Slot). s.status) e;
      value = ap (λ (s : Slot). s.value) e;
      intent = ap (λ (s : Slot). s.intent) e;
      mark = λ owns leaf. ap (λ (s : Slot). s.mark) e ∙ is_mark leaf;
      next = λ skeleton z is. ap (λ (s : Slot). s.next) e ∙ ap (λ o. unwrap_or o x.next) (is_new skeleton.0.leaf ∙ (sym (change.leaves c (as_leaf skeleton.0.leaf)) ∙ is));
    }

    pub marked_change : (IsSkeleton cuts w.old t c → ⊥) → (x y : Slot) → y ≡ told_slot (mark_told k cuts.dim v) x → PrimaryChanges cuts w t c x y
    marked_change none x y e = record {
      status = ap (λ (s : Slot). s.status) e;
      value = ap (λ (s : Slot). s.value) e;
      intent = ap (λ (s : Slot). s.intent) e;
      mark = λ owns leaf. ap (λ (s : Slot). s.mark) e ∙ is_mark leaf;
      next = λ skeleton. absurd (none skeleton);
    }

    pub passed_change : (Computes k cuts t v → ⊥) → has_cell w.old c ≡ true → (x : Slot) → PrimaryChanges cuts w t c x x
    passed_change other there x = record {
      status = refl;
      value = refl;
      intent = refl;
      mark = λ owns leaf. absurd (other (computes owns leaf there));
      next = λ skeleton. absurd (other (computes skeleton.0.owns skeleton.0.leaf there));
    }
