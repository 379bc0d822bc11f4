-- The world of a demonstration: how it begins, goes on and ends.
use Rattle.std.proofs.Common.{◌≡◌, ℕ, suc, ◌+◌, ◌<◌, ◌==◌, ◌||◌, ◌&&◌, nat_le, Bool, true, false, Option, None, List, ◌++◌, length, add-one, refl, sym, subst, ap, ap₂, ⊎_elim, ◌∙◌, arith}
use Rattle.std.proofs.lemmas.Bool.Decides.{eqb_tells}
use Rattle.peano_keys.specs.declared.cell.CellKey.{CellKey}
use Rattle.peano_keys.specs.Grid.{Spacetree, IsGrid}
use Rattle.solver_api.specs.Step.{Overflows}
use Rattle.volume_solver.specs.declared.any.AnySolver.{AnySolver}
use Rattle.volume_solver.specs.Any.{parts_in, updated_by, marked_by, adapting_in}
use Rattle.spacetree.specs.declared.row.Row.{Row}
use Rattle.spacetree.specs.declared.fault.EvalFault.TheVariants as Faults
use Rattle.spacetree.specs.Evaluation.{Crowds, IsServedStep}
use Rattle.curve_cuts.specs.Keys.{CutPoints, cuts_of}
use Rattle.step_driver.specs.declared.showing.Shown.{Shown}
use Rattle.vertex_stacks.specs.declared.kind.Kind.TheVariants.{Show}
use Rattle.step_world.specs.Notes.{by_trees, note_over}
use Rattle.step_driver.specs.Notes.{sizes_of, recuts_in, added_notes, recut_added}
use Rattle.step_driver.specs.Showing.{IsShown}
use Rattle.step_driver.specs.Advances.{AreKeysAfter, Advanced, Stopped}
use Rattle.step_driver.specs.Worlds.{Seen, IsAt}
use Rattle.field_report.specs.Summary.{IsSummary}
use Rattle.grid_file.specs.declared.plan.Plan.{Plan}
use Rattle.grid_file.specs.Plan.{printed, is_multiple}
use Rattle.demonstration.specs.Demo.{demo}
use Rattle.peano_run.specs.Left.{HasNotesTo, HasNotesBefore, EndsAtLast}
use Rattle.peano_run.specs.Led.{IsFirst, IsLed}
use Rattle.peano_run.specs.Demonstrated.{IsDemoSummary}
use Rattle.peano_run.proofs.Leads.{count_to, notes_unshown, notes_shown, notes_stepped, to_evaluation}
use Rattle.peano_run.proofs.Showings.{kernel_of}
use Rattle.peano_run.proofs.Demonstrations.{has_row, summary_from, no_overflow, no_crowd}

-- a first world is led to step 0
pub first_led : (trees : ℕ) (plan : Plan) (g : Spacetree) (w : Seen AnySolver) → IsFirst trees plan g w → IsLed trees plan 0 w
first_led trees plan g w h = record { grid = g; field = h.field; at = h.at; solver = h.solver; recut = h.recut; noted = h.noted }

-- of a demonstration the last step alone is printed
only_last : (n step : ℕ) → step < 20 → printed (demo n) step ≡ false
only_last n step l =
    let apart : (step == 20) ≡ false = ⊎_elim (λ same. absurd (omega (arith, l, same.1))) (λ other. other.0) (eqb_tells step 20) in
    ap (λ b. b || (nat_le step 20 && is_multiple None step)) apart ∙ none (nat_le step 20)
  where
    none : (b : Bool) → (b && false) ≡ false
    none true = refl
    none false = refl

module _ (n : ℕ) (plan : Plan) (same : plan ≡ demo n) (trees step : ℕ) (w : Seen AnySolver) (led : IsLed trees plan step w) (more : step < plan.steps) where
  -- so the notes up to a step's end are those up to its showing
  led_to : HasNotesTo trees plan w.keys step led.grid led.field w.notes
  led_to = notes_unshown trees plan w.keys step led.grid led.field w.notes
      (subst (λ (p : Plan). printed p step ≡ false) (sym same) (only_last n step (subst (λ (p : Plan). step < p.steps) same more))) led.noted

  -- the world by its own solver, at its own step
  pub own_world : IsAt (parts_in w.solver) w led.grid led.field w.step
  own_world = subst (λ s. IsAt (parts_in s) w led.grid led.field w.step) (sym led.solver) (subst (λ k. IsAt (parts_in plan.solver) w led.grid led.field k) (sym led.at.step_is) led.at)

  -- a step leads it on
  pub led_on : (v : Seen AnySolver) (a : Advanced (kernel_of w.solver) (adapting_in w.solver) led.grid led.field w v) → v.solver ≡ w.solver → v.recut ≡ w.recut → IsLed trees plan (step + 1) v
  led_on v a solver recut =
      let next : w.step + 1 ≡ suc step = ap (λ k. k + 1) led.at.step_is ∙ add-one step in
      record {
        grid = a.grid;
        field = a.field;
        at = subst (λ k. IsAt (parts_in plan.solver) v a.grid a.field (k + 1)) led.at.step_is (subst (λ s. IsAt (parts_in s) v a.grid a.field (w.step + 1)) led.solver a.at);
        solver = solver ∙ led.solver;
        recut = recut ∙ led.recut;
        noted = subst (λ k. HasNotesBefore trees plan v.keys k a.grid a.field v.notes) (sym (add-one step))
            (notes_stepped trees plan w.keys v.keys step led.grid led.field w.notes (adapting_in w.solver) a.grid a.field v.notes (ap adapting_in led.solver) led_to
            (subst (λ s. served_by s) led.solver a.served)
            (subst (λ k. AreKeysAfter (recuts_in plan.recut_every k) a.grid w.keys v.keys) next (subst (λ (every : Option ℕ). AreKeysAfter (recuts_in every (w.step + 1)) a.grid w.keys v.keys) led.recut a.keys))
            (a.noted ∙ ap₂ (λ k every. w.notes ++ (added_notes (cuts_of w.keys) (adapting_in w.solver) k led.grid a.grid ++ recut_added every w.keys v.keys k a.grid)) next led.recut));
      } where
        served_by : AnySolver → Type 0
        served_by s = IsServedStep (updated_by s) (marked_by s) led.grid led.field a.grid a.field

  -- and is never refused
  pub goes_on : (v : Seen AnySolver) (s : ℕ) (c : CellKey) → Stopped (kernel_of w.solver) (adapting_in w.solver) led.grid led.field w v (Faults.Overflow s c) → ⊥
  goes_on v s c stopped =
      let to = led_to in
      no_overflow n plan same to.first_grid to.first_field to.begun.grid to.begun.field step led.grid led.field c (to_evaluation trees plan w.keys step led.grid led.field w.notes to)
      (subst (λ x. Overflows (updated_by x) led.grid led.field c) led.solver stopped.fails.0.1)

  pub has_room : (v : Seen AnySolver) (s cells : ℕ) → Stopped (kernel_of w.solver) (adapting_in w.solver) led.grid led.field w v (Faults.Crowded s cells) → ⊥
  has_room v s cells stopped =
      let to = led_to in
      no_crowd n plan same to.first_grid to.first_field to.begun.grid to.begun.field step led.grid led.field cells (to_evaluation trees plan w.keys step led.grid led.field w.notes to)
      (subst (λ x. Crowds (updated_by x) (marked_by x) led.grid led.field cells) led.solver stopped.fails.0.1)

module _ (n : ℕ) (plan : Plan) (same : plan ≡ demo n) (trees : ℕ) (w : Seen AnySolver) (led : IsLed trees plan plan.steps w) where
  pub last_world : IsAt (parts_in w.solver) w led.grid led.field w.step
  last_world = subst (λ s. IsAt (parts_in s) w led.grid led.field w.step) (sym led.solver) (subst (λ k. IsAt (parts_in plan.solver) w led.grid led.field k) (sym led.at.step_is) led.at)

  module _ (v : Seen AnySolver) (shown : Shown) (is : IsShown (parts_in w.solver) led.grid led.field w v shown) (keys : v.keys ≡ w.keys) where
    last_notes : HasNotesTo trees plan v.keys plan.steps led.grid led.field v.notes
    last_notes = subst (λ (p : CutPoints). HasNotesTo trees plan p plan.steps led.grid led.field v.notes) (sym keys)
        (notes_shown trees plan w.keys plan.steps led.grid led.field w.notes v.notes (subst (λ (p : Plan). printed p p.steps ≡ true) (sym same) refl) led.noted
        (is.noted ∙ ap (λ k. w.notes ++ by_trees (cuts_of w.keys).trees (note_over (sizes_of (cuts_of w.keys)) k Show led.grid)) led.at.step_is))

    -- the world that is shown in the end
    pub ends_at_last : EndsAtLast trees (demo n) v
    ends_at_last = subst (λ (p : Plan). EndsAtLast trees p v) same (record {
      grid = led.grid;
      field = led.field;
      at = subst (λ s. IsAt (parts_in s) v led.grid led.field plan.steps) led.solver (subst (λ k. IsAt (parts_in w.solver) v led.grid led.field k) led.at.step_is is.at);
      count = count_to trees plan v.keys plan.steps led.grid led.field v.notes last_notes;
      noted = last_notes;
    })

    -- has a row,
    pub shows_row : 0 < length shown.rows.items
    shows_row = subst (λ (rows : List Row). 0 < length rows) (sym is.rows) (has_row (parts_in w.solver) led.grid led.field deep is.at.trees.field)
      where
        deep : IsGrid 12 led.grid
        deep = record {
          cells = is.at.trees.fits.grid.cells;
          levels = λ c e. (let low = is.at.trees.fits.grid.levels c e in let most = is.at.trees.fits.deepest in omega (arith, low, most));
          parents = is.at.trees.fits.grid.parents;
        }

    -- and gives the summary
    pub sums_up : (text : List ℕ) → IsSummary n v.cells shown.rows.items text → IsDemoSummary n text
    sums_up text h =
        let to = last_notes in
        summary_from n plan same to.first_grid to.first_field to.begun.grid to.begun.field led.grid led.field v.cells shown.rows.items text (to_evaluation trees plan v.keys plan.steps led.grid led.field v.notes to) is.at.trees.counted is.rows h
