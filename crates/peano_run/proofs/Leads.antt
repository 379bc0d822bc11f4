-- The notes of a world that is led on: over the showing of a step, and over a step.
use Rattle.std.proofs.Common.{◌≡◌, ℕ, zero, suc, ◌<◌, ◌≤◌, Bool, true, false, if◌then◌else◌, Option, List, [], ◌++◌, Result, Ok, Err, IfOk, append-nil, append_assoc, refl, sym, ap, ap₂, subst, ◌∙◌, ⊎_elim, arith}
use Rattle.std.proofs.lemmas.Bool.{cases_lt}
use Rattle.peano_keys.specs.Grid.{Spacetree}
use Rattle.peano_keys.specs.Field.{States}
use Rattle.vertex_stacks.specs.Notes.{Note}
use Rattle.vertex_stacks.specs.declared.kind.Kind.TheVariants.{Show}
use Rattle.volume_solver.specs.declared.any.AnySolver.{AnySolver}
use Rattle.volume_solver.specs.Any.{updated_by, marked_by, adapting_in, parts_in}
use Rattle.spacetree.specs.Opening.{Opens, OpensField}
use Rattle.spacetree.specs.Evaluation.{IsServedStep, Evaluates}
use Rattle.curve_cuts.specs.Keys.{CutPoints, cuts_of}
use Rattle.step_world.specs.Notes.{Course, Sizes, by_trees, note_raised, note_over, showing_notes, step_notes, recut_notes}
use Rattle.step_world.proofs.Notes.{notes_are_of_evaluation}
use Rattle.step_driver.specs.Notes.{sizes_of, added_notes, recut_added, recuts_in}
use Rattle.step_driver.specs.Starts.{AreEqualKeys}
use Rattle.step_driver.specs.Advances.{AreKeysAfter}
use Rattle.step_driver.specs.Worlds.{Seen, IsAt}
use Rattle.grid_file.specs.declared.plan.Plan.{Plan}
use Rattle.grid_file.specs.Plan.{printed}
use Rattle.peano_run.specs.Report.{AreKeysAt}
use Rattle.peano_run.specs.Left.{HasNotesTo, HasNotesBefore, HasNextNotes, schedule_of}
use Rattle.peano_run.specs.Led.{IsFirst}
use Rattle.peano_run.proofs.CutKeys.{count_at, shares_count, keys_first, keys_next}
use Rattle.peano_run.proofs.Families.{followed, up_to, beyond, notes_agree}

abbrev sizes : CutPoints → Sizes
sizes keys = sizes_of (cuts_of keys)

module _ (trees : ℕ) (plan : Plan) (keys : CutPoints) where
  abbrev schedule : Course
  schedule = schedule_of trees plan

  -- there are as many trees as the run began with
  pub count_to : (step : ℕ) (g : Spacetree) (f : States) (ns : List Note) → HasNotesTo trees plan keys step g f ns → (cuts_of keys).trees ≡ trees
  count_to step g f ns h = subst (λ (p : CutPoints). (cuts_of p).trees ≡ trees) h.now (count_at trees plan h.first_grid h.first_field step (h.cut step) (h.keys_at step (omega arith)))

  -- notes are of the evaluation
  pub to_evaluation : (step : ℕ) (g : Spacetree) (f : States) (ns : List Note) → (h : HasNotesTo trees plan keys step g f ns) → Evaluates (updated_by plan.solver) (marked_by plan.solver) h.first_grid h.first_field step g f
  to_evaluation step g f ns h = notes_are_of_evaluation (λ s. sizes (h.cut s)) schedule (updated_by plan.solver) (marked_by plan.solver) h.first_grid h.first_field step g f ns h.noted

  -- the showing of the opening adds its notes,
  shown_first : (g : Spacetree) (f : States) (ns all : List Note) → HasNotesBefore trees plan keys 0 g f ns → all ≡ ns ++ showing_notes (sizes keys) schedule 0 g → HasNotesTo trees plan keys 0 g f all
  shown_first g f ns all h e = record {
    first_grid = g;
    first_field = f;
    begun = h.begun;
    cut = λ s. keys;
    keys_at = λ s low. subst (λ i. AreKeysAt trees plan g f i keys) (let first : 0 ≡ s = omega (arith, low) in first) (keys_first trees plan g f keys h.shares);
    now = refl;
    noted = (refl, refl, e ∙ ap (λ x. x ++ showing_notes (sizes keys) schedule 0 g) h.noted);
  }

-- and that of a later step, whose family of keys goes on by those of the step
module _ (trees : ℕ) (plan : Plan) (keys : CutPoints) (n : ℕ) (g : Spacetree) (f : States) (ns : List Note) (h : HasNextNotes trees plan keys n g f ns) where
  abbrev first_grid : Spacetree
  first_grid = h.earlier.first_grid

  abbrev first_field : States
  first_field = h.earlier.first_field

  abbrev old : ℕ → CutPoints
  old = h.earlier.cut

  abbrev cut : ℕ → CutPoints
  cut = followed old n keys

  abbrev plan_schedule : Course
  plan_schedule = schedule_of trees plan

  last_at : AreKeysAt trees plan first_grid first_field n h.last_keys
  last_at = subst (AreKeysAt trees plan first_grid first_field n) h.earlier.now (h.earlier.keys_at n (omega arith))

  next_at : AreKeysAt trees plan first_grid first_field (suc n) keys
  next_at = keys_next trees plan first_grid first_field n g f
      (h.last_grid, h.last_field, to_evaluation trees plan h.last_keys n h.last_grid h.last_field h.last h.earlier, h.served) h.last_keys keys last_at h.cut

  family_at : (s : ℕ) → s ≤ suc n → AreKeysAt trees plan first_grid first_field s (cut s)
  family_at s low = ⊎_elim
      (λ past. subst (λ i. AreKeysAt trees plan first_grid first_field i (cut i)) (let e : suc n ≡ s = omega (arith, low, past) in e) (subst (AreKeysAt trees plan first_grid first_field (suc n)) (sym (beyond old n keys)) next_at))
      (λ early. subst (AreKeysAt trees plan first_grid first_field s) (sym (up_to old n keys s early)) (h.earlier.keys_at s early))
      (cases_lt n s)

  -- what the step and its showing add, by the keys before it and after it
  abbrev added_by : CutPoints → CutPoints → List Note
  added_by p q = h.last ++ step_notes (sizes p) plan_schedule (suc n) h.last_grid g ++ (recut_notes (sizes p) (sizes q) plan_schedule (suc n) g ++ showing_notes (sizes q) plan_schedule (suc n) g)

  shown_next : (all : List Note) → all ≡ ns ++ showing_notes (sizes keys) plan_schedule (suc n) g → HasNotesTo trees plan keys (suc n) g f all
  shown_next all e =
      let stepped : List Note = step_notes (sizes h.last_keys) plan_schedule (suc n) h.last_grid g in
      let cutting : List Note = recut_notes (sizes h.last_keys) (sizes keys) plan_schedule (suc n) g in
      let showing : List Note = showing_notes (sizes keys) plan_schedule (suc n) g in
      let before : h.last_keys ≡ cut n = sym (up_to old n keys n (omega arith) ∙ h.earlier.now) in
      record {
        first_grid = first_grid;
        first_field = first_field;
        begun = h.earlier.begun;
        cut = cut;
        keys_at = family_at;
        now = beyond old n keys;
        noted = (
          h.last_grid,
          h.last_field,
          h.last,
          notes_agree (λ s. sizes (old s)) (λ s. sizes (cut s)) plan_schedule (updated_by plan.solver) (marked_by plan.solver) first_grid first_field n h.last_grid h.last_field h.last (λ s low. ap sizes (sym (up_to old n keys s low))) h.earlier.noted,
          h.served,
          e ∙ ap (λ x. x ++ showing) h.noted ∙ append_assoc (h.last ++ stepped) cutting showing ∙ ap₂ added_by before (sym (beyond old n keys)),
        );
      }

module _ (trees : ℕ) (plan : Plan) (keys : CutPoints) where
  count_before : (step : ℕ) (g : Spacetree) (f : States) (ns : List Note) → HasNotesBefore trees plan keys step g f ns → (cuts_of keys).trees ≡ trees
  count_before zero g f ns h = shares_count plan.shape.depth g trees keys h.shares
  count_before (suc n) g f ns h = count_at trees plan h.earlier.first_grid h.earlier.first_field (suc n) keys (next_at trees plan keys n g f ns h)

  after_showing : (step : ℕ) (g : Spacetree) (f : States) (ns all : List Note) → HasNotesBefore trees plan keys step g f ns → all ≡ ns ++ showing_notes (sizes keys) (schedule_of trees plan) step g → HasNotesTo trees plan keys step g f all
  after_showing zero g f ns all h e = shown_first trees plan keys g f ns all h e
  after_showing (suc n) g f ns all h e = shown_next trees plan keys n g f ns h all e

  -- none where the step is not printed,
  pub notes_unshown : (step : ℕ) (g : Spacetree) (f : States) (ns : List Note) → printed plan step ≡ false → HasNotesBefore trees plan keys step g f ns → HasNotesTo trees plan keys step g f ns
  notes_unshown step g f ns e h = after_showing step g f ns ns h (sym (append-nil ns) ∙ ap (λ b. ns ++ (if b then by_trees trees (note_over (sizes keys) step Show g) else [])) (sym e))

  -- and one of each tree where it is
  pub notes_shown : (step : ℕ) (g : Spacetree) (f : States) (ns all : List Note) → printed plan step ≡ true → HasNotesBefore trees plan keys step g f ns → all ≡ ns ++ by_trees (cuts_of keys).trees (note_over (sizes keys) step Show g) → HasNotesTo trees plan keys step g f all
  notes_shown step g f ns all e h added = after_showing step g f ns all h
      (added ∙ ap (λ n. ns ++ by_trees n (note_over (sizes keys) step Show g)) (count_before step g f ns h) ∙ ap (λ b. ns ++ (if b then by_trees trees (note_over (sizes keys) step Show g) else [])) (sym e))

  -- a step adds its own, and those of trees that are cut anew after it
  pub notes_stepped : (new : CutPoints) (n : ℕ) (g : Spacetree) (f : States) (ns : List Note) (adapts : Bool) (h : Spacetree) (a : States) (all : List Note) → adapts ≡ adapting_in plan.solver → HasNotesTo trees plan keys n g f ns →
      IsServedStep (updated_by plan.solver) (marked_by plan.solver) g f h a → AreKeysAfter (recuts_in plan.recut_every (suc n)) h keys new → all ≡ ns ++ (added_notes (cuts_of keys) adapts (suc n) g h ++ recut_added plan.recut_every keys new (suc n) h) →
      HasNotesBefore trees plan new (suc n) h a all
  notes_stepped new n g f ns adapts h a all same to served cut added =
      let count = count_to trees plan keys n g f ns to in
      let stepped : List Note = step_notes (sizes keys) (schedule_of trees plan) (suc n) g h in
      let cutting : List Note = recut_notes (sizes keys) (sizes new) (schedule_of trees plan) (suc n) h in
      let ours : added_notes (cuts_of keys) adapts (suc n) g h ++ recut_added plan.recut_every keys new (suc n) h ≡ stepped ++ cutting =
      λ i. step_notes (sizes keys) (record { trees = count i; adapts = same i; recuts = λ s. false; printed = λ s. false }) (suc n) g h
      ++ recut_notes (sizes keys) (sizes new) (record { trees = count i; adapts = false; recuts = recuts_in plan.recut_every; printed = λ s. false }) (suc n) h in
      record {
        last_grid = g;
        last_field = f;
        last_keys = keys;
        last = ns;
        earlier = to;
        served = served;
        cut = cut;
        noted = added ∙ ap (λ x. ns ++ x) ours ∙ sym (append_assoc ns stepped cutting);
      }

-- a world that was started is the first one
pub first_from : {E : Type 0} (trees : ℕ) (plan : Plan) (g : Spacetree) (f : States) (res : Result (Seen AnySolver) E) → Opens plan.shape g → OpensField g plan.fills (parts_in plan.solver) f → IfOk res (λ w. AreEqualKeys plan.shape.depth g trees w.keys)
    → IfOk res (λ w. IsAt (parts_in plan.solver) w g f 0) → IfOk res (λ w. w.solver ≡ plan.solver) → IfOk res (λ w. w.recut ≡ plan.recut_every) → IfOk res (λ w. w.notes ≡ by_trees trees (note_raised (sizes_of (cuts_of w.keys)) 0 g)) → IfOk res (IsFirst trees plan g)
first_from trees plan g f (Ok w) opens fills keys at solver recut noted = record { field = f; at = at; solver = solver; recut = recut; noted = record { begun = record { grid = opens; field = fills }; shares = keys; noted = noted } }
first_from trees plan g f (Err e) opens fills keys at solver recut noted = tt
