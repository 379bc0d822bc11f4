-- What a step shows of a course, and where a step of its world leads it.
use Rattle.std.proofs.Common.{append_assoc, add-one, ◌≡◌, ℕ, suc, Option, Some, None, ◌+◌, ◌<◌, ◌≤◌, ◌&&◌, Bool, true, false, if◌then◌else◌, List, [], ◌++◌, length, Vec, Global, refl, sym, subst, ap, ap₂, ◌∙◌, arith}
use Rattle.std.specs.Prelude.{Result, Ok, Err, IfOk, IfErr}
use Rattle.std.specs.Result.{IsErrAnd}
use Rattle.std.proofs.lemmas.List.{append-nil}
use Rattle.peano_keys.specs.Grid.{Spacetree}
use Rattle.peano_keys.specs.Field.{States}
use Rattle.volume_solver.specs.declared.any.AnySolver.{AnySolver}
use Rattle.volume_solver.specs.Any.{parts_in, updated_by, marked_by, adapting_in}
use Rattle.peano_keys.specs.declared.cell.CellKey.{CellKey}
use Rattle.solver_api.specs.Step.{Overflows}
use Rattle.spacetree.specs.declared.fault.EvalFault.TheVariants as Faults
use Rattle.spacetree.specs.Evaluation.{IsServedStep, Crowds}
use Rattle.spacetree.specs.Fields.{rows_of}
use Rattle.curve_cuts.specs.Cuts.{Cuts}
use Rattle.curve_cuts.specs.Keys.{CutPoints, cuts_of}
use Rattle.field_report.specs.Block.{field_block}
use Rattle.field_report.specs.Traffic.{traffic_block}
use Rattle.field_report.specs.declared.traffic.Traffic.{Traffic}
use Rattle.step_world.specs.Notes.{computing_notes}
use Rattle.step_driver.specs.Notes.{sizes_of, recuts_in, added_notes, recut_added}
use Rattle.step_driver.specs.declared.showing.Shown.{Shown}
use Rattle.step_driver.specs.Showing.{TellTraffic, IsShown}
use Rattle.step_driver.specs.Advances.{AreKeysAfter, Advanced, Stopped}
use Rattle.step_driver.specs.Worlds.{Seen, IsAt}
use Rattle.step_sweeps.specs.Kernels.{Kernel}
use Rattle.grid_file.specs.Plan.{printed}
use Rattle.grid_file.specs.declared.plan.Plan.{Plan}
use Rattle.peano_run.specs.declared.answer.Answer.TheVariants.{Limit, Crowded, Overflow, NoMemory}
use Rattle.peano_run.specs.declared.answer.LimitKind.TheVariants.{Lines}
use Rattle.peano_run.specs.declared.asked.Request.{Request}
use Rattle.peano_run.specs.declared.course.Course.{Course}
use Rattle.peano_run.specs.declared.refused.Refused.{Refused}
use Rattle.peano_run.specs.Report.{Moment, GoesOn, IsAdded, IsAddedIf, IsTrafficText, added_lines, fields_text, shows_fields, shows_traffic, most_lines}
use Rattle.peano_run.specs.Left.{HasNotesTo, HasNotesBefore, EndsInStep}
use Rattle.peano_run.specs.Course.{StandsAtMoment, StandsUnshown, StandsShown, IsStopped, ShowsStep, ShowFails, too_many, no_memory, IsShowing, CountsLines}
use Rattle.peano_run.proofs.Courses.{after_step}
use Rattle.peano_run.proofs.Leads.{count_to, notes_unshown, notes_shown, notes_stepped}

-- a solver's kernel
abbrev pub kernel_of : AnySolver → Kernel
kernel_of s = record { parts = parts_in s; updated = updated_by s; marked = marked_by s }

-- what is so of what is shown, and of why it is not
pub shown_ok : (r : Request) (plan : Plan) (step : ℕ) (m : Moment) (res : Result Course Refused) (P : Course → Type 0) → IsShowing r plan step m res → ((after : Course) → ShowsStep r plan step m after → P after) → IfOk res P
shown_ok r plan step m (Ok after) P h f = f after h
shown_ok r plan step m (Err a) P h f = tt

pub shown_err : (r : Request) (plan : Plan) (step : ℕ) (m : Moment) (res : Result Course Refused) (P : Refused → Type 0) → IsShowing r plan step m res → ((a : Refused) → ShowFails r plan step m a → P a) → IfErr res P
shown_err r plan step m (Ok after) P h f = tt
shown_err r plan step m (Err a) P h f = f a h

-- the world of a course, by its own solver
pub own_parts : (plan : Plan) (step : ℕ) (c : Course) (m : Moment) → StandsAtMoment plan step c m → IsAt (parts_in c.world.solver) c.world m.grid m.field step
own_parts plan step c m h = subst (λ s. IsAt (parts_in s) c.world m.grid m.field step) (sym h.solver) h.at

-- at its own step
pub own_step : (plan : Plan) (step : ℕ) (c : Course) (m : Moment) → StandsAtMoment plan step c m → IsAt (parts_in c.world.solver) c.world m.grid m.field c.world.step
own_step plan step c m h = subst (λ n. IsAt (parts_in c.world.solver) c.world m.grid m.field n) (sym h.at.step_is) (own_parts plan step c m h)

traffic_told : (b : Bool) (k : Cuts) (step : ℕ) (g : Spacetree) (list : List Traffic) → TellTraffic k g list → IsTrafficText b k step g (if b then traffic_block step list else [])
traffic_told true k step g list h = (list, h, refl)
traffic_told false k step g list h = refl

-- the lines of a printed step
lines_printed : (r : Request) (plan : Plan) (step : ℕ) (f : States) → printed plan step ≡ true → added_lines r plan step f ≡ (if shows_fields r.show then length (rows_of f) else 0)
lines_printed r plan step f e = ap (λ p. if p && shows_fields r.show then length (rows_of f) else 0) e

-- for want of memory a step is not shown
pub unshown : (r : Request) (plan : Plan) (step : ℕ) (m : Moment) (res : Result Course Refused) (Q : Refused → Type 0) → ((e : Refused) → Q e → e ≡ record { answer = NoMemory; world = None }) → IsErrAnd res Q → IsShowing r plan step m res
unshown r plan step m (Ok after) Q to err = absurd err
unshown r plan step m (Err e) Q to err = no_memory (to e err)

-- a step that is not printed adds nothing
pub not_printed : (r : Request) (plan : Plan) (step : ℕ) (c : Course) (m : Moment) → printed plan step ≡ false → c.lines ≤ most_lines → StandsUnshown r plan step c m → ShowsStep r plan step m c
not_printed r plan step c m e room h = record {
  added = [];
  told = subst (λ b. IsAddedIf b r plan (cuts_of m.keys) step m.grid m.field []) (sym e) refl;
  shown = record {
    stands = record {
      at = h.stands.at;
      solver = h.stands.solver;
      recut = h.stands.recut;
      keys = h.stands.keys;
      text = h.stands.text ∙ sym (append-nil m.text);
      lines = (let lines = h.stands.lines in let none : added_lines r plan step m.field ≡ 0 = ap (λ p. if p && shows_fields r.show then length (rows_of m.field) else 0) e in omega (arith, lines, none));
    };
    noted = notes_unshown r.trees plan c.world.keys step m.grid m.field c.world.notes e h.noted;
  };
  room = room;
}

module _ (r : Request) (plan : Plan) (c : Course) (m : Moment) (unshown : StandsUnshown r plan c.world.step c m) (prints : printed plan c.world.step ≡ true) where
  abbrev step : ℕ
  step = c.world.step

  abbrev h : StandsAtMoment plan step c m
  h = unshown.stands

  -- it is refused because of its lines
  pub counted_refused : (refused : Refused) → refused ≡ record { answer = Limit Lines most_lines; world = Some c.world } → CountsLines r c.lines m.field None → ShowFails r plan step m refused
  counted_refused refused e many =
      let lines = h.lines in
      let same = lines_printed r plan step m.field prints in
      too_many c.world e (omega (arith, many, lines, same)) h.at unshown.noted

  module _ (w : Seen AnySolver) (shown : Shown) (is : IsShown (parts_in c.world.solver) m.grid m.field c.world w shown) where
    abbrev traffic : List ℕ
    traffic = if shows_traffic r.show then traffic_block step shown.traffic.items else []

    abbrev added : List ℕ
    added = fields_text r plan step m.field ++ traffic

    is_added : IsAdded r plan (cuts_of m.keys) step m.grid m.field added
    is_added = subst (λ b. IsAddedIf b r plan (cuts_of m.keys) step m.grid m.field added) (sym prints) (record {
      traffic = traffic;
      told = traffic_told (shows_traffic r.show) (cuts_of m.keys) step m.grid shown.traffic.items (subst (λ (p : CutPoints). TellTraffic (cuts_of p) m.grid shown.traffic.items) h.keys is.traffic);
      text_is = refl;
    })

    -- or it is shown
    pub printed_shows : (text : Vec ℕ Global) (lines : ℕ) (fields : List ℕ) → w.solver ≡ c.world.solver → w.recut ≡ c.world.recut → w.keys ≡ c.world.keys → CountsLines r c.lines m.field (Some lines) →
        fields ≡ c.text.items ++ (if shows_fields r.show then field_block plan.shape.dim shown.step shown.rows.items else []) → text.items ≡ fields ++ (if shows_traffic r.show then traffic_block shown.step shown.traffic.items else []) →
        ShowsStep r plan step m (record { world = w; text = text; lines = lines })
    printed_shows text lines fields solver recut keys count first second =
        let blocks : (if shows_fields r.show then field_block plan.shape.dim shown.step shown.rows.items else []) ≡ fields_text r plan step m.field =
        ap₂ (λ s rows. if shows_fields r.show then field_block plan.shape.dim s rows else []) is.step_is is.rows in
        let told : (if shows_traffic r.show then traffic_block shown.step shown.traffic.items else []) ≡ traffic = ap (λ s. if shows_traffic r.show then traffic_block s shown.traffic.items else []) is.step_is in
        let whole : text.items ≡ m.text ++ added =
        second ∙ ap₂ (λ x y. x ++ y) (first ∙ ap₂ (λ x y. x ++ y) h.text blocks) told ∙ append_assoc m.text (fields_text r plan step m.field) traffic in
        let counted = count.0 in
        let before = h.lines in
        let same = lines_printed r plan step m.field prints in
        record {
          added = added;
          told = is_added;
          shown = record {
            stands = record {
              at = subst (λ s. IsAt (parts_in s) w m.grid m.field step) h.solver is.at;
              solver = solver ∙ h.solver;
              recut = recut ∙ h.recut;
              keys = keys ∙ h.keys;
              text = whole;
              lines = omega (arith, counted, before, same);
            };
            noted = subst (λ (p : CutPoints). HasNotesTo r.trees plan p step m.grid m.field w.notes) (sym keys) (notes_shown r.trees plan c.world.keys step m.grid m.field c.world.notes w.notes prints unshown.noted is.noted);
          };
          room = count.1;
        }

module _ (r : Request) (plan : Plan) (step : ℕ) (c : Course) (m : Moment) (shown : StandsShown r plan step c m) where
  -- a step of the world is one of the plan's
  pub serves_plan : (adapts : Bool) (w : Seen AnySolver) → (a : Advanced (kernel_of c.world.solver) adapts m.grid m.field c.world w) → IsServedStep (updated_by plan.solver) (marked_by plan.solver) m.grid m.field a.grid a.field
  serves_plan adapts w a = subst (λ s. IsServedStep (updated_by s) (marked_by s) m.grid m.field a.grid a.field) shown.stands.solver a.served

  -- that is the next one,
  next_step : c.world.step + 1 ≡ suc step
  next_step = ap (λ n. n + 1) shown.stands.at.step_is ∙ add-one step

  module _ (w : Seen AnySolver) (a : Advanced (kernel_of c.world.solver) (adapting_in c.world.solver) m.grid m.field c.world w) where
    world_keys : AreKeysAfter (recuts_in plan.recut_every (suc step)) a.grid c.world.keys w.keys
    world_keys = subst (λ n. AreKeysAfter (recuts_in plan.recut_every n) a.grid c.world.keys w.keys) next_step
        (subst (λ (every : Option ℕ). AreKeysAfter (recuts_in every (c.world.step + 1)) a.grid c.world.keys w.keys) shown.stands.recut a.keys)

    -- after which its trees have the keys that the plan says,
    pub plan_keys : AreKeysAfter (recuts_in plan.recut_every (suc step)) a.grid m.keys w.keys
    plan_keys = subst (λ (p : CutPoints). AreKeysAfter (recuts_in plan.recut_every (suc step)) a.grid p w.keys) shown.stands.keys world_keys

    -- and the course stands at the next grid and field
    pub stands_after : w.solver ≡ c.world.solver → w.recut ≡ c.world.recut → StandsUnshown r plan (step + 1) (record { world = w; text = c.text; lines = c.lines }) (after_step m w.keys a.grid a.field)
    stands_after solver recut = record {
      stands = record {
        at = subst (λ n. IsAt (parts_in plan.solver) w a.grid a.field (n + 1)) shown.stands.at.step_is (subst (λ s. IsAt (parts_in s) w a.grid a.field (c.world.step + 1)) shown.stands.solver a.at);
        solver = solver ∙ shown.stands.solver;
        recut = recut ∙ shown.stands.recut;
        keys = refl;
        text = shown.stands.text;
        lines = shown.stands.lines;
      };
      noted = subst (λ n. HasNotesBefore r.trees plan w.keys n a.grid a.field w.notes) (sym (add-one step))
          (notes_stepped r.trees plan c.world.keys w.keys step m.grid m.field c.world.notes (adapting_in c.world.solver) a.grid a.field w.notes (ap adapting_in shown.stands.solver) shown.noted (serves_plan (adapting_in c.world.solver) w a) world_keys
          (a.noted ∙ ap₂ (λ n every. c.world.notes ++ (added_notes (cuts_of c.world.keys) (adapting_in c.world.solver) n m.grid a.grid ++ recut_added every c.world.keys w.keys n a.grid)) next_step shown.stands.recut));
    }

  -- where it is refused, the notes go up to the secondary sweeps,
  refused_left : (w : Seen AnySolver) (s : ℕ) → s ≡ c.world.step + 1 → w.keys ≡ c.world.keys → w.live ≡ false → w.notes ≡ c.world.notes ++ computing_notes (sizes_of (cuts_of c.world.keys)) (cuts_of c.world.keys).trees (c.world.step + 1) m.grid → EndsInStep r.trees plan s w
  refused_left w s same keys live noted = record {
    before = step;
    step_is = (let at = shown.stands.at.step_is in omega (arith, at, same));
    grid = m.grid;
    field = m.field;
    first = c.world.notes;
    earlier = subst (λ (p : CutPoints). HasNotesTo r.trees plan p step m.grid m.field c.world.notes) (sym keys) shown.noted;
    noted = (let count = count_to r.trees plan c.world.keys step m.grid m.field c.world.notes shown.noted in
        noted ∙ (λ i. c.world.notes ++ computing_notes (sizes_of (cuts_of (sym keys i))) (count i) (sym same i) m.grid));
    live = live;
  }

  -- and the plan is refused
  pub refused_overflow : (w : Seen AnySolver) (s : ℕ) (key : CellKey) (refused : Refused) → refused ≡ record { answer = Overflow s key; world = Some w } → GoesOn r plan step m → step < plan.steps
      → Stopped (kernel_of c.world.solver) (adapting_in c.world.solver) m.grid m.field c.world w (Faults.Overflow s key) → IsStopped r plan refused
  refused_overflow w s key refused e on more stopped =
      let fails = stopped.fails.0 in
      let at = shown.stands.at.step_is in
      let same = fails.0 in
      subst (IsStopped r plan) (sym e) (record {
        cause = record {
          before = step;
          last = m;
          step_is = omega (arith, at, same);
          within = omega (arith, at, same, more);
          reached = on;
          overflows = subst (λ x. Overflows (updated_by x) m.grid m.field key) shown.stands.solver fails.1;
        };
        left = refused_left w s same stopped.keys stopped.live stopped.fails.1;
      })

  pub refused_crowded : (w : Seen AnySolver) (s cells : ℕ) (refused : Refused) → refused ≡ record { answer = Crowded s cells; world = Some w } → GoesOn r plan step m → step < plan.steps
      → Stopped (kernel_of c.world.solver) (adapting_in c.world.solver) m.grid m.field c.world w (Faults.Crowded s cells) → IsStopped r plan refused
  refused_crowded w s cells refused e on more stopped =
      let fails = stopped.fails.0 in
      let at = shown.stands.at.step_is in
      let same = fails.0 in
      subst (IsStopped r plan) (sym e) (record {
        cause = record {
          before = step;
          last = m;
          step_is = omega (arith, at, same);
          within = omega (arith, at, same, more);
          reached = on;
          crowds = subst (λ x. Crowds (updated_by x) (marked_by x) m.grid m.field cells) shown.stands.solver fails.1;
        };
        left = refused_left w s same stopped.keys stopped.live stopped.fails.1;
      })
