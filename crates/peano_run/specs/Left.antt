-- The world that a run leaves: where it stands, and the notes of the sweeps that led it there.
use Rattle.std.specs.Prelude.{◌≡◌, ℕ, zero, suc, ◌+◌, ◌<◌, ◌≤◌, Bool, true, false, List, [], ◌++◌, Option, Some, None, ⊤}
use Rattle.peano_keys.specs.Grid.{Spacetree}
use Rattle.peano_keys.specs.Field.{States}
use Rattle.vertex_stacks.specs.Notes.{Note}
use Rattle.volume_solver.specs.declared.any.AnySolver.{AnySolver}
use Rattle.volume_solver.specs.Any.{updated_by, marked_by, adapting_in, parts_in}
use Rattle.spacetree.specs.Opening.{Opens, OpensField}
use Rattle.spacetree.specs.Evaluation.{IsServedStep}
use Rattle.curve_cuts.specs.Keys.{CutPoints, cuts_of}
use Rattle.step_world.specs.Notes.{Course, HasNotes, by_trees, note_raised, step_notes, recut_notes, computing_notes}
use Rattle.step_driver.specs.Notes.{sizes_of, recuts_in}
use Rattle.step_driver.specs.Starts.{AreEqualKeys}
use Rattle.step_driver.specs.Advances.{AreKeysAfter}
use Rattle.step_driver.specs.Worlds.{Seen, IsAt}
use Rattle.grid_file.specs.declared.plan.Plan.{Plan}
use Rattle.grid_file.specs.Plan.{printed}
use Rattle.peano_run.specs.declared.answer.Answer.{Answer}
use Rattle.peano_run.specs.declared.answer.Answer.TheVariants.{Done, WriteFault, Overflow, Crowded, Limit}
use Rattle.peano_run.specs.declared.answer.LimitKind.TheVariants.{Lines}
use Rattle.peano_run.specs.declared.asked.Request.{Request}
use Rattle.peano_run.specs.Report.{AreKeysAt, Moment, GoesOn, OfPlan, added_lines, most_lines}

-- the sweeps of a plan's run: of so many trees, with adaptations where there is a criterion, trees that are cut anew, and showings after the printed steps
abbrev pub schedule_of : ℕ → Plan → Course
schedule_of trees plan =
    record {
      trees = trees;
      adapts = adapting_in plan.solver;
      recuts = recuts_in plan.recut_every;
      printed = printed plan;
    }

-- a run of a plan begins with its opening grid and field
pub record IsBegun (plan : Plan) (g : Spacetree) (f : States) : Type 0 where
  pub grid : Opens plan.shape g
  pub field : OpensField g plan.fills (parts_in plan.solver) f

-- The notes of the whole schedule up to the end of a step, with the grid and the field to which the evaluation leads in it. `cut` has the keys of the trees after
-- each step up to it, of which the last are the present ones.
pub record HasNotesTo (trees : ℕ) (plan : Plan) (keys : CutPoints) (step : ℕ) (g : Spacetree)
    (f : States) (ns : List Note) : Type 0 where
  pub first_grid : Spacetree
  pub first_field : States
  pub begun : IsBegun plan first_grid first_field
  pub cut : ℕ → CutPoints
  pub keys_at : (s : ℕ) → s ≤ step → AreKeysAt trees plan first_grid first_field s (cut s)
  pub now : cut step ≡ keys
  pub noted : HasNotes (λ s. sizes_of (cuts_of (cut s))) (schedule_of trees plan)
      (updated_by plan.solver) (marked_by plan.solver) first_grid first_field step g f ns

-- a run opens with trees of equal shares, and the notes of their raising
pub record HasFirstNotes (trees : ℕ) (plan : Plan) (keys : CutPoints) (g : Spacetree) (f : States)
    (ns : List Note) : Type 0 where
  pub begun : IsBegun plan g f
  pub shares : AreEqualKeys plan.shape.depth g trees keys
  pub noted : ns ≡ by_trees trees (note_raised (sizes_of (cuts_of keys)) 0 g)

-- the step after another adds its notes to those up to the end of that, and then those of trees that are cut anew
pub record HasNextNotes (trees : ℕ) (plan : Plan) (keys : CutPoints) (n : ℕ) (g : Spacetree)
    (f : States) (ns : List Note) : Type 0 where
  pub last_grid : Spacetree
  pub last_field : States
  pub last_keys : CutPoints
  pub last : List Note
  pub earlier : HasNotesTo trees plan last_keys n last_grid last_field last
  pub served : IsServedStep (updated_by plan.solver) (marked_by plan.solver)
      last_grid last_field g f
  pub cut : AreKeysAfter (recuts_in plan.recut_every (suc n)) g last_keys keys
  pub noted : ns ≡ last
      ++ step_notes (sizes_of (cuts_of last_keys)) (schedule_of trees plan) (suc n) last_grid g
      ++ recut_notes (sizes_of (cuts_of last_keys)) (sizes_of (cuts_of keys))
      (schedule_of trees plan) (suc n) g

-- the notes up to the showing of a step
abbrev pub HasNotesBefore : ℕ → Plan → CutPoints → ℕ → Spacetree → States → List Note → Type 0
HasNotesBefore trees plan keys zero g f ns = HasFirstNotes trees plan keys g f ns
HasNotesBefore trees plan keys (suc n) g f ns = HasNextNotes trees plan keys n g f ns

-- a world at the grid and the field to which the last step of a plan leads, with the notes of all sweeps
pub record EndsAtLast (trees : ℕ) (plan : Plan) (w : Seen AnySolver) : Type 0 where
  pub grid : Spacetree
  pub field : States
  pub at : IsAt (parts_in plan.solver) w grid field plan.steps
  pub count : (cuts_of w.keys).trees ≡ trees
  pub noted : HasNotesTo trees plan w.keys plan.steps grid field w.notes

-- a world that was refused a step, with the notes up to the secondary sweeps of it
pub record EndsInStep (trees : ℕ) (plan : Plan) (step : ℕ) (w : Seen AnySolver) : Type 0 where
  pub before : ℕ
  pub step_is : step ≡ suc before
  pub grid : Spacetree
  pub field : States
  pub first : List Note
  pub earlier : HasNotesTo trees plan w.keys before grid field first
  pub noted : w.notes ≡ first ++ computing_notes (sizes_of (cuts_of w.keys)) trees step grid
  pub live : w.live ≡ false

-- with the lines of a step's field a report has too many
abbrev pub PassesLines : Request → Plan → ℕ → States → Type 0
PassesLines r plan zero f = most_lines < added_lines r plan 0 f
PassesLines r plan (suc n) f = (before : Moment) × GoesOn r plan n before
    × (most_lines < before.lines + added_lines r plan (suc n) f)

-- a world at the grid and the field of such a step, with the notes up to the showing of it
pub record EndsUnshown (r : Request) (plan : Plan) (w : Seen AnySolver) : Type 0 where
  pub step : ℕ
  pub grid : Spacetree
  pub field : States
  pub many : PassesLines r plan step field
  pub at : IsAt (parts_in plan.solver) w grid field step
  pub noted : HasNotesBefore r.trees plan w.keys step grid field w.notes

-- the world that a plan's run leaves, by the answer
abbrev pub LeavesWorld : Request → Plan → Answer → Seen AnySolver → Type 0
LeavesWorld r plan Done w = EndsAtLast r.trees plan w
LeavesWorld r plan (WriteFault written) w = EndsAtLast r.trees plan w
LeavesWorld r plan (Overflow step leaf) w = EndsInStep r.trees plan step w
LeavesWorld r plan (Crowded step cells) w = EndsInStep r.trees plan step w
LeavesWorld r plan (Limit Lines number) w = EndsUnshown r plan w
LeavesWorld r plan _ w = ⊥

-- the answers with which a world is left
abbrev pub leaves_world : Answer → Bool
leaves_world Done = true
leaves_world (WriteFault written) = true
leaves_world (Overflow step leaf) = true
leaves_world (Crowded step cells) = true
leaves_world (Limit Lines number) = true
leaves_world _ = false

-- where one is left something holds of it, and else there is none
abbrev pub IsLeft : (Seen AnySolver → Type 0) → Bool → Option (Seen AnySolver) → Type 0
IsLeft P true (Some w) = P w
IsLeft P true None = ⊥
IsLeft P false world = world ≡ None

-- the world that the run of a plan leaves
abbrev pub LeavesOf : Request → Plan → Answer → Option (Seen AnySolver) → Type 0
LeavesOf r plan answer = IsLeft (LeavesWorld r plan answer) (leaves_world answer)

-- of a file's plan, where the source tells what it had
abbrev pub LeavesBy : Request → Answer → Option (List ℕ) → Option (Seen AnySolver) → Type 0
LeavesBy r answer None = IsLeft (λ w. ⊤) (leaves_world answer)
LeavesBy r answer (Some bytes) =
    IsLeft (λ w. OfPlan bytes (λ plan. LeavesWorld r plan answer w)) (leaves_world answer)

-- the notes of the world that is left
abbrev pub notes_of : Option (Seen AnySolver) → List Note
notes_of (Some w) = w.notes
notes_of None = []
