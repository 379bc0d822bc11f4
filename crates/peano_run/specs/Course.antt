-- The course of a run as the program holds it.
use Rattle.std.specs.Prelude.{◌≡◌, ℕ, ◌+◌, ◌<◌, ◌≤◌, List, ◌++◌, length, if◌then◌else◌, Option, Some, None, Result, Ok, Err}
use Rattle.peano_keys.specs.Field.{States}
use Rattle.spacetree.specs.Fields.{rows_of}
use Rattle.volume_solver.specs.declared.any.AnySolver.{AnySolver}
use Rattle.volume_solver.specs.Any.{parts_in}
use Rattle.curve_cuts.specs.Keys.{cuts_of}
use Rattle.step_driver.specs.Worlds.{Seen, IsAt}
use Rattle.grid_file.specs.declared.plan.Plan.{Plan}
use Rattle.peano_run.specs.declared.answer.Answer.TheVariants.{Limit, NoMemory}
use Rattle.peano_run.specs.declared.answer.LimitKind.TheVariants.{Lines}
use Rattle.peano_run.specs.declared.asked.Request.{Request}
use Rattle.peano_run.specs.declared.course.Course.{Course}
use Rattle.peano_run.specs.declared.refused.Refused.{Refused}
use Rattle.peano_run.specs.Report.{Moment, GoesOn, IsAdded, Refuses, added_lines, shows_fields, most_lines}
use Rattle.peano_run.specs.Left.{HasNotesBefore, HasNotesTo, LeavesOf}

-- a course stands at a moment after so many steps: its world is at the moment's grid and field, and it has the report so far
pub record StandsAtMoment (plan : Plan) (step : ℕ) (c : Course) (m : Moment) : Type 0 where
  pub at : IsAt (parts_in plan.solver) c.world m.grid m.field step
  pub solver : c.world.solver ≡ plan.solver
  pub recut : c.world.recut ≡ plan.recut_every
  pub keys : c.world.keys ≡ m.keys
  pub text : c.text.items ≡ m.text
  pub lines : c.lines ≡ m.lines

-- at some moment
abbrev pub IsUnderWay : Plan → ℕ → Course → Type 0
IsUnderWay plan step c = (m : Moment) × StandsAtMoment plan step c m

-- so before the step is shown, with the notes up to then
pub record StandsUnshown (r : Request) (plan : Plan) (step : ℕ) (c : Course)
    (m : Moment) : Type 0 where
  pub stands : StandsAtMoment plan step c m
  pub noted : HasNotesBefore r.trees plan c.world.keys step m.grid m.field c.world.notes

-- and after it, with its notes
pub record StandsShown (r : Request) (plan : Plan) (step : ℕ) (c : Course)
    (m : Moment) : Type 0 where
  pub stands : StandsAtMoment plan step c m
  pub noted : HasNotesTo r.trees plan c.world.keys step m.grid m.field c.world.notes

-- a course that a run of a plan has come to in so many steps
pub record IsCourse (r : Request) (plan : Plan) (step : ℕ) (c : Course) : Type 0 where
  pub moment : Moment
  pub shown : StandsShown r plan step c moment
  pub reached : GoesOn r plan step moment

-- a run of a plan is refused, and leaves what it leaves
pub record IsStopped (r : Request) (plan : Plan) (refused : Refused) : Type 0 where
  pub cause : Refuses r plan refused.answer
  pub left : LeavesOf r plan refused.answer refused.world

-- how many lines a report has with those of a field, where fields are shown; or they are too many
abbrev pub CountsLines : Request → ℕ → States → Option ℕ → Type 0
CountsLines r lines f (Some all) =
    (all ≡ lines + (if shows_fields r.show then length (rows_of f) else 0))
    × (all ≤ most_lines)
CountsLines r lines f None = most_lines
    < lines + (if shows_fields r.show then length (rows_of f) else 0)

-- a moment with what a step adds to its report
abbrev pub with_text : Request → Plan → ℕ → Moment → List ℕ → Moment
with_text r plan step m added =
    record {
      keys = m.keys;
      grid = m.grid;
      field = m.field;
      text = m.text ++ added;
      lines = m.lines + added_lines r plan step m.field;
    }

-- a course after what a step shows of it
pub record ShowsStep (r : Request) (plan : Plan) (step : ℕ) (before : Moment)
    (after : Course) : Type 0 where
  pub added : List ℕ
  pub told : IsAdded r plan (cuts_of before.keys) step before.grid before.field added
  pub shown : StandsShown r plan step after (with_text r plan step before added)
  pub room : after.lines ≤ most_lines

-- why a step is not shown: with it there are too many lines, and the world is left unshown; or memory ran out
pub data ShowFails (r : Request) (plan : Plan) (step : ℕ) (m : Moment)
    (refused : Refused) : Type 0 where
  too_many : (w : Seen AnySolver)
      → refused ≡ record { answer = Limit Lines most_lines; world = Some w }
      → most_lines < m.lines + added_lines r plan step m.field
      → IsAt (parts_in plan.solver) w m.grid m.field step
      → HasNotesBefore r.trees plan w.keys step m.grid m.field w.notes
      → ShowFails r plan step m refused
  no_memory : refused ≡ record { answer = NoMemory; world = None } → ShowFails r plan step m refused

-- one of both, by the answer
abbrev pub IsShowing : Request → Plan → ℕ → Moment → Result Course Refused → Type 0
IsShowing r plan step m (Ok after) = ShowsStep r plan step m after
IsShowing r plan step m (Err refused) = ShowFails r plan step m refused
