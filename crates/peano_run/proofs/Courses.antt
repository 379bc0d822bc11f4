-- A course goes on from moment to moment.
use Rattle.std.proofs.Common.{◌≡◌, ℕ, suc, ◌<◌, ◌≤◌, Bool, true, false, List, [], length, Option, Some, None, Ok, refl, sym, subst, arith}
use Rattle.peano_keys.specs.Grid.{Spacetree}
use Rattle.peano_keys.specs.Field.{States}
use Rattle.volume_solver.specs.declared.any.AnySolver.{AnySolver}
use Rattle.volume_solver.specs.Any.{parts_in, updated_by, marked_by}
use Rattle.spacetree.specs.Opening.{Opens, OpensField}
use Rattle.spacetree.specs.Counts.{cells_of}
use Rattle.spacetree.specs.Evaluation.{IsServedStep}
use Rattle.curve_cuts.specs.Keys.{CutPoints}
use Rattle.step_driver.specs.Notes.{recuts_in}
use Rattle.step_driver.specs.Starts.{AreEqualKeys}
use Rattle.step_driver.specs.Advances.{AreKeysAfter}
use Rattle.step_driver.specs.Worlds.{Seen}
use Rattle.grid_file.specs.declared.plan.Plan.{Plan}
use Rattle.grid_file.specs.Plan.{plan_of}
use Rattle.peano_run.specs.declared.answer.Answer.{Answer}
use Rattle.peano_run.specs.declared.answer.Answer.TheVariants as answer
use Rattle.peano_run.specs.declared.asked.Request.{Request}
use Rattle.peano_run.specs.declared.course.Course.{Course}
use Rattle.peano_run.specs.declared.refused.Refused.{Refused}
use Rattle.peano_run.specs.Report.{Moment, GoesOn, OfPlan, at_start, in_step, added_lines, most_lines, longest_input}
use Rattle.peano_run.specs.Left.{EndsAtLast, IsLeft, LeavesWorld}
use Rattle.peano_run.specs.Run.{EndsAtReport}
use Rattle.peano_run.proofs.Blocks.{report_of}
use Rattle.peano_run.proofs.Leads.{count_to}
use Rattle.peano_run.specs.Course.{IsCourse, IsStopped, ShowsStep, ShowFails, too_many, no_memory, with_text}

-- the moment before anything is shown
abbrev pub first_moment : CutPoints → Spacetree → States → Moment
first_moment keys g f = record { keys = keys; grid = g; field = f; text = []; lines = 0 }

-- and that after a step of which nothing is shown yet
abbrev pub after_step : Moment → CutPoints → Spacetree → States → Moment
after_step b keys g f = record { keys = keys; grid = g; field = f; text = b.text; lines = b.lines }

-- for want of memory a run stops without a world
pub wants_memory : (r : Request) (plan : Plan) (refused : Refused) → refused ≡ record { answer = answer.NoMemory; world = None } → IsStopped r plan refused
wants_memory r plan refused e = subst (IsStopped r plan) (sym e) (record { cause = tt; left = refl })

module _ (r : Request) (plan : Plan) where
  -- a course that starts
  pub opening_course : (keys : CutPoints) (g : Spacetree) (f : States) (after : Course) → Opens plan.shape g → cells_of g ≤ 200000 → OpensField g plan.fills (parts_in plan.solver) f → AreEqualKeys plan.shape.depth g r.trees keys →
      ShowsStep r plan 0 (first_moment keys g f) after → IsCourse r plan 0 after
  opening_course keys g f after grid room field first h = record {
    moment = with_text r plan 0 (first_moment keys g f) h.added;
    shown = h.shown;
    reached = record {
      reached = record { grid = grid; room = room; field = field; keys = first; text = h.told; lines = omega arith };
      room = (let lines = h.shown.stands.lines in let low = h.room in omega (arith, lines, low));
    };
  }

  -- or is refused at once
  pub opening_refused : (keys : CutPoints) (g : Spacetree) (f : States) (refused : Refused) → Opens plan.shape g → cells_of g ≤ 200000 → OpensField g plan.fills (parts_in plan.solver) f → ShowFails r plan 0 (first_moment keys g f) refused → IsStopped r plan refused
  opening_refused keys g f refused grid room field (no_memory e) = wants_memory r plan refused e
  opening_refused keys g f refused grid room field (too_many w e many at noted) =
      let over : most_lines < added_lines r plan 0 f = omega (arith, many) in
      subst (IsStopped r plan) (sym e) (record {
        cause = (refl, at_start g f grid room field over);
        left = record { step = 0; grid = g; field = f; many = over; at = at; noted = noted };
      })

  module _ (n : ℕ) (b : Moment) (keys : CutPoints) (g : Spacetree) (f : States) (on : GoesOn r plan n b) (taken : IsServedStep (updated_by plan.solver) (marked_by plan.solver) b.grid b.field g f) (cut : AreKeysAfter (recuts_in plan.recut_every (suc n)) g b.keys keys) where
    -- a course that goes on
    pub next_course : (after : Course) → ShowsStep r plan (suc n) (after_step b keys g f) after → IsCourse r plan (suc n) after
    next_course after h = record {
      moment = with_text r plan (suc n) (after_step b keys g f) h.added;
      shown = h.shown;
      reached = record {
        reached = (b, on.reached, record { room = on.room; keys = cut; taken = taken; added = h.added; shown = h.told; text = refl; lines = refl });
        room = (let lines = h.shown.stands.lines in let low = h.room in omega (arith, lines, low));
      };
    }

    -- or is refused because of its lines
    pub next_refused : (refused : Refused) → n < plan.steps → ShowFails r plan (suc n) (after_step b keys g f) refused → IsStopped r plan refused
    next_refused refused more (no_memory e) = wants_memory r plan refused e
    next_refused refused more (too_many w e many at noted) = subst (IsStopped r plan) (sym e) (record {
      cause = (refl, in_step n b g f more on taken many);
      left = record { step = suc n; grid = g; field = f; many = (b, on, many); at = at; noted = noted };
    })

-- a course to the end of a file's plan has the report, and its world is the last one
pub ends_at_report : (r : Request) (bytes : List ℕ) (plan : Plan) (course : Course) → length bytes ≤ longest_input → plan_of bytes ≡ Ok plan → IsCourse r plan plan.steps course → EndsAtReport r bytes course
ends_at_report r bytes plan course size read h =
    let m = h.moment in
    let last : EndsAtLast r.trees plan course.world = record {
      grid = m.grid;
      field = m.field;
      at = h.shown.stands.at;
      count = count_to r.trees plan course.world.keys plan.steps m.grid m.field course.world.notes h.shown.noted;
      noted = h.shown.noted;
    } in
    (record { size = size; plan = plan; read = read; holds = report_of r plan m course.text.items h.reached h.shown.stands.text }, record { size = size; plan = plan; read = read; holds = last })

-- what is left of a plan's run is left of the file's
pub left_of_file : (r : Request) (bytes : List ℕ) (plan : Plan) (a : Answer) (b : Bool) (world : Option (Seen AnySolver)) → length bytes ≤ longest_input → plan_of bytes ≡ Ok plan → IsLeft (LeavesWorld r plan a) b world → IsLeft (λ w. OfPlan bytes (λ p. LeavesWorld r p a w)) b world
left_of_file r bytes plan a true (Some w) size read h = record { size = size; plan = plan; read = read; holds = h }
left_of_file r bytes plan a true None size read h = absurd h
left_of_file r bytes plan a false world size read h = h
