use Rattle.peano_run.specs.Course.{IsCourse}
use Rattle.peano_run.proofs.course.run_plan.Given as goal

abbrev pub invariant-loop-step : goal.invariant-loop-step
invariant-loop-step g l = IsCourse l.request l.plan l.step l.course
