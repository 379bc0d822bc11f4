use Rattle.peano_run.proofs.Courses.{ends_at_report}
use Rattle.peano_run.proofs.report.report.Goals as goal

pub returns-in-Ok-run_plan-clause-ok : goal.returns-in-Ok-run_plan-clause-ok
returns-in-Ok-run_plan-clause-ok g c = ends_at_report c.args.request c.args.bytes.now c.in-Ok.plan c.in-Ok-run_plan.course c.requires.size c.in-Ok.ensures.value c.in-Ok-run_plan.ensures.ok
