use Rattle.std.proofs.Common.{◌≡◌, subst, arith}
use Rattle.peano_run.specs.Course.{IsCourse}
use Rattle.peano_run.proofs.course.run_plan.Goals as goal

pub returns-clause-ok : goal.returns-clause-ok
returns-clause-ok g c =
    let whole : c.loop-step.step ≡ c.args.plan.now.steps = omega (arith, c.loop-step-test.false, c.loop-step.auto.step-end) in
    subst (λ n. IsCourse c.args.request c.args.plan.now n c.loop-step.course) whole c.loop-step.invariant
