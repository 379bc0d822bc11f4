use Rattle.std.proofs.Common.{get_or, subst, ◌∙◌, arith}
use Rattle.task_core.specs.declared.event.Event.TheVariants.{Visit}
use Rattle.task_core.specs.Core.{stepped}
use Rattle.task_core.specs.Replies.{core_of, solver_of, Replies}
use Rattle.task_core.proofs.Found.{run_step}
use Rattle.task_core.proofs.machine.Core.run.Goals as goal

pub loop-event-preserved : goal.loop-event-preserved
loop-event-preserved g c =
    let at = c.loop-event in
    let told = subst (λ s. Replies (stepped (g.S.Solver.updated s) (core_of at.self) (get_or c.args.events.now at.event-index (Visit 0))) (core_of at.self) c.in_ok-reply.reply (core_of c.step.new.self)) at.invariant.3 c.in_ok-reply.ensures.ok in
    let more = run_step (g.S.Solver.updated (solver_of c.args.self.now)) (core_of c.args.self.now) c.args.events.now at.event-index at.applied c.count-applied.result (Visit 0) (core_of at.self) (core_of c.step.new.self) c.in_ok-reply.reply c.loop-event-test.true at.invariant.0 at.invariant.1 told c.count-applied.ensures in
    (more.0, more.1, omega (arith, at.invariant.2, more.2), c.step.ensures.solver ∙ at.invariant.3)
