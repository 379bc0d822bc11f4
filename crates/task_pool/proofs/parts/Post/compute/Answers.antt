use Rattle.std.proofs.Common.{subst, ◌∙◌}
use Rattle.solver_api.specs.Parts.{HaveParts}
use Rattle.task_pool.proofs.Fits.{parts_from}
use Rattle.task_pool.proofs.parts.Post.compute.Goals as goal

pub compute-done-requires-clause-parts : goal.compute-done-requires-clause-parts
compute-done-requires-clause-parts g c =
    let job = c.args.job in
    subst (λ n. HaveParts n job.task.own job.task.sides) (c.if-job-parts.false ∙ c.parts.ensures) (parts_from job.parts job.task.own job.task.sides job.fits)
