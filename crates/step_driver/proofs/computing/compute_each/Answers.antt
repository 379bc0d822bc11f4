use Rattle.step_driver.proofs.Computed.{if_ok}
use Rattle.step_driver.proofs.Jobs.{jobs_can, jobs_gave}
use Rattle.step_driver.proofs.computing.compute_each.Goals as goal

pub compute_jobs-requires-after_bounds : goal.compute_jobs-requires-after_bounds
compute_jobs-requires-after_bounds g c κs within = jobs_can c.args.solver.now c.args.keys.now c.args.step c.args.trees.items c.in_ok-jobs_with.field-0.items c.in_ok-jobs_with.ensures g.S.Solver.parts_of c.requires

pub returns : goal.returns
returns g c = if_ok c.compute_jobs.result _ _ (λ given gave. jobs_gave c.args.solver.now c.args.keys.now c.args.step c.args.trees.items c.in_ok-jobs_with.field-0.items c.in_ok-jobs_with.ensures (λ s. record { parts = g.S.Solver.parts_of s; updated = g.S.Solver.updated s; marked = g.S.Solver.marked s }) given.items gave) c.compute_jobs.ensures
