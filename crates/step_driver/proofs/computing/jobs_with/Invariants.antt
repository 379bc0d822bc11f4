use Rattle.std.proofs.Common.{◌≡◌, ◌++◌, map}
use Rattle.step_driver.specs.Computing.{seen_job, job_for}
use Rattle.step_driver.proofs.computing.jobs_with.Given as goal

abbrev pub invariant-loop-store : goal.invariant-loop-store
invariant-loop-store g l = map seen_job l.jobs.items ++ map (job_for l.solver l.keys l.step) l.store-iterator.rest.items ≡ map (job_for l.solver l.keys l.step) l.fn.trees.items
