use Rattle.std.proofs.Common.{rules, sym, subst}
use Rattle.step_driver.specs.Computing.{CanCompute, seen_job}
use Rattle.step_driver.proofs.computing.compute_jobs.Goals as goal

pub map_vec-requires-after_bounds : goal.map_vec-requires-after_bounds
map_vec-requires-after_bounds g c κs within = λ i x inside is. (subst (λ y. CanCompute (g.S.Solver.parts_of y.solver.now) (seen_job y)) (sym is) (c.requires i x inside), search rules)
