use Rattle.std.proofs.Common.{rules, sym, subst}
use Rattle.curve_cuts.specs.Keys.{cuts_of}
use Rattle.step_driver.specs.Finishing.{CanFinishJob}
use Rattle.step_driver.proofs.finishing.finish_each.Goals as goal

pub map_vec-requires-after_bounds : goal.map_vec-requires-after_bounds
map_vec-requires-after_bounds g c κs within = λ i x inside is. (subst (CanFinishJob (record { parts = g.S.Solver.parts_of c.args.solver.now; updated = g.S.Solver.updated c.args.solver.now; marked = g.S.Solver.marked c.args.solver.now }) (cuts_of c.args.keys.now) c.args.solver.now) (sym is) (c.requires i x inside), search rules)
