use Rattle.std.proofs.Common.{sym, subst}
use Rattle.curve_cuts.specs.Keys.{cuts_of}
use Rattle.showing_sweep.specs.Sweeps.{CanShow}
use Rattle.step_driver.proofs.showing.show_each.Goals as goal

pub map_vec-requires-after_bounds : goal.map_vec-requires-after_bounds
map_vec-requires-after_bounds g c κs within = λ i x inside is. (subst (CanShow (cuts_of c.args.keys.now)) (sym is) (c.requires.stores i x inside), c.requires.kind)
