use Rattle.std.proofs.Common.{sym, subst}
use Rattle.curve_cuts.specs.Keys.{cuts_of}
use Rattle.step_driver.specs.Adapting.{CanTake}
use Rattle.step_driver.proofs.adapting.adapt_each.Goals as goal

pub map_vec-requires-after_bounds : goal.map_vec-requires-after_bounds
map_vec-requires-after_bounds g c κs within = λ i x inside is. subst (CanTake (cuts_of c.args.keys.now) g.N.NewGrid.grid) (sym is) (c.requires i x inside)
