use Rattle.peano_curve.specs.declared.order.Direction.TheVariants.{Backward}
use Rattle.curve_cuts.specs.Keys.{cuts_of}
use Rattle.step_driver.proofs.Exchanges.{trees_from_lists}
use Rattle.step_driver.proofs.Starts.{raised_lists, started}
use Rattle.step_driver.proofs.raising.plant.Goals as goal

pub exchange-requires-after_bounds : goal.exchange-requires-after_bounds
exchange-requires-after_bounds g c κs within =
    let k = cuts_of c.args.keys.now in
    let stores = c.in_ok-raised.raised.stores.items in
    let notes = c.in_ok-raised.raised.notes.items in
    trees_from_lists k Backward c.args.grid.now stores c.requires.grid (raised_lists k c.args.grid.now c.args.field.now c.args.step stores notes c.requires.grid c.requires.field.1.leaves c.in_ok-raised.ensures)

pub returns : goal.returns
returns g c =
    let k = cuts_of c.args.keys.now in
    started k c.args.grid.now c.args.field.now c.args.step c.in_ok-raised.raised.stores.items c.in_ok-raised.raised.notes.items c.requires.grid c.requires.field.1.leaves c.in_ok-raised.ensures c.in_ok-stores.stores.items c.in_ok-stores.ensures
