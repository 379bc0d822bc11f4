use Rattle.worked_sweeps.proofs.Lists.{lists_stay}
use Rattle.worked_sweeps.proofs.intending.write_slot.Goals as goal

pub returns : goal.returns
returns g c = lists_stay c.args.k c.args.n c.told-slot.result c.args.store.now c.set_slot.new.self c.set_slot.ensures.slot
