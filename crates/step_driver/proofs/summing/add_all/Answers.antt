use Rattle.std.proofs.lemmas.Result.{IfOk-weaker}
use Rattle.curve_cuts.specs.Keys.{cuts_of}
use Rattle.shared_sums.specs.Adding.{TakesMeans}
use Rattle.step_driver.specs.Summing.{TakesSums}
use Rattle.step_driver.proofs.Gives.{each_given, each_is}
use Rattle.step_driver.proofs.Summed.{takes_at, added_all}
use Rattle.step_driver.proofs.summing.add_all.Goals as goal

pub add_each-requires-after_bounds : goal.add_each-requires-after_bounds
add_each-requires-after_bounds g c κs within =
    let k = cuts_of c.args.keys.now in
    each_is (TakesSums k c.args.all.now) k.trees c.args.stores.items c.requires.trees.count (takes_at k c.args.all.now c.args.stores.items c.requires)

pub returns : goal.returns
returns g c =
    let k = cuts_of c.args.keys.now in
    IfOk-weaker c.all_of.result _ _
    (λ after is. added_all k c.args.all.now c.args.stores.items after.items c.requires (each_given (TakesMeans k c.args.all.now) c.args.stores.items c.in_ok-add_each.field-0.items after.items c.in_ok-add_each.ensures is)) c.all_of.ensures
