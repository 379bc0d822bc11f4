use Rattle.std.proofs.lemmas.Result.{IfOk-weaker}
use Rattle.curve_cuts.specs.Keys.{cuts_of}
use Rattle.step_driver.proofs.Summed.{added_trees}
use Rattle.step_driver.proofs.summing.settle.Goals as goal

pub exchange-requires-after_bounds : goal.exchange-requires-after_bounds
exchange-requires-after_bounds g c κs within = added_trees (cuts_of c.args.keys.now) c.args.partials.now c.args.stores.items c.in_ok-added.added.items c.in_ok-added.ensures c.requires.trees

pub returns : goal.returns
returns g c = IfOk-weaker c.exchange.result _ _ (λ after second. record { added = c.in_ok-added.added.items; sums = c.in_ok-added.ensures; second = second }) c.exchange.ensures
