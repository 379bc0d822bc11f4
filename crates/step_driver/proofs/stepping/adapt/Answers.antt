use Rattle.std.proofs.lemmas.Result.{IfOk-weaker}
use Rattle.curve_cuts.specs.Keys.{cuts_of}
use Rattle.step_world.specs.Notes.{by_trees, note_adapted}
use Rattle.step_driver.specs.Notes.{sizes_of}
use Rattle.step_driver.proofs.Began.{on_err, adapted_trees, adds_all}
use Rattle.step_driver.proofs.stepping.adapt.Goals as goal

pub exchange-requires-after_bounds : goal.exchange-requires-after_bounds
exchange-requires-after_bounds g c κs within =
    let h = c.requires in
    adapted_trees (cuts_of c.args.keys.now) h.0 h.1 c.args.step c.args.stores.items c.in_ok-stores.stores.items c.args.notes.now.items c.adapt_all.new.notes.items h.3 (c.in_ok-stores.ensures.adapted h.0 h.1 h.2 h.3)

pub returns-clause-adapted : goal.returns-clause-adapted
returns-clause-adapted g c = IfOk-weaker c.exchange.result _ _
    (λ after third. λ dir w to can. record { adapted = c.in_ok-stores.stores.items; sweeps = c.in_ok-stores.ensures.adapted dir w to can; third = third })
    c.exchange.ensures

pub returns-clause-stopped : goal.returns-clause-stopped
returns-clause-stopped g c = on_err _ c.exchange.result (λ dir w to can.
    let k = cuts_of c.args.keys.now in
    adds_all c.args.notes.now.items c.adapt_all.new.notes.items (by_trees k.trees (note_adapted (sizes_of k) c.args.step w.old w.new)) (c.in_ok-stores.ensures.adapted dir w to can).noted)
