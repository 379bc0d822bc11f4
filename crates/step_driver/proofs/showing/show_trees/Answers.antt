use Rattle.std.proofs.Common.{length, ap, sym, subst, ◌∙◌}
use Rattle.curve_cuts.specs.Keys.{cuts_of}
use Rattle.step_driver.specs.Showing.{AreRowsOf}
use Rattle.step_driver.proofs.Advances.{written_back}
use Rattle.step_driver.proofs.Began.{stand_on, on_err}
use Rattle.step_driver.proofs.Rests.{all_rows, gathers_no_raising, still_at, told}
use Rattle.step_driver.proofs.showing.show_trees.Goals as goal

pub show_all-requires-clause-stores : goal.show_all-requires-clause-stores
show_all-requires-clause-stores g c κs within =
    let h = c.requires.at in
    let at = h.4 in
    (h.0, (at.dir, h.2, h.3, stand_on h.0 (cuts_of c.args.keys.now) c.args.stores.items c.args.notes.now.items h.1 h.2 h.3 at))

pub returns-in_err-trees-clause-stopped : goal.returns-in_err-trees-clause-stopped
returns-in_err-trees-clause-stopped g c = on_err _ c.from_residual.result
    (λ parts cells g f at. c.in_err-trees.ensures.stopped parts at.dir g f (stand_on parts (cuts_of c.args.keys.now) c.args.stores.items c.args.notes.now.items cells g f at))

pub returns-clause-shown : goal.returns-clause-shown
returns-clause-shown g c = λ parts cells g f at.
    let k = cuts_of c.args.keys.now in
    let gathered = c.in_ok-trees.trees.shown.rows in
    let shown = c.in_ok-trees.ensures.shown parts at.dir g f (stand_on parts k c.args.stores.items c.args.notes.now.items cells g f at) in
    let sorted = c.put_in_order.ensures.sorted f (subst (AreRowsOf f) (sym c.as_mut_slice.ensures.value) (all_rows k g f gathered.items at.fits at.field.leaves shown.gathered.rows)) in
    let whole = written_back gathered.items c.put_in_order.new.rows gathered.len gathered.ok.0 (c.put_in_order.ensures.len ∙ ap length c.as_mut_slice.ensures.value) in
    record {
      step_is = c.in_ok-trees.ensures.step;
      rows = sym whole ∙ sorted;
      traffic = told parts k g f c.args.step c.args.kind cells c.args.stores.items c.in_ok-trees.trees.stores.items c.args.notes.now.items c.show_all.new.notes.items c.in_ok-trees.trees.shown c.tale_of_notes_grows.ensures (gathers_no_raising c.args.kind c.requires.kind) at shown;
      at = still_at parts k g f c.args.step c.args.kind cells c.args.stores.items c.in_ok-trees.trees.stores.items c.args.notes.now.items c.show_all.new.notes.items c.in_ok-trees.trees.shown c.tale_of_notes_grows.ensures (gathers_no_raising c.args.kind c.requires.kind) at shown;
      noted = shown.gathered.noted;
    }
