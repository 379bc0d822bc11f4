use Rattle.std.proofs.Common.{◌++◌, ◌≡◌, ap, sym, subst, ◌∙◌}
use Rattle.peano_keys.specs.Grid.{IsGrid}
use Rattle.curve_cuts.specs.Keys.{cuts_of}
use Rattle.spacetree.specs.declared.row.Row.{Row}
use Rattle.step_driver.specs.Recutting.{AreRowsIn, IsGathered, AreNotCut}
use Rattle.step_driver.specs.Starts.{AreEqualKeys}
use Rattle.step_driver.proofs.Began.{on_err}
use Rattle.step_driver.proofs.Recuts.{cut_done, field_fits, gathered_alone, grid_stays, not_gathered, rows_in}
use Rattle.step_driver.proofs.recutting.cut_anew.Goals as goal

pub returns-in_err-shown-clause-stopped : goal.returns-in_err-shown-clause-stopped
returns-in_err-shown-clause-stopped g c = on_err _ c.from_residual.result (λ parts cells grid f at.
    not_gathered parts c.args.keys.now grid f c.args.step cells c.args.stores.items c.args.notes.now.items at c.show_trees.new.notes.items (c.in_err-shown.ensures.stopped parts cells grid f at))

pub gather-requires-clause-rows : goal.gather-requires-clause-rows
gather-requires-clause-rows g c =
    let h = c.requires in
    let shown = c.in_ok-shown.ensures.shown h.0 h.1 h.2 h.3 h.4 in (
      h.2,
      h.3,
      subst (λ dim. AreRowsIn dim c.depth.result h.2 h.3 c.as_slice.result.now) (sym c.dim.ensures)
          (subst (λ depth. AreRowsIn c.args.keys.now.dim depth h.2 h.3 c.as_slice.result.now) (sym c.depth.ensures.value)
          (subst (AreRowsIn c.args.keys.now.dim c.args.keys.now.depth h.2 h.3) (sym c.as_slice.ensures.value)
          (rows_in h.0 c.args.keys.now h.2 h.3 c.args.step h.1 c.args.stores.items c.args.notes.now.items h.4 c.in_ok-shown.field-0.stores.items c.show_trees.new.notes.items c.in_ok-shown.field-0.shown shown))),
    )

pub returns-in_err-gathered-clause-stopped : goal.returns-in_err-gathered-clause-stopped
returns-in_err-gathered-clause-stopped g c = on_err _ c.from_residual-in_err-gathered.result (λ parts cells grid f at.
    gathered_alone parts c.args.keys.now grid f c.args.step cells c.args.stores.items c.args.notes.now.items at c.in_ok-shown.field-0.stores.items c.show_trees.new.notes.items c.in_ok-shown.field-0.shown (c.in_ok-shown.ensures.shown parts cells grid f at))

pub equal_keys-requires-clause-grid : goal.equal_keys-requires-clause-grid
equal_keys-requires-clause-grid g c =
    let h = c.requires in
    let shown = c.in_ok-shown.ensures.shown h.0 h.1 h.2 h.3 h.4 in
    let tells = subst (λ dim. IsGathered dim c.args.keys.now.depth c.in_ok-shown.field-0.shown.rows.items c.in_ok-gathered.gathered) c.dim.ensures
    (subst (λ depth. IsGathered c.dim.result depth c.in_ok-shown.field-0.shown.rows.items c.in_ok-gathered.gathered) c.depth.ensures.value
    (subst (λ rows. IsGathered c.dim.result c.depth.result rows c.in_ok-gathered.gathered) c.as_slice.ensures.value c.in_ok-gathered.ensures)) in
    subst (λ depth. IsGrid depth c.in_ok-gathered.gathered.grid) (sym c.depth-2.ensures.value)
    (grid_stays h.0 c.args.keys.now h.2 h.3 c.args.step h.1 c.args.stores.items c.args.notes.now.items h.4 c.in_ok-shown.field-0.stores.items c.show_trees.new.notes.items c.in_ok-shown.field-0.shown shown c.in_ok-gathered.gathered tells)

pub returns-in_err-cut-clause-stopped : goal.returns-in_err-cut-clause-stopped
returns-in_err-cut-clause-stopped g c = on_err _ c.from_residual-in_err-cut.result (λ parts cells grid f at.
    gathered_alone parts c.args.keys.now grid f c.args.step cells c.args.stores.items c.args.notes.now.items at c.in_ok-shown.field-0.stores.items c.show_trees.new.notes.items c.in_ok-shown.field-0.shown (c.in_ok-shown.ensures.shown parts cells grid f at))

pub plant-requires-clause-field : goal.plant-requires-clause-field
plant-requires-clause-field g c κs within =
    let h = c.requires in
    let shown = c.in_ok-shown.ensures.shown h.0 h.1 h.2 h.3 h.4 in
    let tells = subst (λ dim. IsGathered dim c.args.keys.now.depth c.in_ok-shown.field-0.shown.rows.items c.in_ok-gathered.gathered) c.dim.ensures
    (subst (λ depth. IsGathered c.dim.result depth c.in_ok-shown.field-0.shown.rows.items c.in_ok-gathered.gathered) c.depth.ensures.value
    (subst (λ rows. IsGathered c.dim.result c.depth.result rows c.in_ok-gathered.gathered) c.as_slice.ensures.value c.in_ok-gathered.ensures)) in
    (h.0, field_fits h.0 c.args.keys.now h.2 h.3 c.args.step h.1 c.args.stores.items c.args.notes.now.items h.4 c.in_ok-shown.field-0.stores.items c.show_trees.new.notes.items c.in_ok-shown.field-0.shown shown c.in_ok-gathered.gathered tells)

pub returns-in_err-forest-clause-stopped : goal.returns-in_err-forest-clause-stopped
returns-in_err-forest-clause-stopped g c = on_err _ c.from_residual-in_err-forest.result (λ parts cells grid f at.
    gathered_alone parts c.args.keys.now grid f c.args.step cells c.args.stores.items c.args.notes.now.items at c.in_ok-shown.field-0.stores.items c.show_trees.new.notes.items c.in_ok-shown.field-0.shown (c.in_ok-shown.ensures.shown parts cells grid f at))

pub returns-in_err-extend_from_slice-clause-stopped : goal.returns-in_err-extend_from_slice-clause-stopped
returns-in_err-extend_from_slice-clause-stopped g c = on_err _ c.from_residual-in_err-extend_from_slice.result (λ parts cells grid f at.
    subst (AreNotCut c.args.keys.now grid c.args.step c.args.notes.now.items) (sym c.in_err-extend_from_slice.ensures.items)
    (gathered_alone parts c.args.keys.now grid f c.args.step cells c.args.stores.items c.args.notes.now.items at c.in_ok-shown.field-0.stores.items c.show_trees.new.notes.items c.in_ok-shown.field-0.shown (c.in_ok-shown.ensures.shown parts cells grid f at)))

pub returns-clause-cut : goal.returns-clause-cut
returns-clause-cut g c = λ parts cells grid f at.
    let shown = c.in_ok-shown.ensures.shown parts cells grid f at in
    let tells = subst (λ dim. IsGathered dim c.args.keys.now.depth c.in_ok-shown.field-0.shown.rows.items c.in_ok-gathered.gathered) c.dim.ensures
    (subst (λ depth. IsGathered c.dim.result depth c.in_ok-shown.field-0.shown.rows.items c.in_ok-gathered.gathered) c.depth.ensures.value
    (subst (λ rows. IsGathered c.dim.result c.depth.result rows c.in_ok-gathered.gathered) c.as_slice.ensures.value c.in_ok-gathered.ensures)) in
    cut_done parts c.args.keys.now grid f c.args.step cells c.args.stores.items c.args.notes.now.items at c.in_ok-shown.field-0.stores.items c.show_trees.new.notes.items c.in_ok-shown.field-0.shown shown c.in_ok-gathered.gathered tells c.tale_of_notes_grows.ensures
    (record { keys = c.in_ok-cut.cut; stores = c.in_ok-forest.forest.stores }) c.in_ok-forest.forest.notes.items c.extend_from_slice.new.self.items (subst (λ n. AreEqualKeys c.args.keys.now.depth c.in_ok-gathered.gathered.grid n c.in_ok-cut.cut) c.trees.ensures.value (subst (λ n. AreEqualKeys n c.in_ok-gathered.gathered.grid c.trees.result c.in_ok-cut.cut) c.depth-2.ensures.value c.in_ok-cut.ensures.first)) c.in_ok-cut.ensures.fits c.in_ok-forest.ensures
    (c.in_ok-extend_from_slice.ensures.items ∙ ap (λ ns. c.show_trees.new.notes.items ++ ns) c.as_slice-2.ensures.value)
