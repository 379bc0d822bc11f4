use Rattle.curve_cuts.specs.Keys.{cuts_of}
use Rattle.step_driver.proofs.Starts.{made_for, raised_store}
use Rattle.step_driver.proofs.raising.raise_one.Goals as goal

pub returns : goal.returns
returns c = raised_store (cuts_of c.args.keys.now) c.args.grid.now c.args.field.now c.args.step c.args.tree c.new-store.result (record { store = c.raise_tree.new.store; note = c.in_ok-note.note; found = tt }) c.requires.grid
    (made_for (cuts_of c.args.keys.now) c.args.tree c.dim.result c.depth.result c.range.result c.new-store.result c.dim.ensures c.depth.ensures.value c.range.ensures c.new-store.ensures)
    c.in_ok-note.ensures.raised
