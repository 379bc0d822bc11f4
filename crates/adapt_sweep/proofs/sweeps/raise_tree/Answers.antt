use Rattle.std.proofs.Common.{◌∙◌, false, refl, ap, arith}
use Rattle.peano_keys.specs.Grid.{Spacetree}
use Rattle.curve_cuts.specs.Keys.{cuts_of}
use Rattle.tree_automaton.specs.declared.kinds.Serves.TheVariants.{Raising}
use Rattle.tree_automaton.specs.Promises.{Meaning}
use Rattle.adapt_sweep.specs.declared.raise.Raise.{Raise}
use Rattle.std.proofs.lemmas.Result.{IfOk-weaker}
use Rattle.adapt_sweep.proofs.Alone.{alone_stands}
use Rattle.adapt_sweep.proofs.RaisedTrees.{can_raise, raised_tree, if_both}
use Rattle.adapt_sweep.proofs.sweeps.raise_tree.Goals as goal

meaning_of : Raise → Meaning
meaning_of r = record { serves = Raising; dim = r.grid.now.dim; new_grid = r.grid.now; may_want = false; loan = 0 }

pub new-visitor-requires-clause-depth : goal.new-visitor-requires-clause-depth
new-visitor-requires-clause-depth c = (let cut = c.requires.store.grid in record { cells = cut.grid.cells; levels = λ q h. omega (arith, cut.grid.levels q h, cut.deepest); parents = cut.grid.parents })

pub new-visitor-requires-clause-parts : goal.new-visitor-requires-clause-parts
new-visitor-requires-clause-parts c = c.requires.field

pub sweep-requires : goal.sweep-requires
unfolding meaning_of
sweep-requires c =
    let grid = c.new-visitor.ensures.grid in
    let can = can_raise (cuts_of c.args.keys.now) c.args.grid.now c.args.field.now c.args.store.now (meaning_of c.new-visitor.result) c.requires.store refl (ap (λ (t : Spacetree). t.dim) grid) grid in
    record { asks = (can.sweep, can.asks) }

pub returns-clause-raised : goal.returns-clause-raised
unfolding meaning_of
returns-clause-raised c =
    let r = c.new-visitor.result in
    let grid = c.new-visitor.ensures.grid in
    let dim = ap (λ (t : Spacetree). t.dim) grid in
    let can = can_raise (cuts_of c.args.keys.now) c.args.grid.now c.args.field.now c.args.store.now (meaning_of r) c.requires.store refl dim grid in
    if_both c.sweep.result
    (λ note done rest. raised_tree (cuts_of c.args.keys.now) c.args.grid.now c.args.field.now c.args.store.now c.sweep.new.store r c.sweep.new.visitor (meaning_of r) c.requires.store refl dim grid
    (ap cuts_of c.new-visitor.ensures.keys) grid c.new-visitor.ensures.field (c.new-visitor.ensures.tree ∙ c.tree-tree.ensures) c.args.step note (done can.sweep can.asks) (rest can.sweep can.asks))
    c.sweep.ensures.done c.sweep.ensures.rest

pub returns-clause-alone : goal.returns-clause-alone
returns-clause-alone c = IfOk-weaker c.sweep.result _ _
    (λ note raised one. alone_stands (cuts_of c.args.keys.now) c.args.grid.now c.args.field.now c.args.step c.args.store.now c.sweep.new.store note c.requires.store.grid c.requires.store.tree one raised)
    (returns-clause-raised c)
