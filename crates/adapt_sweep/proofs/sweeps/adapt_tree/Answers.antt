use Rattle.std.proofs.Common.{◌∙◌, false, refl, ap, sym, subst}
use Rattle.peano_keys.specs.Grid.{Spacetree}
use Rattle.curve_cuts.specs.Keys.{cuts_of}
use Rattle.tree_automaton.specs.declared.kinds.Serves.TheVariants.{Adapting}
use Rattle.tree_automaton.specs.Promises.{Meaning}
use Rattle.adapt_sweep.specs.Adapts.{Adapts}
use Rattle.adapt_sweep.proofs.RaisedTrees.{if_both}
use Rattle.adapt_sweep.proofs.Trees.{can_adapt, adapted_tree}
use Rattle.adapt_sweep.proofs.sweeps.adapt_tree.Goals as goal

abbrev meaning_of : Spacetree → Meaning
meaning_of grid = record { serves = Adapting; dim = grid.dim; new_grid = grid; may_want = false; loan = 0 }

pub sweep-requires : goal.sweep-requires
sweep-requires g c =
    let new = sym c.requires.1 in
    let can = can_adapt (cuts_of c.args.keys.now) c.requires.0 c.args.store.now (meaning_of g.N.NewGrid.grid) c.requires.2 refl (ap (λ (t : Spacetree). t.dim) new) new in
    record { asks = (can.sweep, can.asks) }

pub returns-clause-adapted : goal.returns-clause-adapted
returns-clause-adapted g c =
    let k = cuts_of c.args.keys.now in
    let s = c.args.store.now in
    let r = c.new-visitor.result in
    if_both c.sweep.result
    (λ note done rest. λ w is can.
    let new = sym is in
    let dim = ap (λ (t : Spacetree). t.dim) new in
    let asked = can_adapt k w s (meaning_of g.N.NewGrid.grid) can refl dim new in
    adapted_tree _ _ r c.sweep.new.visitor k w s c.sweep.new.store (meaning_of g.N.NewGrid.grid) can refl dim new
    (λ x y v z same h. (h.0 ∙ same, subst (λ q. Adapts q s.tree v z) (ap (λ a. cuts_of a.keys.now) same ∙ ap cuts_of c.new-visitor.ensures.keys) (subst (λ n. Adapts (cuts_of x.keys.now) n v z) (ap (λ a. a.tree) same ∙ (c.new-visitor.ensures.tree ∙ c.tree-tree.ensures)) h.1)))
    (λ x y v z same h. (h.0 ∙ same, h.1))
    c.args.step note (done asked.sweep asked.asks) (rest asked.sweep asked.asks))
    c.sweep.ensures.done c.sweep.ensures.rest
