use Rattle.std.proofs.Common.{◌≡◌, ◌<◌, ◌++◌, List, length, ap, sym, subst, ◌∙◌, append-nil, arith}
use Rattle.std.proofs.lemmas.Result.{IfOk-weaker}
use Rattle.curve_cuts.specs.Keys.{cuts_of}
use Rattle.step_driver.specs.declared.beside.Swept.{Swept}
use Rattle.step_driver.specs.Gives.{EachGives}
use Rattle.step_driver.specs.Notes.{sizes_of}
use Rattle.step_driver.specs.Stores.{no_store, store_of}
use Rattle.step_driver.proofs.Began.{adds_trees, on_err}
use Rattle.step_driver.proofs.Gives.{each_given, each_is, gives_item, below_trees, all_trees}
use Rattle.step_world.specs.Notes.{note_adapted, by_trees}
use Rattle.step_driver.specs.Adapting.{Adapts, CanTake}
use Rattle.step_driver.proofs.AdaptedTrees.{noted_more, stores_adapted}
use Rattle.step_driver.proofs.adapting.adapt_all.Goals as goal

pub adapt_each-requires-after_bounds : goal.adapt_each-requires-after_bounds
adapt_each-requires-after_bounds g c κs within =
    let h = c.requires in
    let k = cuts_of c.args.keys.now in
    each_is (CanTake k g.N.NewGrid.grid) k.trees c.args.stores.items h.3.count (λ t below. (h.1, h.2, h.3.each t below))

pub loop-tree-init : goal.loop-tree-init
loop-tree-init g c = λ dir w to all. sym (append-nil c.args.notes.now.items)

pub returns-in_err-push-clause-stopped : goal.returns-in_err-push-clause-stopped
returns-in_err-push-clause-stopped g c = on_err _ c.from_residual-in_err-push.result (λ dir w to all.
    let k = cuts_of c.args.keys.now in
    let below : c.loop-tree.tree-index < k.trees = below_trees (c.in_ok-adapt_each.field-0.items) c.in_ok-swept.swept.items c.deref-tree-items.result.now c.loop-tree.tree-index k.trees c.in_ok-swept.ensures (c.in_ok-adapt_each.ensures.count ∙ all.count) c.deref-tree-items.ensures.value c.loop-tree-test.true in
    adds_trees (note_adapted (sizes_of k) c.args.step w.old w.new) c.loop-tree.tree-index k.trees c.args.notes.now.items c.push.new.self.items (omega (arith, below)) (c.in_err-push.ensures.items ∙ c.loop-tree.invariant dir w to all))

pub loop-tree-preserved : goal.loop-tree-preserved
loop-tree-preserved g c = λ dir w to all.
    let k = cuts_of c.args.keys.now in
    let m = c.loop-tree.tree-index in
    let item = c.tree-item.result in
    let gives = subst (λ (s : List (Swept Unit)). EachGives (Adapts k g.N.NewGrid.grid c.args.step) c.args.stores.items s) (sym c.deref-tree-items.ensures.value) (each_given (Adapts k g.N.NewGrid.grid c.args.step) c.args.stores.items c.in_ok-adapt_each.field-0.items c.in_ok-swept.swept.items c.in_ok-adapt_each.ensures c.in_ok-swept.ensures) in
    let below : c.loop-tree.tree-index < k.trees = below_trees (c.in_ok-adapt_each.field-0.items) c.in_ok-swept.swept.items c.deref-tree-items.result.now c.loop-tree.tree-index k.trees c.in_ok-swept.ensures (c.in_ok-adapt_each.ensures.count ∙ all.count) c.deref-tree-items.ensures.value c.loop-tree-test.true in
    let inside : m < length c.args.stores.items = omega (arith, below, all.count) in
    let adapts = gives_item (Adapts k g.N.NewGrid.grid c.args.step) c.args.stores.items c.deref-tree-items.result.now m no_store item gives inside c.tree-item.is in
    c.in_ok-push.ensures.items ∙ noted_more k dir w c.args.step m c.args.stores.items c.args.notes.now.items c.loop-tree.notes.items item all below (c.loop-tree.invariant dir w to all) (subst (λ new. Adapts k new c.args.step (store_of c.args.stores.items m) item) (sym to) adapts)

pub returns-clause-adapted : goal.returns-clause-adapted
returns-clause-adapted g c = IfOk-weaker c.stores_of.result _ _
    (λ after is. λ dir w to all.
    let k = cuts_of c.args.keys.now in
    let swept = c.in_ok-swept.swept.items in
    let gives = each_given (Adapts k g.N.NewGrid.grid c.args.step) c.args.stores.items c.in_ok-adapt_each.field-0.items c.in_ok-swept.swept.items c.in_ok-adapt_each.ensures c.in_ok-swept.ensures in
    let whole : c.loop-tree.tree-index ≡ k.trees = all_trees (c.in_ok-adapt_each.field-0.items) c.in_ok-swept.swept.items c.deref-tree-items.result.now c.loop-tree.tree-index k.trees c.in_ok-swept.ensures (c.in_ok-adapt_each.ensures.count ∙ all.count) c.deref-tree-items.ensures.value c.loop-tree-test.false c.loop-tree.auto.tree-index-end in
    record {
      trees = stores_adapted k dir w c.args.step c.args.stores.items after.items swept all (subst (λ new. EachGives (Adapts k new c.args.step) c.args.stores.items swept) (sym to) gives) is;
      noted = c.loop-tree.invariant dir w to all ∙ ap (λ n. c.args.notes.now.items ++ by_trees n (note_adapted (sizes_of k) c.args.step w.old w.new)) whole;
    }) c.stores_of.ensures

pub returns-clause-stopped : goal.returns-clause-stopped
returns-clause-stopped g c = on_err _ c.stores_of.result (λ dir w to all.
    let k = cuts_of c.args.keys.now in
    let whole : c.loop-tree.tree-index ≡ k.trees = all_trees (c.in_ok-adapt_each.field-0.items) c.in_ok-swept.swept.items c.deref-tree-items.result.now c.loop-tree.tree-index k.trees c.in_ok-swept.ensures (c.in_ok-adapt_each.ensures.count ∙ all.count) c.deref-tree-items.ensures.value c.loop-tree-test.false c.loop-tree.auto.tree-index-end in
    adds_trees (note_adapted (sizes_of k) c.args.step w.old w.new) c.loop-tree.tree-index k.trees c.args.notes.now.items c.loop-tree.notes.items (omega (arith, whole)) (c.loop-tree.invariant dir w to all))
