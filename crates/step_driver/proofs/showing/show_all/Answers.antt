use Rattle.std.proofs.Common.{◌≡◌, ◌<◌, ◌+◌, [], ◌∷◌, ◌++◌, List, length, ap, sym, subst, ◌∙◌, arith}
use Rattle.curve_cuts.specs.Keys.{cuts_of}
use Rattle.step_driver.specs.declared.beside.Swept.{Swept}
use Rattle.step_driver.specs.Gives.{EachGives}
use Rattle.step_driver.specs.Notes.{sizes_of}
use Rattle.step_driver.specs.Stores.{no_store}
use Rattle.step_driver.proofs.Began.{adds_trees, on_err}
use Rattle.step_driver.proofs.Gives.{each_given, each_is, gives_item, below_trees, all_trees}
use Rattle.step_world.specs.Notes.{note_over}
use Rattle.showing_sweep.specs.Sweeps.{CanShow}
use Rattle.showing_sweep.specs.declared.shown.Shown.{Shown as ShownTree}
use Rattle.step_driver.specs.Showing.{ShowsTree, GatheredFirst}
use Rattle.step_driver.proofs.Showns.{shown_more, stores_shown}
use Rattle.step_driver.proofs.showing.show_all.Goals as goal

pub show_each-requires-clause-stores : goal.show_each-requires-clause-stores
show_each-requires-clause-stores g c κs within =
    let h = c.requires.stores in
    let k = cuts_of c.args.keys.now in
    each_is (CanShow k) k.trees c.args.stores.items h.1.3.count (λ t below. (h.0, (h.1.0, h.1.1, h.1.2, h.1.3.each t below)))

pub returns-in_err-extend_from_slice-clause-stopped : goal.returns-in_err-extend_from_slice-clause-stopped
returns-in_err-extend_from_slice-clause-stopped g c = on_err _ c.from_residual-in_err-extend_from_slice.result (λ parts dir grid f all.
    let k = cuts_of c.args.keys.now in
    let below : c.loop-tree.tree-index < k.trees = below_trees (c.in_ok-show_each.field-0.items) c.in_ok-swept.swept.items c.deref-tree-items.result.now c.loop-tree.tree-index k.trees c.in_ok-swept.ensures (c.in_ok-show_each.ensures.count ∙ all.count) c.deref-tree-items.ensures.value c.loop-tree-test.true in
    adds_trees (note_over (sizes_of k) c.args.step c.args.kind grid) c.loop-tree.tree-index k.trees c.args.notes.now.items c.loop-tree.notes.items (omega (arith, below)) (c.loop-tree.invariant parts dir grid f all).noted)

pub returns-in_err-push-clause-stopped : goal.returns-in_err-push-clause-stopped
returns-in_err-push-clause-stopped g c = on_err _ c.from_residual-in_err-push.result (λ parts dir grid f all.
    let k = cuts_of c.args.keys.now in
    let below : c.loop-tree.tree-index < k.trees = below_trees (c.in_ok-show_each.field-0.items) c.in_ok-swept.swept.items c.deref-tree-items.result.now c.loop-tree.tree-index k.trees c.in_ok-swept.ensures (c.in_ok-show_each.ensures.count ∙ all.count) c.deref-tree-items.ensures.value c.loop-tree-test.true in
    adds_trees (note_over (sizes_of k) c.args.step c.args.kind grid) c.loop-tree.tree-index k.trees c.args.notes.now.items c.loop-tree.notes.items (omega (arith, below)) (c.loop-tree.invariant parts dir grid f all).noted)

pub returns-in_err-push-2-clause-stopped : goal.returns-in_err-push-2-clause-stopped
returns-in_err-push-2-clause-stopped g c = on_err _ c.from_residual-in_err-push-2.result (λ parts dir grid f all.
    let k = cuts_of c.args.keys.now in
    let below : c.loop-tree.tree-index < k.trees = below_trees (c.in_ok-show_each.field-0.items) c.in_ok-swept.swept.items c.deref-tree-items.result.now c.loop-tree.tree-index k.trees c.in_ok-swept.ensures (c.in_ok-show_each.ensures.count ∙ all.count) c.deref-tree-items.ensures.value c.loop-tree-test.true in
    adds_trees (note_over (sizes_of k) c.args.step c.args.kind grid) c.loop-tree.tree-index k.trees c.args.notes.now.items c.push-in-loop-tree.new.self.items (omega (arith, below)) (c.in_err-push-2.ensures.items ∙ (c.loop-tree.invariant parts dir grid f all).noted))

pub returns-in_err-stores-clause-stopped : goal.returns-in_err-stores-clause-stopped
returns-in_err-stores-clause-stopped g c = on_err _ c.from_residual-in_err-stores.result (λ parts dir grid f all.
    let k = cuts_of c.args.keys.now in
    let whole : c.loop-tree.tree-index ≡ k.trees = all_trees (c.in_ok-show_each.field-0.items) c.in_ok-swept.swept.items c.deref-tree-items.result.now c.loop-tree.tree-index k.trees c.in_ok-swept.ensures (c.in_ok-show_each.ensures.count ∙ all.count) c.deref-tree-items.ensures.value c.loop-tree-test.false c.loop-tree.auto.tree-index-end in
    adds_trees (note_over (sizes_of k) c.args.step c.args.kind grid) c.loop-tree.tree-index k.trees c.args.notes.now.items c.loop-tree.notes.items (omega (arith, whole)) (c.loop-tree.invariant parts dir grid f all).noted)

pub loop-tree-preserved : goal.loop-tree-preserved
loop-tree-preserved g c = λ parts dir grid f all.
    let k = cuts_of c.args.keys.now in
    let m = c.loop-tree.tree-index in
    let item = c.tree-item.result in
    let gives = subst (λ (s : List (Swept ShownTree)). EachGives (ShowsTree k c.args.step c.args.kind) c.args.stores.items s) (sym c.deref-tree-items.ensures.value) (each_given (ShowsTree k c.args.step c.args.kind) c.args.stores.items c.in_ok-show_each.field-0.items c.in_ok-swept.swept.items c.in_ok-show_each.ensures c.in_ok-swept.ensures) in
    let below : c.loop-tree.tree-index < k.trees = below_trees (c.in_ok-show_each.field-0.items) c.in_ok-swept.swept.items c.deref-tree-items.result.now c.loop-tree.tree-index k.trees c.in_ok-swept.ensures (c.in_ok-show_each.ensures.count ∙ all.count) c.deref-tree-items.ensures.value c.loop-tree-test.true in
    let inside : m < length c.args.stores.items = omega (arith, below, all.count) in
    let shows = gives_item (ShowsTree k c.args.step c.args.kind) c.args.stores.items c.deref-tree-items.result.now m no_store item gives inside c.tree-item.is in
    let rows = c.in_ok-extend_from_slice.ensures.items ∙ ap (λ xs. c.loop-tree.rows.items ++ xs) c.as_slice.ensures.value in
    subst (λ notes. GatheredFirst k grid f c.args.step c.args.kind (m + 1) c.args.notes.now.items notes c.extend_from_slice.new.self.items c.push.new.self.items) (sym c.in_ok-push-2.ensures.items)
    (subst (λ xs. GatheredFirst k grid f c.args.step c.args.kind (m + 1) c.args.notes.now.items (c.loop-tree.notes.items ++ item.note ∷ []) xs c.push.new.self.items) (sym rows)
    (subst (λ xs. GatheredFirst k grid f c.args.step c.args.kind (m + 1) c.args.notes.now.items (c.loop-tree.notes.items ++ item.note ∷ []) (c.loop-tree.rows.items ++ item.found.rows.items) xs) (sym c.in_ok-push.ensures.items)
    (shown_more k parts dir grid f c.args.step c.args.kind m c.args.stores.items c.args.notes.now.items c.loop-tree.notes.items c.loop-tree.rows.items c.loop-tree.traffic.items item all below (c.loop-tree.invariant parts dir grid f all) shows)))

pub returns-clause-shown : goal.returns-clause-shown
returns-clause-shown g c = λ parts dir grid f all.
    let k = cuts_of c.args.keys.now in
    let swept = c.in_ok-swept.swept.items in
    let gives = each_given (ShowsTree k c.args.step c.args.kind) c.args.stores.items c.in_ok-show_each.field-0.items swept c.in_ok-show_each.ensures c.in_ok-swept.ensures in
    let whole : c.loop-tree.tree-index ≡ k.trees = all_trees (c.in_ok-show_each.field-0.items) c.in_ok-swept.swept.items c.deref-tree-items.result.now c.loop-tree.tree-index k.trees c.in_ok-swept.ensures (c.in_ok-show_each.ensures.count ∙ all.count) c.deref-tree-items.ensures.value c.loop-tree-test.false c.loop-tree.auto.tree-index-end in
    record {
      trees = stores_shown k parts dir grid f c.args.step c.args.kind c.args.stores.items c.in_ok-stores.stores.items swept all gives c.in_ok-stores.ensures;
      gathered = subst (λ n. GatheredFirst k grid f c.args.step c.args.kind n c.args.notes.now.items c.loop-tree.notes.items c.loop-tree.rows.items c.loop-tree.traffic.items) whole (c.loop-tree.invariant parts dir grid f all);
    }
