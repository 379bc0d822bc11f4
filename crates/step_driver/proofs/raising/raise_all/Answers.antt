use Rattle.std.proofs.Common.{◌≡◌, ◌<◌, [], ◌∷◌, ◌++◌, List, ap, ap₂, sym, subst, ◌∙◌}
use Rattle.vertex_stacks.specs.Notes.{Note}
use Rattle.curve_cuts.specs.Keys.{cuts_of}
use Rattle.step_world.specs.Notes.{by_trees, note_raised}
use Rattle.std.specs.Prelude.{slice_index_or}
use Rattle.step_driver.specs.Notes.{sizes_of}
use Rattle.step_driver.specs.Starts.{IsRaisedWith}
use Rattle.step_driver.proofs.Gives.{below_trees, all_trees}
use Rattle.step_driver.proofs.Notes.{next}
use Rattle.step_driver.proofs.Starts.{raised_at, all_raised}
use Rattle.step_driver.proofs.raising.raise_all.Goals as goal

pub loop-tree-preserved : goal.loop-tree-preserved
loop-tree-preserved g c =
    let k = cuts_of c.args.keys.now in
    let given = c.in_ok-raise_each.field-0.items in
    let swept = c.in_ok-swept.swept.items in
    let m = c.loop-tree.tree-index in
    let item = c.tree-item.result in
    let below : m < k.trees = below_trees given swept c.deref-tree-items.result.now m k.trees c.in_ok-swept.ensures c.in_ok-raise_each.ensures.count c.deref-tree-items.ensures.value c.loop-tree-test.true in
    let read = c.tree-item.is ∙ ap (λ xs. slice_index_or xs m item) c.deref-tree-items.ensures.value in
    let raised = subst (IsRaisedWith k c.args.grid.now c.args.field.now c.args.step m) (sym read) (raised_at k c.args.grid.now c.args.field.now c.args.step given swept c.in_ok-raise_each.ensures c.in_ok-swept.ensures m item below) in
    c.in_ok-push.ensures.items ∙ ap₂ (λ (xs : List Note) (x : Note). xs ++ x ∷ []) c.loop-tree.invariant raised.noted ∙ ap (λ n. by_trees n (note_raised (sizes_of k) c.args.step c.args.grid.now)) (next m)

pub returns : goal.returns
returns g c =
    let k = cuts_of c.args.keys.now in
    let given = c.in_ok-raise_each.field-0.items in
    let swept = c.in_ok-swept.swept.items in
    let whole : c.loop-tree.tree-index ≡ k.trees = all_trees given swept c.deref-tree-items.result.now c.loop-tree.tree-index k.trees c.in_ok-swept.ensures c.in_ok-raise_each.ensures.count c.deref-tree-items.ensures.value c.loop-tree-test.false c.loop-tree.auto.tree-index-end in
    all_raised k c.args.grid.now c.args.field.now c.args.step given swept c.in_ok-raise_each.ensures c.in_ok-swept.ensures c.in_ok-stores.stores.items c.loop-tree.notes.items c.in_ok-stores.ensures
    (c.loop-tree.invariant ∙ ap (λ n. by_trees n (note_raised (sizes_of k) c.args.step c.args.grid.now)) whole)
