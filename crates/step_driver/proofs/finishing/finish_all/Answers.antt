use Rattle.std.proofs.Common.{◌≡◌, ◌<◌, ◌+◌, List, length, ap, sym, subst, ◌∙◌, arith}
use Rattle.std.proofs.lemmas.List.{length-map}
use Rattle.curve_cuts.specs.Keys.{cuts_of}
use Rattle.step_driver.specs.declared.beside.Swept.{Swept}
use Rattle.step_driver.specs.Gives.{EachGives}
use Rattle.step_driver.specs.Notes.{sizes_of}
use Rattle.step_driver.specs.Stores.{no_store}
use Rattle.step_driver.proofs.Began.{adds_trees, on_err}
use Rattle.step_sweeps.specs.Kernels.{Kernel}
use Rattle.step_driver.proofs.Jobs.{jobs_are, jobs_give}
use Rattle.step_driver.proofs.Gives.{each_given, each_is, gives_item, below_trees, all_trees}
use Rattle.vertex_stacks.specs.declared.kind.Kind.TheVariants.{Secondary}
use Rattle.step_world.specs.Notes.{note_over}
use Rattle.step_sweeps.specs.Sweeps.{CanFinish}
use Rattle.step_driver.specs.declared.finishing.TreeFindings.{TreeFindings}
use Rattle.step_driver.specs.Finishing.{Finishes, CountedFirst}
use Rattle.step_driver.proofs.Finished.{none_finished, finished_more, stores_finished}
use Rattle.step_driver.proofs.finishing.finish_all.Goals as goal

pub finish_each-requires-after_bounds : goal.finish_each-requires-after_bounds
finish_each-requires-after_bounds g c κs within =
    let kernel : Kernel = record { parts = g.S.Solver.parts_of c.args.solver.now; updated = g.S.Solver.updated c.args.solver.now; marked = g.S.Solver.marked c.args.solver.now } in
    let h = c.requires.stores in
    let k = cuts_of c.args.keys.now in
    jobs_are (CanFinish kernel k) c.args.solver.now c.args.stores.items c.args.tasks.items c.in_ok-jobs.jobs.items c.in_ok-jobs.ensures.firsts c.in_ok-jobs.ensures.seconds
    (each_is (CanFinish kernel k) k.trees c.args.stores.items h.3.count (λ t below. (h.0, h.1, h.2, h.3.each t below))) c.requires.tasks.1

pub loop-tree-init : goal.loop-tree-init
loop-tree-init g c = λ dir w f all.
    let kernel : Kernel = record { parts = g.S.Solver.parts_of c.args.solver.now; updated = g.S.Solver.updated c.args.solver.now; marked = g.S.Solver.marked c.args.solver.now } in
    none_finished kernel (cuts_of c.args.keys.now) c.args.step w c.args.notes.now.items

pub returns-in_err-push-clause-stopped : goal.returns-in_err-push-clause-stopped
returns-in_err-push-clause-stopped g c = on_err _ c.from_residual-in_err-push.result (λ dir w f all.
    let kernel : Kernel = record { parts = g.S.Solver.parts_of c.args.solver.now; updated = g.S.Solver.updated c.args.solver.now; marked = g.S.Solver.marked c.args.solver.now } in
    let k = cuts_of c.args.keys.now in
    let may = jobs_give c.args.stores.items c.in_ok-jobs.jobs.items c.in_ok-jobs.ensures.firsts (Finishes kernel k c.args.step) c.in_ok-finish_each.field-0.items c.in_ok-finish_each.ensures in
    let below : c.loop-tree.tree-index < k.trees = below_trees (c.in_ok-finish_each.field-0.items) c.in_ok-swept.swept.items c.deref-tree-items.result.now c.loop-tree.tree-index k.trees c.in_ok-swept.ensures (may.count ∙ all.count) c.deref-tree-items.ensures.value c.loop-tree-test.true in
    adds_trees (note_over (sizes_of k) c.args.step Secondary w.old) c.loop-tree.tree-index k.trees c.args.notes.now.items c.push.new.self.items (omega (arith, below)) (c.in_err-push.ensures.items ∙ (c.loop-tree.invariant dir w f all).noted))

pub loop-tree-preserved : goal.loop-tree-preserved
loop-tree-preserved g c = λ dir w f all.
    let kernel : Kernel = record { parts = g.S.Solver.parts_of c.args.solver.now; updated = g.S.Solver.updated c.args.solver.now; marked = g.S.Solver.marked c.args.solver.now } in
    let k = cuts_of c.args.keys.now in
    let may = jobs_give c.args.stores.items c.in_ok-jobs.jobs.items c.in_ok-jobs.ensures.firsts (Finishes kernel k c.args.step) c.in_ok-finish_each.field-0.items c.in_ok-finish_each.ensures in
    let m = c.loop-tree.tree-index in
    let item = c.tree-item.result in
    let gives = subst (λ (s : List (Swept TreeFindings)). EachGives (Finishes kernel k c.args.step) c.args.stores.items s) (sym c.deref-tree-items.ensures.value) (each_given (Finishes kernel k c.args.step) c.args.stores.items c.in_ok-finish_each.field-0.items c.in_ok-swept.swept.items may c.in_ok-swept.ensures) in
    let below : c.loop-tree.tree-index < k.trees = below_trees (c.in_ok-finish_each.field-0.items) c.in_ok-swept.swept.items c.deref-tree-items.result.now c.loop-tree.tree-index k.trees c.in_ok-swept.ensures (may.count ∙ all.count) c.deref-tree-items.ensures.value c.loop-tree-test.true in
    let inside : m < length c.args.stores.items = omega (arith, below, all.count) in
    let finishes = gives_item (Finishes kernel k c.args.step) c.args.stores.items c.deref-tree-items.result.now m no_store item gives inside c.tree-item.is in
    subst (λ notes. CountedFirst k w c.args.step (m + 1) c.args.notes.now.items notes c.with-found.result) (sym c.in_ok-push.ensures.items)
    (finished_more kernel k c.args.step dir w f m c.args.stores.items c.args.notes.now.items c.loop-tree.notes.items item c.loop-tree.found c.with-found.result all below (c.loop-tree.invariant dir w f all) finishes c.with-found.ensures.failing c.with-found.ensures.splits c.with-found.ensures.merges)

pub returns-in_err-stores-clause-stopped : goal.returns-in_err-stores-clause-stopped
returns-in_err-stores-clause-stopped g c = on_err _ c.from_residual-in_err-stores.result (λ dir w f all.
    let kernel : Kernel = record { parts = g.S.Solver.parts_of c.args.solver.now; updated = g.S.Solver.updated c.args.solver.now; marked = g.S.Solver.marked c.args.solver.now } in
    let k = cuts_of c.args.keys.now in
    let may = jobs_give c.args.stores.items c.in_ok-jobs.jobs.items c.in_ok-jobs.ensures.firsts (Finishes kernel k c.args.step) c.in_ok-finish_each.field-0.items c.in_ok-finish_each.ensures in
    let whole : c.loop-tree.tree-index ≡ k.trees = all_trees (c.in_ok-finish_each.field-0.items) c.in_ok-swept.swept.items c.deref-tree-items.result.now c.loop-tree.tree-index k.trees c.in_ok-swept.ensures (may.count ∙ all.count) c.deref-tree-items.ensures.value c.loop-tree-test.false c.loop-tree.auto.tree-index-end in
    adds_trees (note_over (sizes_of k) c.args.step Secondary w.old) c.loop-tree.tree-index k.trees c.args.notes.now.items c.loop-tree.notes.items (omega (arith, whole)) (c.loop-tree.invariant dir w f all).noted)

pub returns-clause-finished : goal.returns-clause-finished
returns-clause-finished g c = λ dir w f all.
    let kernel : Kernel = record { parts = g.S.Solver.parts_of c.args.solver.now; updated = g.S.Solver.updated c.args.solver.now; marked = g.S.Solver.marked c.args.solver.now } in
    let k = cuts_of c.args.keys.now in
    let may = jobs_give c.args.stores.items c.in_ok-jobs.jobs.items c.in_ok-jobs.ensures.firsts (Finishes kernel k c.args.step) c.in_ok-finish_each.field-0.items c.in_ok-finish_each.ensures in
    let swept = c.in_ok-swept.swept.items in
    let gives = each_given (Finishes kernel k c.args.step) c.args.stores.items c.in_ok-finish_each.field-0.items swept may c.in_ok-swept.ensures in
    let whole : c.loop-tree.tree-index ≡ k.trees = all_trees (c.in_ok-finish_each.field-0.items) c.in_ok-swept.swept.items c.deref-tree-items.result.now c.loop-tree.tree-index k.trees c.in_ok-swept.ensures (may.count ∙ all.count) c.deref-tree-items.ensures.value c.loop-tree-test.false c.loop-tree.auto.tree-index-end in
    record {
      trees = stores_finished kernel k c.args.step dir w f c.args.stores.items c.in_ok-stores.stores.items c.in_ok-stores.partials.items swept all gives c.in_ok-stores.ensures.stores c.in_ok-stores.ensures.partials;
      handed = ap length c.in_ok-stores.ensures.partials ∙ length-map swept (λ (r : Swept TreeFindings). r.found.partials) ∙ gives.count ∙ all.count;
      counted = subst (λ n. CountedFirst k w c.args.step n c.args.notes.now.items c.loop-tree.notes.items c.loop-tree.found) whole (c.loop-tree.invariant dir w f all);
    }
