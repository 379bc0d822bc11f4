use Rattle.std.proofs.Common.{◌≡◌, ◌<◌, ◌+◌, [], ◌∷◌, ◌++◌, List, length, sym, subst, ◌∙◌, arith}
use Rattle.curve_cuts.specs.Keys.{cuts_of}
use Rattle.vertex_stacks.specs.declared.kind.Kind.TheVariants.{Primary}
use Rattle.step_world.specs.Notes.{note_over}
use Rattle.step_sweeps.specs.Kernels.{Kernel}
use Rattle.step_sweeps.specs.Sweeps.{CanStep}
use Rattle.step_sweeps.specs.declared.tally.Tally.{Tally}
use Rattle.step_driver.specs.declared.beside.Swept.{Swept}
use Rattle.step_driver.specs.Computing.{Computes, ComputesJob, job_for, ToldFirst}
use Rattle.step_driver.specs.Gives.{EachGives}
use Rattle.step_driver.specs.Notes.{sizes_of}
use Rattle.step_driver.specs.Stores.{no_store}
use Rattle.step_driver.proofs.Began.{adds_trees, on_err}
use Rattle.step_driver.proofs.Computed.{none_told, told_more, stores_computed}
use Rattle.step_driver.proofs.Gives.{each_given, each_is, gives_item, below_read, all_read}
use Rattle.step_driver.proofs.Jobs.{jobs_are, stores_give, back_count, tasks_back}
use Rattle.step_driver.proofs.computing.compute_all.Goals as goal

pub compute_each-requires-after_bounds : goal.compute_each-requires-after_bounds
compute_each-requires-after_bounds g c κs within =
    let h = c.requires.stores in
    let k = cuts_of c.args.keys.now in
    let parts = g.S.Solver.parts_of c.args.solver.now in
    jobs_are (CanStep k parts) c.args.solver.now c.args.stores.items c.args.tasks.items c.in_ok-trees.trees.items c.in_ok-trees.ensures.firsts c.in_ok-trees.ensures.seconds
    (each_is (CanStep k parts) k.trees c.args.stores.items h.3.count (λ t below. (h.0, h.1, h.2, h.3.each t below))) c.requires.tasks.1

pub loop-tree-init : goal.loop-tree-init
loop-tree-init g c = λ dir grid f all.
    let kernel : Kernel = record { parts = g.S.Solver.parts_of c.args.solver.now; updated = g.S.Solver.updated c.args.solver.now; marked = g.S.Solver.marked c.args.solver.now } in
    none_told kernel (cuts_of c.args.keys.now) c.args.step grid f c.args.notes.now.items

pub returns-in_err-push-clause-stopped : goal.returns-in_err-push-clause-stopped
returns-in_err-push-clause-stopped g c = on_err _ c.from_residual-in_err-push.result (λ dir grid f all.
    let kernel : Kernel = record { parts = g.S.Solver.parts_of c.args.solver.now; updated = g.S.Solver.updated c.args.solver.now; marked = g.S.Solver.marked c.args.solver.now } in
    let k = cuts_of c.args.keys.now in
    let done = each_given (λ x. ComputesJob kernel (job_for c.args.solver.now c.args.keys.now c.args.step x)) c.in_ok-trees.trees.items c.in_ok-compute_each.field-0.items c.in_ok-done.done.items c.in_ok-compute_each.ensures c.in_ok-done.ensures in
    let gives = stores_give (Computes kernel k c.args.step) c.args.solver.now c.in_ok-trees.trees.items c.in_ok-done.done.items done c.args.stores.items c.in_ok-tasks.swept.items c.in_ok-trees.ensures.firsts c.in_ok-tasks.ensures.seconds in
    let below : c.loop-tree.tree-index < k.trees = below_read c.in_ok-tasks.swept.items c.deref-tree-items.result.now c.loop-tree.tree-index k.trees (gives.count ∙ all.count) c.deref-tree-items.ensures.value c.loop-tree-test.true in
    adds_trees (note_over (sizes_of k) c.args.step Primary grid) c.loop-tree.tree-index k.trees c.args.notes.now.items c.push.new.self.items (omega (arith, below)) (c.in_err-push.ensures.items ∙ (c.loop-tree.invariant dir grid f all).noted))

pub loop-tree-preserved : goal.loop-tree-preserved
loop-tree-preserved g c = λ dir grid f all.
    let kernel : Kernel = record { parts = g.S.Solver.parts_of c.args.solver.now; updated = g.S.Solver.updated c.args.solver.now; marked = g.S.Solver.marked c.args.solver.now } in
    let k = cuts_of c.args.keys.now in
    let done = each_given (λ x. ComputesJob kernel (job_for c.args.solver.now c.args.keys.now c.args.step x)) c.in_ok-trees.trees.items c.in_ok-compute_each.field-0.items c.in_ok-done.done.items c.in_ok-compute_each.ensures c.in_ok-done.ensures in
    let gives = stores_give (Computes kernel k c.args.step) c.args.solver.now c.in_ok-trees.trees.items c.in_ok-done.done.items done c.args.stores.items c.in_ok-tasks.swept.items c.in_ok-trees.ensures.firsts c.in_ok-tasks.ensures.seconds in
    let m = c.loop-tree.tree-index in
    let item = c.tree-item.result in
    let below : c.loop-tree.tree-index < k.trees = below_read c.in_ok-tasks.swept.items c.deref-tree-items.result.now c.loop-tree.tree-index k.trees (gives.count ∙ all.count) c.deref-tree-items.ensures.value c.loop-tree-test.true in
    let inside : m < length c.args.stores.items = omega (arith, below, all.count) in
    let read = subst (λ (s : List (Swept Tally)). EachGives (Computes kernel k c.args.step) c.args.stores.items s) (sym c.deref-tree-items.ensures.value) gives in
    let computes = gives_item (Computes kernel k c.args.step) c.args.stores.items c.deref-tree-items.result.now m no_store item read inside c.tree-item.is in
    subst (λ notes. ToldFirst kernel k grid f c.args.step (m + 1) c.args.notes.now.items notes c.with_found-failing.result) (sym c.in_ok-push.ensures.items)
    (subst (λ failing. ToldFirst kernel k grid f c.args.step (m + 1) c.args.notes.now.items (c.loop-tree.notes.items ++ item.note ∷ []) failing) (sym c.with_found-failing.ensures)
    (told_more kernel k c.args.step dir grid f all.grid m c.args.stores.items c.args.notes.now.items c.loop-tree.notes.items item c.loop-tree.failing all below (c.loop-tree.invariant dir grid f all) computes))

pub returns-in_err-stores-clause-stopped : goal.returns-in_err-stores-clause-stopped
returns-in_err-stores-clause-stopped g c = on_err _ c.from_residual-in_err-stores.result (λ dir grid f all.
    let kernel : Kernel = record { parts = g.S.Solver.parts_of c.args.solver.now; updated = g.S.Solver.updated c.args.solver.now; marked = g.S.Solver.marked c.args.solver.now } in
    let k = cuts_of c.args.keys.now in
    let done = each_given (λ x. ComputesJob kernel (job_for c.args.solver.now c.args.keys.now c.args.step x)) c.in_ok-trees.trees.items c.in_ok-compute_each.field-0.items c.in_ok-done.done.items c.in_ok-compute_each.ensures c.in_ok-done.ensures in
    let gives = stores_give (Computes kernel k c.args.step) c.args.solver.now c.in_ok-trees.trees.items c.in_ok-done.done.items done c.args.stores.items c.in_ok-tasks.swept.items c.in_ok-trees.ensures.firsts c.in_ok-tasks.ensures.seconds in
    let whole : c.loop-tree.tree-index ≡ k.trees = all_read c.in_ok-tasks.swept.items c.deref-tree-items.result.now c.loop-tree.tree-index k.trees (gives.count ∙ all.count) c.deref-tree-items.ensures.value c.loop-tree-test.false c.loop-tree.auto.tree-index-end in
    adds_trees (note_over (sizes_of k) c.args.step Primary grid) c.loop-tree.tree-index k.trees c.args.notes.now.items c.loop-tree.notes.items (omega (arith, whole)) (c.loop-tree.invariant dir grid f all).noted)

pub returns-clause-computed : goal.returns-clause-computed
returns-clause-computed g c = λ dir grid f all.
    let kernel : Kernel = record { parts = g.S.Solver.parts_of c.args.solver.now; updated = g.S.Solver.updated c.args.solver.now; marked = g.S.Solver.marked c.args.solver.now } in
    let k = cuts_of c.args.keys.now in
    let done = each_given (λ x. ComputesJob kernel (job_for c.args.solver.now c.args.keys.now c.args.step x)) c.in_ok-trees.trees.items c.in_ok-compute_each.field-0.items c.in_ok-done.done.items c.in_ok-compute_each.ensures c.in_ok-done.ensures in
    let gives = stores_give (Computes kernel k c.args.step) c.args.solver.now c.in_ok-trees.trees.items c.in_ok-done.done.items done c.args.stores.items c.in_ok-tasks.swept.items c.in_ok-trees.ensures.firsts c.in_ok-tasks.ensures.seconds in
    let whole : c.loop-tree.tree-index ≡ k.trees = all_read c.in_ok-tasks.swept.items c.deref-tree-items.result.now c.loop-tree.tree-index k.trees (gives.count ∙ all.count) c.deref-tree-items.ensures.value c.loop-tree-test.false c.loop-tree.auto.tree-index-end in
    record {
      trees = stores_computed kernel k c.args.step dir grid f all.grid c.args.stores.items c.in_ok-stores.stores.items c.in_ok-tasks.swept.items all gives c.in_ok-stores.ensures;
      told = subst (λ n. ToldFirst kernel k grid f c.args.step n c.args.notes.now.items c.loop-tree.notes.items c.loop-tree.failing) whole (c.loop-tree.invariant dir grid f all);
    }

pub returns-clause-tasks : goal.returns-clause-tasks
returns-clause-tasks g c =
    let kernel : Kernel = record { parts = g.S.Solver.parts_of c.args.solver.now; updated = g.S.Solver.updated c.args.solver.now; marked = g.S.Solver.marked c.args.solver.now } in
    let k = cuts_of c.args.keys.now in
    let done = each_given (λ x. ComputesJob kernel (job_for c.args.solver.now c.args.keys.now c.args.step x)) c.in_ok-trees.trees.items c.in_ok-compute_each.field-0.items c.in_ok-done.done.items c.in_ok-compute_each.ensures c.in_ok-done.ensures in (
      back_count (Computes kernel k c.args.step) c.args.solver.now c.in_ok-trees.trees.items c.in_ok-done.done.items done c.args.stores.items c.in_ok-tasks.tasks.items c.in_ok-trees.ensures.firsts c.in_ok-tasks.ensures.firsts,
      tasks_back (Computes kernel k c.args.step) c.args.solver.now c.in_ok-trees.trees.items c.in_ok-done.done.items done c.in_ok-tasks.tasks.items c.in_ok-tasks.ensures.firsts,
    )
