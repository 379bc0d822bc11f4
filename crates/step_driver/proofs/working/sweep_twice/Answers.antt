use Rattle.std.proofs.Common.{List, sym, subst, ◌∙◌}
use Rattle.vertex_stacks.specs.Notes.{Note}
use Rattle.step_driver.specs.Computing.{AreComputed}
use Rattle.curve_cuts.specs.Keys.{cuts_of}
use Rattle.sweep_visits.specs.Runs.{turned_round}
use Rattle.step_sweeps.specs.Kernels.{Kernel}
use Rattle.step_driver.proofs.Began.{swept_trees, can_finish}
use Rattle.step_driver.proofs.working.sweep_twice.Goals as goal

pub exchange-requires-after_bounds : goal.exchange-requires-after_bounds
exchange-requires-after_bounds g c κs within =
    let kernel : Kernel = record { parts = g.S.Solver.parts_of c.args.solver.now; updated = g.S.Solver.updated c.args.solver.now; marked = g.S.Solver.marked c.args.solver.now } in
    let h = c.requires.stores in
    swept_trees kernel (cuts_of c.args.keys.now) h.0 h.1 h.2 c.args.step c.args.stores.items h.3 c.in_ok-computed.computed.stores.items c.new-notes.result.items c.compute_all.new.notes.items c.in_ok-computed.computed.failing (c.in_ok-computed.ensures.computed h.0 h.1 h.2 h.3)

pub finish_all-requires-clause-stores : goal.finish_all-requires-clause-stores
finish_all-requires-clause-stores g c κs within =
    let kernel : Kernel = record { parts = g.S.Solver.parts_of c.args.solver.now; updated = g.S.Solver.updated c.args.solver.now; marked = g.S.Solver.marked c.args.solver.now } in
    let h = c.requires.stores in
    can_finish kernel (cuts_of c.args.keys.now) h.0 h.1 h.2 c.args.step c.args.stores.items h.3 c.in_ok-computed.computed.stores.items c.new-notes.result.items c.compute_all.new.notes.items c.in_ok-computed.computed.failing (c.in_ok-computed.ensures.computed h.0 h.1 h.2 h.3) c.in_ok-marked.marked.items c.in_ok-marked.ensures

pub finish_all-requires-clause-tasks : goal.finish_all-requires-clause-tasks
finish_all-requires-clause-tasks g c κs within =
    let h = c.requires.stores in
    (c.in_ok-computed.ensures.tasks.0 ∙ h.3.count ∙ sym c.in_ok-marked.ensures.count, c.in_ok-computed.ensures.tasks.1)

pub returns : goal.returns
returns g c = λ dir grid f all.
    let kernel : Kernel = record { parts = g.S.Solver.parts_of c.args.solver.now; updated = g.S.Solver.updated c.args.solver.now; marked = g.S.Solver.marked c.args.solver.now } in
    record {
      swept = c.in_ok-computed.computed.stores.items;
      marked = c.in_ok-marked.marked.items;
      noted = c.compute_all.new.notes.items;
      primary = subst (λ (old : List Note). AreComputed kernel (cuts_of c.args.keys.now) dir grid f c.args.step c.args.stores.items c.in_ok-computed.computed.stores.items old c.compute_all.new.notes.items c.in_ok-computed.computed.failing) c.new-notes.ensures.items (c.in_ok-computed.ensures.computed dir grid f all);
      first = c.in_ok-marked.ensures;
      secondary = λ w marked. c.in_ok-finished.ensures.finished (turned_round dir) w f marked;
    }
