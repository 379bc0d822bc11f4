use Rattle.std.proofs.Common.{List, ◌++◌, refl, ap, sym, subst, ◌∙◌}
use Rattle.vertex_stacks.specs.Notes.{Note}
use Rattle.curve_cuts.specs.Keys.{cuts_of}
use Rattle.step_sweeps.specs.Kernels.{Kernel}
use Rattle.step_world.specs.Notes.{computing_notes}
use Rattle.step_driver.specs.Notes.{sizes_of, AddsFirst}
use Rattle.step_driver.proofs.Began.{on_err, adds_none}
use Rattle.step_driver.proofs.SweptTwice.{computed}
use Rattle.step_driver.proofs.working.compute.Goals as goal

pub returns-clause-computed : goal.returns-clause-computed
returns-clause-computed g c = λ dir grid f all.
    let kernel : Kernel = record { parts = g.S.Solver.parts_of c.args.solver.now; updated = g.S.Solver.updated c.args.solver.now; marked = g.S.Solver.marked c.args.solver.now } in
    let k = cuts_of c.args.keys.now in
    computed kernel k dir grid f c.args.step c.args.stores.items c.in_ok-twice.twice (c.in_ok-twice.ensures dir grid f all) c.args.notes.now.items c.extend_from_slice.new.self.items
    (record { failing = c.with_found.result; turnover = c.in_ok-twice.twice.late.turnover }) (c.in_ok-extend_from_slice.ensures.items ∙ ap (λ (xs : List Note). c.args.notes.now.items ++ xs) c.as_slice-2.ensures.value) c.with_found.ensures refl

pub returns-in_err-twice-clause-stopped : goal.returns-in_err-twice-clause-stopped
returns-in_err-twice-clause-stopped g c = on_err _ c.from_residual-in_err-twice.result (λ dir grid f all.
    let k = cuts_of c.args.keys.now in
    adds_none c.args.notes.now.items (computing_notes (sizes_of k) k.trees c.args.step grid))

pub returns-in_err-extend_from_slice-clause-stopped : goal.returns-in_err-extend_from_slice-clause-stopped
returns-in_err-extend_from_slice-clause-stopped g c = on_err _ c.from_residual-in_err-extend_from_slice.result (λ dir grid f all.
    let k = cuts_of c.args.keys.now in
    subst (λ (ns : List Note). AddsFirst c.args.notes.now.items ns (computing_notes (sizes_of k) k.trees c.args.step grid)) (sym c.in_err-extend_from_slice.ensures.items) (adds_none c.args.notes.now.items (computing_notes (sizes_of k) k.trees c.args.step grid)))
