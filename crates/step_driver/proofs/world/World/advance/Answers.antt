use Rattle.std.proofs.Common.{sym, subst}
use Rattle.spacetree.specs.declared.fault.EvalFault.TheVariants.{NoMemory}
use Rattle.step_sweeps.specs.Kernels.{Kernel}
use Rattle.step_driver.specs.Advances.{IsCutInTurn}
use Rattle.step_driver.specs.Worlds.{IsAt}
use Rattle.step_driver.proofs.Advances.{advanced, cut_short, refused_as}
use Rattle.step_driver.proofs.world.World.advance.Goals as goal

pub returns-in_err-take-clause-advanced : goal.returns-in_err-take-clause-advanced
returns-in_err-take-clause-advanced g c = λ grid f at.
    let s = c.args.self.now.solver in
    let kernel : Kernel = record { parts = g.S.Solver.parts_of s; updated = g.S.Solver.updated s; marked = g.S.Solver.marked s } in
    refused_as kernel (g.S.Solver.adapting s) grid f c.args.self.now c.take.new.self c.from_residual.result _ c.in_err-take.field-0.0 (λ e h. h) c.from_residual.ensures.1 (c.in_err-take.ensures.taken grid f at)

pub cut_in_turn-requires-clause-live : goal.cut_in_turn-requires-clause-live
cut_in_turn-requires-clause-live g c κs within = c.in_ok-take.ensures.live

pub returns-in_err-cut_in_turn-clause-advanced : goal.returns-in_err-cut_in_turn-clause-advanced
returns-in_err-cut_in_turn-clause-advanced g c = λ grid f at.
    let s = c.args.self.now.solver in
    let kernel : Kernel = record { parts = g.S.Solver.parts_of s; updated = g.S.Solver.updated s; marked = g.S.Solver.marked s } in
    let mid = c.take.new.self in
    let t = c.in_ok-take.ensures.taken grid f at in
    let here = subst (λ x. IsAt (g.S.Solver.parts_of x) mid t.grid t.field mid.step) (sym c.in_ok-take.ensures.solver) (subst (IsAt kernel.parts mid t.grid t.field) (sym t.at.step_is) t.at) in
    refused_as kernel (g.S.Solver.adapting s) grid f c.args.self.now c.cut_in_turn.new.self c.from_residual-in_err-cut_in_turn.result _ NoMemory (λ e h. h) c.from_residual-in_err-cut_in_turn.ensures.1
    (cut_short kernel (g.S.Solver.adapting s) grid f c.args.self.now mid c.cut_in_turn.new.self c.in_ok-take.ensures.recut t (c.in_err-cut_in_turn.ensures.cut t.grid t.field here))

pub returns-clause-advanced : goal.returns-clause-advanced
returns-clause-advanced g c = λ grid f at.
    let s = c.args.self.now.solver in
    let kernel : Kernel = record { parts = g.S.Solver.parts_of s; updated = g.S.Solver.updated s; marked = g.S.Solver.marked s } in
    let mid = c.take.new.self in
    let t = c.in_ok-take.ensures.taken grid f at in
    let here = subst (λ x. IsAt (g.S.Solver.parts_of x) mid t.grid t.field mid.step) (sym c.in_ok-take.ensures.solver) (subst (IsAt kernel.parts mid t.grid t.field) (sym t.at.step_is) t.at) in
    advanced kernel (g.S.Solver.adapting s) grid f c.args.self.now mid c.cut_in_turn.new.self c.in_ok-take.ensures.recut t
    (subst (λ x. IsCutInTurn (g.S.Solver.parts_of x) t.grid t.field mid c.cut_in_turn.new.self) c.in_ok-take.ensures.solver (c.in_ok-cut_in_turn.ensures.cut t.grid t.field here))
