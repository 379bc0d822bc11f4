use Rattle.std.proofs.Common.{◌+◌, false, Vec, ap, sym, subst, ◌∙◌, arith}
use Rattle.step_world.specs.Worlds.{RefinesAbove}
use Rattle.peano_keys.specs.Grid.{Spacetree}
use Rattle.peano_keys.specs.Field.{States}
use Rattle.curve_cuts.specs.Cuts.{Cuts}
use Rattle.curve_cuts.specs.Keys.{cuts_of}
use Rattle.step_sweeps.specs.Kernels.{Kernel}
use Rattle.step_driver.specs.Advances.{Took, Stopped}
use Rattle.step_driver.specs.Worlds.{Seen, IsAt, AreAt}
use Rattle.step_driver.proofs.Advances.{took, stopped}
use Rattle.step_driver.proofs.world.World.take.Goals as goal

pub take_step-requires-clause-at : goal.take_step-requires-clause-at
take_step-requires-clause-at g c κs within =
    let w = c.self.inside in
    let h = c.self.invariant.2 (ap (λ (x : Seen _). x.live) c.self.view_is ∙ c.requires.live) in
    let read = ap (λ (v : Vec _ _). v.items) c.replace-stores.ensures.value in
    (h.0, h.1, subst (λ s. AreAt (g.S.Solver.parts_of w.solver) (cuts_of w.keys) s w.forest.notes.items w.cells h.0 h.1) (sym read) h.2)

pub invariant_of-self : goal.invariant_of-self
invariant_of-self g c = (
  c.self.invariant.0,
  c.self.invariant.1,
  λ live.
      let w = c.self.inside in
      let k : Cuts = cuts_of w.keys in
      let h = c.self.invariant.2 live in
      let read = ap (λ (v : Vec _ _). v.items) c.replace-stores.ensures.value in
      let taken = c.in-Ok.ensures h.0 h.1 (subst (λ s. AreAt (g.S.Solver.parts_of w.solver) k s w.forest.notes.items w.cells h.0 h.1) (sym read) h.2) in
      (taken.grid, taken.field, taken.at),
)

pub returns-in-Ok-clause-taken : goal.returns-in-Ok-clause-taken
returns-in-Ok-clause-taken g c = subst (λ (x : Seen _). (grid : Spacetree) (f : States) → IsAt (g.S.Solver.parts_of x.solver) x grid f x.step → Took (record { parts = g.S.Solver.parts_of x.solver; updated = g.S.Solver.updated x.solver; marked = g.S.Solver.marked x.solver }) (g.S.Solver.adapting x.solver) grid f x (record { solver = c.self.inside.solver; recut = c.self.inside.recut; keys = c.self.inside.keys; stores = c.in-Ok.stepped.stores.items; cells = c.in-Ok.stepped.cells; step = c.self.inside.step + 1; notes = c.take_step.new.notes.items; live = c.self.inside.live })) c.self.view_is
    (λ grid f at.
    let w = c.self.inside in
    let kernel : Kernel = record { parts = g.S.Solver.parts_of w.solver; updated = g.S.Solver.updated w.solver; marked = g.S.Solver.marked w.solver } in
    let k : Cuts = cuts_of w.keys in
    let read = ap (λ (v : Vec _ _). v.items) c.replace-stores.ensures.value in
    let taken = c.in-Ok.ensures grid f (subst (λ s. AreAt kernel.parts k s w.forest.notes.items w.cells grid f) (sym read) at.trees) in
    let seen : Seen _ = record { solver = w.solver; recut = w.recut; keys = w.keys; stores = w.forest.stores.items; cells = w.cells; step = w.step; notes = w.forest.notes.items; live = w.live } in
    took kernel (g.S.Solver.adapting w.solver) grid f seen c.in-Ok.stepped.stores.items c.take_step.new.notes.items c.in-Ok.stepped.cells at taken)

pub returns-in-Err-clause-taken : goal.returns-in-Err-clause-taken
returns-in-Err-clause-taken g c = subst (λ (x : Seen _). (grid : Spacetree) (f : States) → IsAt (g.S.Solver.parts_of x.solver) x grid f x.step → Stopped (record { parts = g.S.Solver.parts_of x.solver; updated = g.S.Solver.updated x.solver; marked = g.S.Solver.marked x.solver }) (g.S.Solver.adapting x.solver) grid f x (record { solver = c.self.inside.solver; recut = c.self.inside.recut; keys = c.self.inside.keys; stores = c.replace-stores.new.dest.items; cells = c.self.inside.cells; step = c.self.inside.step; notes = c.take_step.new.notes.items; live = false }) c.in-Err.fault) c.self.view_is
    (λ grid f at.
    let w = c.self.inside in
    let kernel : Kernel = record { parts = g.S.Solver.parts_of w.solver; updated = g.S.Solver.updated w.solver; marked = g.S.Solver.marked w.solver } in
    let k : Cuts = cuts_of w.keys in
    let read = ap (λ (v : Vec _ _). v.items) c.replace-stores.ensures.value in
    let fails = c.in-Err.ensures grid f (subst (λ s. AreAt kernel.parts k s w.forest.notes.items w.cells grid f) (sym read) at.trees) in
    let seen : Seen _ = record { solver = w.solver; recut = w.recut; keys = w.keys; stores = w.forest.stores.items; cells = w.cells; step = w.step; notes = w.forest.notes.items; live = w.live } in
    let deep : RefinesAbove kernel.marked w.keys.depth = (λ own sides level e. let low = (g.met.S.Solver g.world.𝓛 g.world.𝓜 g.world.𝓡 ((λ s x. x), (λ x. x), (λ x. x), λ x. x)).refines_above w.solver own sides level e in let deepest = c.self.invariant.0 in omega (arith, low, deepest)) in
    stopped kernel (g.S.Solver.adapting w.solver) grid f seen c.replace-stores.new.dest.items c.take_step.new.notes.items c.in-Err.fault deep at fails)
