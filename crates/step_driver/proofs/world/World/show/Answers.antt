use Rattle.std.proofs.Common.{false, Vec, refl, ap, sym, subst, ◌∙◌}
use Rattle.peano_keys.specs.Grid.{Spacetree}
use Rattle.peano_keys.specs.Field.{States}
use Rattle.curve_cuts.specs.Cuts.{Cuts}
use Rattle.curve_cuts.specs.Keys.{cuts_of}
use Rattle.step_driver.specs.Showing.{IsShown, IsNotShown}
use Rattle.step_driver.specs.Worlds.{Seen, IsAt, AreAt}
use Rattle.step_driver.proofs.Advances.{world_shown}
use Rattle.step_driver.proofs.world.World.show.Goals as goal

pub show_trees-requires-clause-at : goal.show_trees-requires-clause-at
show_trees-requires-clause-at g c κs within =
    let w = c.self.inside in
    let h = c.self.invariant.2 (ap (λ (x : Seen _). x.live) c.self.view_is ∙ c.requires) in
    let read = ap (λ (v : Vec _ _). v.items) c.replace-stores.ensures.value in
    (g.S.Solver.parts_of w.solver, w.cells, h.0, h.1, subst (λ s. AreAt (g.S.Solver.parts_of w.solver) (cuts_of w.keys) s w.forest.notes.items w.cells h.0 h.1) (sym read) h.2)

pub invariant_of-self : goal.invariant_of-self
invariant_of-self g c = (
  c.self.invariant.0,
  c.self.invariant.1,
  λ live.
      let w = c.self.inside in
      let k : Cuts = cuts_of w.keys in
      let parts = g.S.Solver.parts_of w.solver in
      let h = c.self.invariant.2 live in
      let read = ap (λ (v : Vec _ _). v.items) c.replace-stores.ensures.value in
      let shown = c.in-Ok.ensures.shown parts w.cells h.0 h.1 (subst (λ s. AreAt parts k s w.forest.notes.items w.cells h.0 h.1) (sym read) h.2) in
      (h.0, h.1, shown.at),
)

pub returns-in-Ok-clause-shown : goal.returns-in-Ok-clause-shown
returns-in-Ok-clause-shown g c = subst (λ (x : Seen _). (grid : Spacetree) (f : States) → IsAt (g.S.Solver.parts_of x.solver) x grid f x.step → IsShown (g.S.Solver.parts_of x.solver) grid f x (record { solver = c.self.inside.solver; recut = c.self.inside.recut; keys = c.self.inside.keys; stores = c.in-Ok.trees.stores.items; cells = c.self.inside.cells; step = c.self.inside.step; notes = c.show_trees.new.notes.items; live = c.self.inside.live }) c.in-Ok.trees.shown) c.self.view_is
    (λ grid f at.
    let w = c.self.inside in
    let parts = g.S.Solver.parts_of w.solver in
    let k : Cuts = cuts_of w.keys in
    let read = ap (λ (v : Vec _ _). v.items) c.replace-stores.ensures.value in
    let shown = c.in-Ok.ensures.shown parts w.cells grid f (subst (λ s. AreAt parts k s w.forest.notes.items w.cells grid f) (sym read) at.trees) in
    let seen : Seen _ = record { solver = w.solver; recut = w.recut; keys = w.keys; stores = w.forest.stores.items; cells = w.cells; step = w.step; notes = w.forest.notes.items; live = w.live } in
    world_shown parts grid f seen c.in-Ok.trees.stores.items c.show_trees.new.notes.items c.in-Ok.trees.shown at shown)

pub returns-in-Err-clause-shown : goal.returns-in-Err-clause-shown
returns-in-Err-clause-shown g c = subst (λ (x : Seen _). (grid : Spacetree) (f : States) → IsAt (g.S.Solver.parts_of x.solver) x grid f x.step → IsNotShown grid x (record { solver = c.self.inside.solver; recut = c.self.inside.recut; keys = c.self.inside.keys; stores = c.replace-stores.new.dest.items; cells = c.self.inside.cells; step = c.self.inside.step; notes = c.show_trees.new.notes.items; live = false })) c.self.view_is
    (λ grid f at.
    let w = c.self.inside in
    let parts = g.S.Solver.parts_of w.solver in
    let k : Cuts = cuts_of w.keys in
    let read = ap (λ (v : Vec _ _). v.items) c.replace-stores.ensures.value in
    record { live = refl; noted = c.in-Err.ensures.stopped parts w.cells grid f (subst (λ s. AreAt parts k s w.forest.notes.items w.cells grid f) (sym read) at.trees) })
