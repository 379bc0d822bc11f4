use Rattle.std.proofs.Common.{false, Vec, ap, sym, subst, ◌∙◌, arith}
use Rattle.peano_keys.specs.Grid.{Spacetree}
use Rattle.peano_keys.specs.Field.{States}
use Rattle.curve_cuts.specs.Cuts.{Cuts}
use Rattle.curve_cuts.specs.Keys.{cuts_of}
use Rattle.step_driver.specs.Advances.{IsCutInTurn, IsNotCut}
use Rattle.step_driver.specs.Notes.{recuts_in}
use Rattle.step_driver.specs.Worlds.{Seen, IsAt, AreAt}
use Rattle.step_driver.proofs.Advances.{cut_here, not_cut}
use Rattle.step_driver.proofs.world.World.cut_in_turn.Goals as goal

pub cut_anew-requires-after_bounds : goal.cut_anew-requires-after_bounds
cut_anew-requires-after_bounds g c κs within =
    let w = c.self.inside in
    let h = c.self.invariant.2 (ap (λ (x : Seen _). x.live) c.self.view_is ∙ c.requires.live) in
    let read = ap (λ (v : Vec _ _). v.items) c.replace-stores.ensures.value in
    (g.S.Solver.parts_of w.solver, w.cells, h.0, h.1, subst (λ s. AreAt (g.S.Solver.parts_of w.solver) (cuts_of w.keys) s w.forest.notes.items w.cells h.0 h.1) (sym read) h.2)

pub invariant_of-self : goal.invariant_of-self
invariant_of-self g c =
    let w = c.self.inside in
    let k : Cuts = cuts_of w.keys in
    let parts = g.S.Solver.parts_of w.solver in
    let h = c.self.invariant.2 (ap (λ (x : Seen _). x.live) c.self.view_is ∙ c.requires.live) in
    let read = ap (λ (v : Vec _ _). v.items) c.replace-stores.ensures.value in
    let cut = c.in-Ok.ensures.cut parts w.cells h.0 h.1 (subst (λ s. AreAt parts k s w.forest.notes.items w.cells h.0 h.1) (sym read) h.2) in
    let same = cut.shares.2.depth in
    let deepest = c.self.invariant.0 in
    (omega (arith, same, deepest), c.self.invariant.1, λ live. (h.0, h.1, cut.at))

pub returns-in-Ok-clause-cut : goal.returns-in-Ok-clause-cut
returns-in-Ok-clause-cut g c = subst (λ (x : Seen _). (grid : Spacetree) (f : States) → IsAt (g.S.Solver.parts_of x.solver) x grid f x.step → IsCutInTurn (g.S.Solver.parts_of x.solver) grid f x (record { solver = c.self.inside.solver; recut = c.self.inside.recut; keys = c.in-Ok.trees.keys; stores = c.in-Ok.trees.stores.items; cells = c.self.inside.cells; step = c.self.inside.step; notes = c.cut_anew.new.notes.items; live = c.self.inside.live })) c.self.view_is
    (λ grid f at.
    let w = c.self.inside in
    let parts = g.S.Solver.parts_of w.solver in
    let k : Cuts = cuts_of w.keys in
    let read = ap (λ (v : Vec _ _). v.items) c.replace-stores.ensures.value in
    let cut = c.in-Ok.ensures.cut parts w.cells grid f (subst (λ s. AreAt parts k s w.forest.notes.items w.cells grid f) (sym read) at.trees) in
    let seen : Seen _ = record { solver = w.solver; recut = w.recut; keys = w.keys; stores = w.forest.stores.items; cells = w.cells; step = w.step; notes = w.forest.notes.items; live = w.live } in
    cut_here parts grid f seen c.cut_anew.new.notes.items c.in-Ok.trees (ap (λ (x : Seen _). recuts_in x.recut x.step) c.self.view_is ∙ sym c.is_cut_here.ensures ∙ c.if-not-is_cut_here.false) at cut)

pub returns-in-Err-clause-cut : goal.returns-in-Err-clause-cut
returns-in-Err-clause-cut g c = subst (λ (x : Seen _). (grid : Spacetree) (f : States) → IsAt (g.S.Solver.parts_of x.solver) x grid f x.step → IsNotCut grid x (record { solver = c.self.inside.solver; recut = c.self.inside.recut; keys = c.self.inside.keys; stores = c.replace-stores.new.dest.items; cells = c.self.inside.cells; step = c.self.inside.step; notes = c.cut_anew.new.notes.items; live = false })) c.self.view_is
    (λ grid f at.
    let w = c.self.inside in
    let parts = g.S.Solver.parts_of w.solver in
    let k : Cuts = cuts_of w.keys in
    let read = ap (λ (v : Vec _ _). v.items) c.replace-stores.ensures.value in
    let seen : Seen _ = record { solver = w.solver; recut = w.recut; keys = w.keys; stores = w.forest.stores.items; cells = w.cells; step = w.step; notes = w.forest.notes.items; live = w.live } in
    not_cut parts grid f seen c.replace-stores.new.dest.items c.cut_anew.new.notes.items (ap (λ (x : Seen _). recuts_in x.recut x.step) c.self.view_is ∙ sym c.is_cut_here.ensures ∙ c.if-not-is_cut_here.false)
    (c.in-Err.ensures.stopped parts w.cells grid f (subst (λ s. AreAt parts k s w.forest.notes.items w.cells grid f) (sym read) at.trees)))
