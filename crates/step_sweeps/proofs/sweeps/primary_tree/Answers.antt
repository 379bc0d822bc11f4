use Rattle.std.proofs.Common.{ap, refl, sym, subst}
use Rattle.std.specs.Prelude.{IsOk}
use Rattle.curve_cuts.specs.Keys.{cuts_of}
use Rattle.step_sweeps.specs.Primaries.{PrimaryWork}
use Rattle.step_sweeps.specs.Tasks.{TasksSeen, Spawns, SpawnedAll}
use Rattle.step_sweeps.proofs.PrimaryTree.{can_sweep, plain_meaning, primary_told, spawned_told}
use Rattle.step_sweeps.proofs.Spawned.{spawned_alone}
use Rattle.step_sweeps.proofs.sweeps.primary_tree.Goals as goal

pub sweep-swept-requires : goal.sweep-swept-requires
sweep-swept-requires g c =
    let h = c.requires.store in
    let can = can_sweep (cuts_of c.args.keys.now) (g.S.Solver.parts_of c.args.solver.now) h.0 h.1 h.2 c.args.store.now (plain_meaning c.new-visitor.result.keys.dim) h.3 refl (ap (λ (x : PrimaryWork _). x.keys.dim) c.new-visitor.ensures) in
    record { asks = (can.sweep, can.asks) }

pub returns-in-Ok-clause-spawned : goal.returns-in-Ok-clause-spawned
returns-in-Ok-clause-spawned g c =
    let h = c.requires.store in
    let can = can_sweep (cuts_of c.args.keys.now) (g.S.Solver.parts_of c.args.solver.now) h.0 h.1 h.2 c.args.store.now (plain_meaning c.new-visitor.result.keys.dim) h.3 refl (ap (λ (x : PrimaryWork _). x.keys.dim) c.new-visitor.ensures) in
    let gives = c.in-Ok.ensures.done can.sweep can.asks in
    subst (Spawns c.args.tasks) (sym c.close-tasks.ensures.tasks)
    (spawned_alone (λ s. record { parts = g.S.Solver.parts_of s; updated = g.S.Solver.updated s; marked = g.S.Solver.marked s }) c.args.tasks gives.calls c.new-visitor.result c.sweep-swept.new.visitor (subst (λ (x : PrimaryWork _). Spawns c.args.tasks x.tasks) (sym c.new-visitor.ensures) refl) gives.chain)

pub returns-in-Ok-clause-all : goal.returns-in-Ok-clause-all
returns-in-Ok-clause-all g c = λ dir grid field on unspawned places.
    subst (λ (x : TasksSeen _). SpawnedAll (cuts_of c.args.keys.now) grid c.args.store.now.tree c.args.tasks.size x.spawned) (sym c.close-tasks.ensures.tasks)
    (spawned_told (λ s. record { parts = g.S.Solver.parts_of s; updated = g.S.Solver.updated s; marked = g.S.Solver.marked s }) c.new-visitor.result c.sweep-swept.new.visitor _ dir grid field c.args.step c.args.store.now c.sweep-swept.new.store c.in-Ok.note
    c.new-visitor.ensures refl c.tree-tree.ensures on c.in-Ok.ensures.done c.in-Ok.ensures.rest unspawned places)

pub returns-in-Ok-clause-swept : goal.returns-in-Ok-clause-swept
returns-in-Ok-clause-swept g c = λ dir grid field on.
    primary_told (λ s. record { parts = g.S.Solver.parts_of s; updated = g.S.Solver.updated s; marked = g.S.Solver.marked s }) c.new-visitor.result c.sweep-swept.new.visitor _ dir grid field c.args.step c.args.store.now c.sweep-swept.new.store c.in-Ok.note c.close-tasks.result.1
    c.new-visitor.ensures refl c.tree-tree.ensures on c.in-Ok.ensures.done c.in-Ok.ensures.rest c.close-tasks.ensures.tally

pub returns-in-Ok-clause-roomy : goal.returns-in-Ok-clause-roomy
returns-in-Ok-clause-roomy g c =
    let h = c.requires.store in
    let can = can_sweep (cuts_of c.args.keys.now) (g.S.Solver.parts_of c.args.solver.now) h.0 h.1 h.2 c.args.store.now (plain_meaning c.new-visitor.result.keys.dim) h.3 refl (ap (λ (x : PrimaryWork _). x.keys.dim) c.new-visitor.ensures) in
    c.in-Ok.ensures.roomy can.sweep can.asks refl

pub returns-in-Err-clause-memory : goal.returns-in-Err-clause-memory
returns-in-Err-clause-memory g c = λ roomy.
    let h = c.requires.store in
    let can = can_sweep (cuts_of c.args.keys.now) (g.S.Solver.parts_of c.args.solver.now) h.0 h.1 h.2 c.args.store.now (plain_meaning c.new-visitor.result.keys.dim) h.3 refl (ap (λ (x : PrimaryWork _). x.keys.dim) c.new-visitor.ensures) in
    subst (λ r. IsOk r) c.in-Err.is (c.sweep-swept.ensures.memory can.sweep can.asks refl refl roomy)
