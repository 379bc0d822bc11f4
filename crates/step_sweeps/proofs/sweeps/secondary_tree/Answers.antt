use Rattle.std.proofs.Common.{ap, refl, sym, subst}
use Rattle.std.specs.Prelude.{IsOk}
use Rattle.curve_cuts.specs.Keys.{cuts_of}
use Rattle.step_sweeps.specs.Secondaries.{SecondaryWork}
use Rattle.step_sweeps.proofs.PrimaryTree.{plain_meaning}
use Rattle.step_sweeps.specs.Tasks.{TasksSeen, CollectedAll}
use Rattle.step_sweeps.proofs.SecondaryTree.{can_finish, secondary_told, gathered_told}
use Rattle.step_sweeps.proofs.sweeps.secondary_tree.Goals as goal

pub sweep-swept-requires : goal.sweep-swept-requires
sweep-swept-requires g c =
    let h = c.requires.store in
    let can = can_finish (record { parts = g.S.Solver.parts_of c.args.solver.now; updated = g.S.Solver.updated c.args.solver.now; marked = g.S.Solver.marked c.args.solver.now }) (cuts_of c.args.keys.now) h.0 h.1 h.2 c.args.store.now (plain_meaning c.new-visitor.result.keys.dim) h.3 refl (ap (λ (x : SecondaryWork _). x.keys.dim) c.new-visitor.ensures) in
    record { asks = (can.sweep, can.asks) }

pub returns-in-Ok-clause-swept : goal.returns-in-Ok-clause-swept
returns-in-Ok-clause-swept g c = λ dir change field marked.
    secondary_told (λ s. record { parts = g.S.Solver.parts_of s; updated = g.S.Solver.updated s; marked = g.S.Solver.marked s }) c.new-visitor.result c.sweep-swept.new.visitor _ dir change field c.args.step c.args.store.now c.sweep-swept.new.store c.in-Ok.note c.close-tasks.result.1 c.partials-partials.result
    c.new-visitor.ensures (record { levels = refl; sums = refl; splits = refl; merges = refl; partials = refl; failing = refl }) c.tree-tree.ensures marked c.in-Ok.ensures.done c.in-Ok.ensures.rest c.close-tasks.ensures.tally c.partials-partials.ensures

pub returns-in-Ok-clause-all : goal.returns-in-Ok-clause-all
returns-in-Ok-clause-all g c = λ dir change field marked spawned.
    subst (λ (x : TasksSeen _). CollectedAll x.seat c.args.tasks.spawned) (sym c.close-tasks.ensures.tasks)
    (gathered_told (λ s. record { parts = g.S.Solver.parts_of s; updated = g.S.Solver.updated s; marked = g.S.Solver.marked s }) c.new-visitor.result c.sweep-swept.new.visitor _ dir change field c.args.step c.args.store.now c.sweep-swept.new.store c.in-Ok.note c.args.tasks
    c.new-visitor.ensures (record { levels = refl; sums = refl; splits = refl; merges = refl; partials = refl; failing = refl }) c.tree-tree.ensures marked c.in-Ok.ensures.done c.in-Ok.ensures.rest c.turn.ensures spawned)

pub returns-in-Ok-clause-roomy : goal.returns-in-Ok-clause-roomy
returns-in-Ok-clause-roomy g c =
    let h = c.requires.store in
    let can = can_finish (record { parts = g.S.Solver.parts_of c.args.solver.now; updated = g.S.Solver.updated c.args.solver.now; marked = g.S.Solver.marked c.args.solver.now }) (cuts_of c.args.keys.now) h.0 h.1 h.2 c.args.store.now (plain_meaning c.new-visitor.result.keys.dim) h.3 refl (ap (λ (x : SecondaryWork _). x.keys.dim) c.new-visitor.ensures) in
    c.in-Ok.ensures.roomy can.sweep can.asks refl

pub returns-in-Err-clause-memory : goal.returns-in-Err-clause-memory
returns-in-Err-clause-memory g c = λ roomy.
    let h = c.requires.store in
    let can = can_finish (record { parts = g.S.Solver.parts_of c.args.solver.now; updated = g.S.Solver.updated c.args.solver.now; marked = g.S.Solver.marked c.args.solver.now }) (cuts_of c.args.keys.now) h.0 h.1 h.2 c.args.store.now (plain_meaning c.new-visitor.result.keys.dim) h.3 refl (ap (λ (x : SecondaryWork _). x.keys.dim) c.new-visitor.ensures) in
    subst (λ r. IsOk r) c.in-Err.is (c.sweep-swept.ensures.memory can.sweep can.asks refl refl roomy)
