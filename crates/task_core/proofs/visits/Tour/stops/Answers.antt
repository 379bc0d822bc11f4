use Rattle.std.proofs.Common.{[], subst}
use Rattle.sweep_visits.specs.Visits.{visits_of}
use Rattle.tree_automaton.specs.Sweep.{cell_visits}
use Rattle.tree_automaton.proofs.Visited.{visits_root}
use Rattle.task_core.specs.Tours.{cuts_in, plan_in, Tours}
use Rattle.task_core.proofs.Toured.{adds_from_none}
use Rattle.task_core.proofs.visits.Tour.stops.Goals as goal

pub returns-clause-stops : goal.returns-clause-stops
returns-clause-stops c =
    let r = c.args.self.now in
    let all = c.add_cell.new.stops.items in
    let added = subst (λ vs. Tours r vs [] all) (visits_root (plan_in r)) (subst (λ q. Tours r (cell_visits (plan_in r) q) [] all) c.root.ensures (subst (λ old. Tours r (cell_visits (plan_in r) c.root.result) old all) c.new-stops.ensures.items c.in_ok-add_cell.ensures)) in
    (adds_from_none (cuts_in r) r.grid.now r.field.now r.tree (visits_of (plan_in r)) all added).0
