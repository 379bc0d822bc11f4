use Rattle.std.proofs.Common.{◌≡◌, ◌≤◌, take}
use Rattle.task_core.specs.Core.{run}
use Rattle.task_core.specs.Replies.{core_of, solver_of, applied}
use Rattle.task_core.proofs.machine.Core.run.Given as goal

abbrev pub invariant-loop-event : goal.invariant-loop-event
invariant-loop-event g l =
    (core_of l.self ≡ run (g.S.Solver.updated (solver_of l.initial.self)) (core_of l.initial.self) (take l.event-index l.events))
    × (l.applied ≡ applied (g.S.Solver.updated (solver_of l.initial.self)) (core_of l.initial.self) (take l.event-index l.events))
    × (l.applied ≤ l.event-index)
    × (solver_of l.self ≡ solver_of l.initial.self)
