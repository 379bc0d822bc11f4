use Rattle.std.proofs.Common.{◌≡◌, length}
use Rattle.task_core.proofs.Trees.{rewound_below}
use Rattle.task_core.proofs.forest.Forest.rewind.Given as goal

abbrev pub invariant-loop-at : goal.invariant-loop-at
invariant-loop-at l =
    (l.self-inside.trees.items ≡ rewound_below l.at l.initial.self-inside.trees.items)
    × (l.self-inside.parts ≡ l.initial.self-inside.parts)
