use Rattle.std.proofs.Common.{◌≡◌, ◌+◌, map}
use Rattle.std.specs.Prelude.{drop}
use Rattle.vertex_stacks.specs.Lists.{held_by}
use Rattle.vertex_stacks.specs.Piles.{items_of}
use Rattle.vertex_stacks.proofs.lanes.count.Given as goal

-- what was counted, and what the other lists hold, make up all
abbrev pub invariant-loop-pile : goal.invariant-loop-pile
invariant-loop-pile l = l.sum + held_by (map items_of (drop l.pile-index l.piles)) ≡ held_by (map items_of l.piles)
