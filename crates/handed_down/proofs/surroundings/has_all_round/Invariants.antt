use Rattle.std.proofs.Common.{ℕ, ◌<◌}
use Rattle.handed_down.specs.Across.{HasBeside}
use Rattle.handed_down.proofs.surroundings.has_all_round.Given as goal

abbrev pub invariant-loop-j : goal.invariant-loop-j
invariant-loop-j l = (k : ℕ) → k < l.j → HasBeside l.dim l.depth l.range l.cell k
