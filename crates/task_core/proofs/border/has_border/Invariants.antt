use Rattle.std.proofs.Common.{ℕ, ◌<◌}
use Rattle.peano_keys.specs.Vertex.{corner_of}
use Rattle.curve_cuts.specs.Keys.{cuts_of}
use Rattle.curve_cuts.specs.Enclave.{IsAtBorder}
use Rattle.task_core.proofs.border.has_border.Given as goal

abbrev pub invariant-loop-n : goal.invariant-loop-n
invariant-loop-n l = (m : ℕ) → m < l.n → ¬ IsAtBorder (cuts_of l.keys) l.grid l.tree (corner_of l.cell m)
