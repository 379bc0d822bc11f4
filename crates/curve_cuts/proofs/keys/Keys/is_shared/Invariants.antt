use Rattle.std.proofs.Common.{ℕ, ◌<◌}
use Rattle.curve_cuts.specs.Foreign.{IsForeign}
use Rattle.curve_cuts.specs.Keys.{cuts_of}
use Rattle.curve_cuts.proofs.keys.Keys.is_shared.Given as goal

abbrev pub invariant-loop-n : goal.invariant-loop-n
invariant-loop-n l = (m : ℕ) → m < l.n → ¬ IsForeign (cuts_of l.self) l.tree l.vertex m
