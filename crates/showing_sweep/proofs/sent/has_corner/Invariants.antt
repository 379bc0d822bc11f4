use Rattle.std.proofs.Common.{ℕ, ◌<◌}
use Rattle.curve_cuts.specs.Keys.{cuts_of}
use Rattle.showing_sweep.specs.Sent.{HoldsRound}
use Rattle.showing_sweep.proofs.sent.has_corner.Given as goal

abbrev pub invariant-loop-n : goal.invariant-loop-n
invariant-loop-n l = (m : ℕ) → m < l.n → ¬ HoldsRound (cuts_of l.keys) l.tree l.vertex m
