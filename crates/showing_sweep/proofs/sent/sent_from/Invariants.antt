use Rattle.std.proofs.Common.{map, take}
use Rattle.curve_cuts.specs.Keys.{cuts_of}
use Rattle.tree_automaton.specs.Sweeps.{key_of}
use Rattle.showing_sweep.specs.Counts.{NoneTwice, Counts}
use Rattle.showing_sweep.specs.Sent.{IsPairOf}
use Rattle.showing_sweep.proofs.sent.sent_from.Given as goal

abbrev pub invariant-loop-k : goal.invariant-loop-k
invariant-loop-k l = NoneTwice (map key_of l.store.lanes.input) → Counts (IsPairOf (cuts_of l.keys) l.store.tree (take l.k (map key_of l.store.lanes.input))) l.sent
