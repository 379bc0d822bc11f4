use Rattle.curve_cuts.specs.Keys.{cuts_of}
use Rattle.showing_sweep.proofs.Sends.{OthersBelow}
use Rattle.showing_sweep.proofs.sent.others.Given as goal

abbrev pub invariant-loop-other : goal.invariant-loop-other
invariant-loop-other l = OthersBelow (cuts_of l.keys) l.tree l.vertex l.other l.count
