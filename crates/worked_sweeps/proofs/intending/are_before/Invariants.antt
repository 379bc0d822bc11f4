use Rattle.worked_sweeps.proofs.Told.{FirstAreBefore}
use Rattle.worked_sweeps.proofs.intending.are_before.Given as goal

abbrev pub invariant-loop-k : goal.invariant-loop-k
invariant-loop-k l = FirstAreBefore l.grid l.next l.store l.k
