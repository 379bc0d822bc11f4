use Rattle.worked_sweeps.proofs.Told.{FirstAreTold}
use Rattle.worked_sweeps.proofs.intending.is_before.Given as goal

abbrev pub invariant-loop-n : goal.invariant-loop-n
invariant-loop-n l = FirstAreTold l.grid l.next l.vertex l.store l.k l.n
