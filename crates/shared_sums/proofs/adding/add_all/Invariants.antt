use Rattle.shared_sums.proofs.Progress.{IsStoreByUpTo}
use Rattle.shared_sums.proofs.adding.add_all.Given as goal

abbrev pub invariant-loop-k : goal.invariant-loop-k
invariant-loop-k l = IsStoreByUpTo l.dim l.list l.initial.store l.store l.k
