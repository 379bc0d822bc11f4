use Rattle.shared_sums.specs.Records.{changed_slot}
use Rattle.shared_sums.proofs.Written.{IsWrittenUpTo}
use Rattle.shared_sums.proofs.adding.add_record.Given as goal

abbrev pub invariant-loop-n : goal.invariant-loop-n
invariant-loop-n l = IsWrittenUpTo (changed_slot l.dim l.list l.vertex) l.k l.initial.store l.store l.n
