use Rattle.std.specs.Prelude.{None}
use Rattle.boundary_streams.proofs.Written.{IsWrittenUpTo}
use Rattle.boundary_streams.proofs.merging.finish_record.Given as goal

abbrev pub invariant-loop-n : goal.invariant-loop-n
invariant-loop-n l = IsWrittenUpTo l.phase l.k (λ n. None) l.initial.store l.store l.n
