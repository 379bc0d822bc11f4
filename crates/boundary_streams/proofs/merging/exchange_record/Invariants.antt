use Rattle.std.specs.Prelude.{None, slice_index_or}
use Rattle.boundary_streams.proofs.Written.{IsWrittenUpTo}
use Rattle.boundary_streams.proofs.merging.exchange_record.Given as goal

abbrev pub invariant-loop-n : goal.invariant-loop-n
invariant-loop-n l = IsWrittenUpTo l.phase l.k (λ n. slice_index_or l.found n None) l.initial.store l.store l.n
