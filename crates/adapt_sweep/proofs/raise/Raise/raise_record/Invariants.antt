use Rattle.adapt_sweep.specs.Raises.{source_of}
use Rattle.adapt_sweep.proofs.Slots.{SlotsBelow}
use Rattle.adapt_sweep.proofs.raise.Raise.raise_record.Given as goal

abbrev pub invariant-loop-k : goal.invariant-loop-k
invariant-loop-k l = SlotsBelow (source_of l.self) l.dim l.key l.k l.fn.stored l.stored
