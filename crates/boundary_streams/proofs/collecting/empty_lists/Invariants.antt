use Rattle.std.proofs.Common.{map}
use Rattle.boundary_streams.specs.Sendings.{items_of}
use Rattle.boundary_streams.specs.Sendings.{AreEmpty}
use Rattle.boundary_streams.proofs.collecting.empty_lists.Given as goal

abbrev pub invariant-loop : goal.invariant-loop
invariant-loop l = AreEmpty l.counter (map items_of l.lists.items)
