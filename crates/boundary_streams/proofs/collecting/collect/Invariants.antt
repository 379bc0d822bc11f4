use Rattle.std.proofs.Common.{map}
use Rattle.curve_cuts.specs.Keys.{cuts_of}
use Rattle.boundary_streams.specs.Sendings.{items_of}
use Rattle.boundary_streams.proofs.Sends.{IsCollectedUpTo}
use Rattle.boundary_streams.proofs.collecting.collect.Given as goal

abbrev pub invariant-loop-k : goal.invariant-loop-k
invariant-loop-k l = IsCollectedUpTo (cuts_of l.keys) l.store.tree l.store.lanes.input (map items_of l.parcels.items) l.k
