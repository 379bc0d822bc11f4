use Rattle.std.proofs.Common.{map}
use Rattle.curve_cuts.specs.Keys.{cuts_of}
use Rattle.boundary_streams.specs.Sendings.{items_of, is_met_first}
use Rattle.boundary_streams.proofs.Sends.{IsAddedUpTo}
use Rattle.boundary_streams.proofs.collecting.send_round.Given as goal

abbrev pub invariant-loop-other : goal.invariant-loop-other
invariant-loop-other l = IsAddedUpTo (is_met_first (cuts_of l.keys) l.tree l.intervals l.n) l.parcel (map items_of l.initial.lists.items) (map items_of l.lists.items) l.other
