use Rattle.std.proofs.Common.{map}
use Rattle.curve_cuts.specs.Keys.{cuts_of}
use Rattle.boundary_streams.specs.Sendings.{AddsWhere, items_of, is_met_before}
use Rattle.boundary_streams.proofs.collecting.send.Given as goal

abbrev pub invariant-loop-n : goal.invariant-loop-n
invariant-loop-n l = AddsWhere (is_met_before (cuts_of l.keys) l.tree l.intervals l.n) l.parcel (map items_of l.initial.lists.items) (map items_of l.lists.items)
