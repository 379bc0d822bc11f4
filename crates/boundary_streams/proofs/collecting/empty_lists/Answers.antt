use Rattle.std.proofs.Common.{◌+◌, map, sym, subst}
use Rattle.boundary_streams.specs.Sendings.{items_of}
use Rattle.boundary_streams.specs.Sendings.{AreEmpty}
use Rattle.boundary_streams.proofs.Sends.{empty_more}
use Rattle.boundary_streams.proofs.collecting.empty_lists.Goals as goal

pub loop-preserved : goal.loop-preserved
loop-preserved c = subst (λ xs. AreEmpty (c.loop.counter + 1) (map items_of xs)) (sym c.in_ok-push.ensures.items) (empty_more c.loop.counter c.loop.lists.items c.new.result c.new.ensures.items c.loop.invariant)
