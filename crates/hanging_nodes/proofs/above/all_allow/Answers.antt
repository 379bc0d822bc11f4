use Rattle.std.proofs.Common.{◌≡◌, true, refl}
use Rattle.std.specs.Prelude.{IfSome}
use Rattle.peano_keys.specs.Vertex.{adjacent_of}
use Rattle.peano_records.specs.Slots.{slot_at}
use Rattle.peano_records.specs.Tells.{slot_tells}
use Rattle.hanging_nodes.specs.Above.{corner_above, IsDecider}
use Rattle.hanging_nodes.proofs.Steps.{one_more}
use Rattle.hanging_nodes.proofs.above.all_allow.Goals as goal

pub loop-k-preserved : goal.loop-k-preserved
loop-k-preserved c = let q = c.args.question in one_more (λ k. IfSome (adjacent_of q.dim (corner_above q.cell q.fine) k) (λ z. IsDecider q.dim q.cell q.fine z → slot_tells q.after (slot_at c.args.stored.now k) ≡ true)) c.loop-k.k c.loop-k.invariant (c.if-not-allows.ensures.0 refl)
