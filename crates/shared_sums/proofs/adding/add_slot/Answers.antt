use Rattle.std.proofs.Common.{◌≡◌, length, sym, ap, ◌∙◌}
use Rattle.peano_records.specs.Slots.{VertexRecord}
use Rattle.boundary_streams.proofs.Written.{read_at}
use Rattle.shared_sums.specs.Records.{changed_slot, slot_with}
use Rattle.shared_sums.proofs.Written.{left_slot}
use Rattle.shared_sums.proofs.adding.add_slot.Goals as goal

pub returns-in-None : goal.returns-in-None
returns-in-None c =
    left_slot (changed_slot c.args.dim c.args.list.now c.args.vertex) c.args.k c.args.n c.args.store.now
    (λ x. ap (λ o. slot_with o x) (sym c.means_at.ensures ∙ c.in-None.is))
    (read_at c.args.store.now.lanes.input c.args.k (λ (v : VertexRecord). length v.slots ≡ 8) c.slot_at-slot.ensures.eight)
