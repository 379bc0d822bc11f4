use Rattle.std.proofs.Common.{◌≡◌, length, ap, ◌∙◌}
use Rattle.peano_records.specs.Slots.{VertexRecord, slot_at, with_slot}
use Rattle.boundary_streams.specs.Records.{record_at, with_record, IsSlotExchanged}
use Rattle.boundary_streams.specs.Merges.{taken}
use Rattle.step_phases.specs.Exchange.{finished}
use Rattle.boundary_streams.proofs.Written.{read_at, left_slot, found_none}
use Rattle.boundary_streams.proofs.merging.exchange_slot.Goals as goal

pub returns-then-is_left : goal.returns-then-is_left
returns-then-is_left c =
    let input = c.args.store.now.lanes.input in
    let ours = c.slot_at-ours.result in
    found_none c.args.theirs.now (λ found. IsSlotExchanged c.args.phase c.args.k c.args.n found c.args.store.now c.args.store.now) c.is_none.ensures c.if-is_none.true (record {
      eight = read_at input c.args.k (λ (v : VertexRecord). length v.slots ≡ 8) c.slot_at-ours.ensures.eight;
      slot = left_slot c.args.phase c.args.k c.args.n ours c.args.store.now (read_at input c.args.k (λ (v : VertexRecord). ours ≡ slot_at v c.args.n) c.slot_at-ours.ensures.slot) (c.is_left.ensures c.if-is_left.true);
    })

pub returns : goal.returns
returns c =
    let input = c.args.store.now.lanes.input in
    let ours = c.slot_at-ours.result in
    record {
      eight = read_at input c.args.k (λ (v : VertexRecord). length v.slots ≡ 8) c.slot_at-ours.ensures.eight;
      slot = λ d.
          read_at input c.args.k (λ (v : VertexRecord). c.set_slot.new.self ≡ with_record c.args.store.now c.args.k (with_slot v c.args.n c.exchange.result)) c.set_slot.ensures.slot d
          ∙ ap (λ s. with_record c.args.store.now c.args.k (with_slot (record_at c.args.store.now c.args.k d) c.args.n s))
          (c.exchange.ensures ∙ ap (λ s. finished c.args.phase (taken c.args.phase c.args.n c.args.theirs.now s)) (read_at input c.args.k (λ (v : VertexRecord). ours ≡ slot_at v c.args.n) c.slot_at-ours.ensures.slot d));
    }
