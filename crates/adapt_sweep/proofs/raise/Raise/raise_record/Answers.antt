use Rattle.std.proofs.Common.{◌≡◌, ◌∙◌, ◌<◌, ◌+◌, ap, sym, subst, arith}
use Rattle.peano_keys.specs.Dim.{corners}
use Rattle.peano_records.proofs.Intents.{below_eight}
use Rattle.peano_records.specs.Slots.{slot_at}
use Rattle.adapt_sweep.specs.Raises.{source_of, IsRaisedSlot}
use Rattle.adapt_sweep.proofs.Slots.{SlotsBelow, no_slot, next_slot, record_raised_all}
use Rattle.adapt_sweep.proofs.raise.Raise.raise_record.Goals as goal

pub loop-k-init : goal.loop-k-init
loop-k-init c = no_slot (source_of c.args.self.now) c.dim-dim.result c.key-key.result c.args.stored.now

pub loop-k-preserved : goal.loop-k-preserved
loop-k-preserved c =
    let r = source_of c.args.self.now in
    let below : c.loop-k.k < 8 = below_eight c.dim-dim.result c.loop-k.k (omega (arith, c.corner_count-k-end.ensures.value)) in
    subst (SlotsBelow r c.dim-dim.result c.key-key.result (c.loop-k.k + 1) c.args.stored.now) (sym c.set.ensures.value)
    (next_slot r c.dim-dim.result c.key-key.result c.loop-k.k c.args.stored.now c.loop-k.stored c.raised-slot.result c.set.ensures.eight below
    (subst (λ x. IsRaisedSlot r x (slot_at c.loop-k.stored c.loop-k.k) c.raised-slot.result) c.adjacent.ensures.value (subst (λ x. IsRaisedSlot r c.adjacent.result x c.raised-slot.result) c.slot.ensures.value c.raised-slot.ensures))
    c.loop-k.invariant)

pub returns : goal.returns
returns c =
    let r = source_of c.args.self.now in
    let end : c.loop-k.k ≡ corners r.grid.dim = (let e : c.loop-k.k ≡ c.corner_count-k-end.result = omega arith in e ∙ (c.corner_count-k-end.ensures.value ∙ ap corners c.dim-dim.ensures)) in
    record_raised_all r c.loop-k.k c.args.stored.now c.loop-k.stored end
    (subst (λ d. SlotsBelow r d c.args.stored.now.key c.loop-k.k c.args.stored.now c.loop-k.stored) c.dim-dim.ensures (subst (λ x. SlotsBelow r c.dim-dim.result x c.loop-k.k c.args.stored.now c.loop-k.stored) c.key-key.ensures c.loop-k.invariant))
