use Rattle.std.proofs.Common.{◌∙◌, sym, ap, set, length}
use Rattle.peano_records.specs.Slots.{with_slot}
use Rattle.vertex_stacks.specs.Piles.{records_of}
use Rattle.vertex_stacks.proofs.Flat.{records_of-set, read_records_of}
use Rattle.vertex_stacks.proofs.page.Page.set_slot.Goals as goal

pub returns-clause-value : goal.returns-clause-value
returns-clause-value c = λ d.
    let i = c.self.inside in
    let read = read_records_of i.near.items i.far.items i.more.items c.args.place c.index_mut.result.now c.index_mut-2.result.now c.index_mut-3.result.now d c.self.invariant.0 c.self.invariant.1 c.self.invariant.2 c.requires.place c.index_mut.ensures.value c.index_mut-2.ensures.value c.index_mut-3.ensures.value in
    rw (← c.self.view_is) (
    records_of-set i.near.items i.far.items i.more.items c.args.place c.set.new.self c.set.new.far c.set.new.more (c.self.invariant.0 ∙ sym c.self.invariant.1) (c.self.invariant.0 ∙ sym c.self.invariant.2)
    ∙ (ap (λ v. set (records_of i.near.items i.far.items i.more.items) c.args.place v) c.set.ensures.value
    ∙ ap (λ v. set (records_of i.near.items i.far.items i.more.items) c.args.place (with_slot v c.args.n c.args.slot)) read)
    )

pub returns-clause-eight : goal.returns-clause-eight
returns-clause-eight c = λ d.
    let i = c.self.inside in
    let read = read_records_of i.near.items i.far.items i.more.items c.args.place c.index_mut.result.now c.index_mut-2.result.now c.index_mut-3.result.now d c.self.invariant.0 c.self.invariant.1 c.self.invariant.2 c.requires.place c.index_mut.ensures.value c.index_mut-2.ensures.value c.index_mut-3.ensures.value in
    rw (← c.self.view_is) (ap (λ v. length v.slots) (sym read) ∙ c.set.ensures.eight)
