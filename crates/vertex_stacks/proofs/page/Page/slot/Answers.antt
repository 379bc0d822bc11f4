use Rattle.std.proofs.Common.{◌∙◌, length, ap, sym}
use Rattle.peano_records.specs.declared.stored.Stored.{Stored}
use Rattle.peano_records.specs.Slots.{slot_at}
use Rattle.vertex_stacks.proofs.Flat.{read_records_of, record_eight}
use Rattle.vertex_stacks.proofs.page.Page.slot.Goals as goal

pub returns-clause-value : goal.returns-clause-value
returns-clause-value c = λ d.
    let i = c.self.inside in
    rw (← c.self.view_is) (
    c.slot.ensures
    ∙ ap (λ (s : Stored). slot_at s c.args.n) (read_records_of i.near.items i.far.items i.more.items c.args.place c.index.result.now c.index-2.result.now c.index-3.result.now d c.self.invariant.0 c.self.invariant.1 c.self.invariant.2 c.requires.place c.index.ensures c.index-2.ensures c.index-3.ensures)
    )

pub returns-clause-eight : goal.returns-clause-eight
returns-clause-eight c = λ d.
    let i = c.self.inside in
    rw (← c.self.view_is) (
    ap (λ (s : Stored). length s.slots) (sym (read_records_of i.near.items i.far.items i.more.items c.args.place c.index.result.now c.index-2.result.now c.index-3.result.now d c.self.invariant.0 c.self.invariant.1 c.self.invariant.2 c.requires.place c.index.ensures c.index-2.ensures c.index-3.ensures))
    ∙ record_eight c.index.result.now c.index-2.result.now c.index-3.result.now
    )
