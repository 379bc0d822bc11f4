use Rattle.std.proofs.Common.{◌∙◌, ◌%◌, List, length, sym, ap, get_or}
use Rattle.peano_records.specs.declared.stored.Stored.{Stored}
use Rattle.peano_records.specs.Slots.{slot_at}
use Rattle.vertex_stacks.proofs.Flat.{length-seen, seen_at}
use Rattle.vertex_stacks.proofs.pile.Pile.slot.Goals as goal

pub returns-clause-value : goal.returns-clause-value
returns-clause-value c = λ d.
    let i = c.self.inside in
    let n = sym i.pages.ok.0 ∙ c.self.invariant.0 in
    let h = rw (← c.self.view_is, length-seen i.pages.items i.count c.self.invariant.1 n) at c.requires.place in
    rw (← c.self.view_is) (
    c.slot.ensures.value d
    ∙ (ap (λ (page : List Stored). slot_at (get_or page (c.args.place % 64) d) c.args.n) c.index.ensures
    ∙ sym (ap (λ (v : Stored). slot_at v c.args.n) (seen_at i.pages.items i.count c.args.place c.index.result.now d c.self.invariant.1 n h)))
    )

pub returns-clause-eight : goal.returns-clause-eight
returns-clause-eight c = λ d.
    let i = c.self.inside in
    let n = sym i.pages.ok.0 ∙ c.self.invariant.0 in
    let h = rw (← c.self.view_is, length-seen i.pages.items i.count c.self.invariant.1 n) at c.requires.place in
    rw (← c.self.view_is) (
    ap (λ (v : Stored). length v.slots) (seen_at i.pages.items i.count c.args.place c.index.result.now d c.self.invariant.1 n h)
    ∙ (ap (λ (page : List Stored). length (get_or page (c.args.place % 64) d).slots) (sym c.index.ensures) ∙ c.slot.ensures.eight d)
    )
