use Rattle.std.proofs.Common.{◌≡◌, ◌<◌, ◌∙◌, ◌%◌, ◌/◌, sym, ap, get_or, set, arith, length, length-set}
use Rattle.peano_records.specs.Slots.{with_slot, untold}
use Rattle.vertex_stacks.proofs.Flat.{length-seen, seen_at, seen-set, whole-set}
use Rattle.vertex_stacks.proofs.pile.Pile.set_slot.Goals as goal

pub invariant_of-self : goal.invariant_of-self
invariant_of-self c =
    let i = c.self.inside in
    let n = sym i.pages.ok.0 ∙ c.self.invariant.0 in
    let h = rw (← c.self.view_is, length-seen i.pages.items i.count c.self.invariant.1 n) at c.requires.place in
    let inside : c.args.place / 64 < length i.pages.items = omega (arith, n, h) in
    let page = get_or i.pages.items (c.args.place / 64) c.index_mut.result.now in
    let old : length c.index_mut.result.now ≡ 64 = ap length c.index_mut.ensures.value ∙ c.self.invariant.1 (c.args.place / 64) c.index_mut.result.now inside in
    (c.self.invariant.0, whole-set i.pages.items (c.args.place / 64) c.set_slot.new.self c.self.invariant.1 inside (ap length (c.set_slot.ensures.value untold) ∙ (length-set c.index_mut.result.now (c.args.place % 64) (with_slot (get_or c.index_mut.result.now (c.args.place % 64) untold) c.args.n c.args.slot) ∙ old)))

pub returns-clause-items : goal.returns-clause-items
returns-clause-items c = λ d.
    let i = c.self.inside in
    let n = sym i.pages.ok.0 ∙ c.self.invariant.0 in
    let h = rw (← c.self.view_is, length-seen i.pages.items i.count c.self.invariant.1 n) at c.requires.place in
    let old = c.index_mut.result.now in
    let at = seen_at i.pages.items i.count c.args.place old d c.self.invariant.1 n h in
    let is = c.set_slot.ensures.value d ∙ (ap (λ page. set page (c.args.place % 64) (with_slot (get_or page (c.args.place % 64) d) c.args.n c.args.slot)) c.index_mut.ensures.value ∙ ap (λ v. set (get_or i.pages.items (c.args.place / 64) old) (c.args.place % 64) (with_slot v c.args.n c.args.slot)) (sym at)) in
    rw (← c.self.view_is) (seen-set i.pages.items i.count c.args.place old c.set_slot.new.self _ c.self.invariant.1 n h is)

pub returns-clause-eight : goal.returns-clause-eight
returns-clause-eight c = λ d.
    let i = c.self.inside in
    let n = sym i.pages.ok.0 ∙ c.self.invariant.0 in
    let h = rw (← c.self.view_is, length-seen i.pages.items i.count c.self.invariant.1 n) at c.requires.place in
    let old = c.index_mut.result.now in
    rw (← c.self.view_is) (
    ap (λ v. length v.slots) (seen_at i.pages.items i.count c.args.place old d c.self.invariant.1 n h)
    ∙ (ap (λ page. length (get_or page (c.args.place % 64) d).slots) (sym c.index_mut.ensures.value) ∙ c.set_slot.ensures.eight d)
    )
