use Rattle.std.proofs.Common.{◌-◌, ◌∙◌, sym, arith}
use Rattle.vertex_stacks.proofs.Flat.{length-seen, popped}
use Rattle.vertex_stacks.proofs.pile.Pile.pop.Goals as goal

pub close_place-requires-clause-reach : goal.close_place-requires-clause-reach
close_place-requires-clause-reach c =
    let i = c.self.inside in
    let needs = rw (← c.self.view_is, length-seen i.pages.items i.count c.self.invariant.1 (sym i.pages.ok.0 ∙ c.self.invariant.0)) at c.requires in
    needs (omega (arith, c.if-self-eq0.false))

pub returns-clause-last : goal.returns-clause-last
returns-clause-last c = λ _.
    let i = c.self.inside in
    rw (← c.self.view_is) (popped i.pages.items c.close_place.new.pages.items i.count (i.count - 1) c.index.result.now c.lift.new.v c.self.invariant.1 (sym i.pages.ok.0 ∙ c.self.invariant.0) (omega (arith, c.if-self-eq0.false)) (λ d. rw (← c.index.ensures) (c.lift.ensures d)) c.close_place.ensures.items)

pub returns-clause-pages : goal.returns-clause-pages
returns-clause-pages c =
    let i = c.self.inside in
    let p = c.close_place.new.pages in
    rw (← c.self.view_is, length-seen i.pages.items i.count c.self.invariant.1 (sym i.pages.ok.0 ∙ c.self.invariant.0), length-seen p.items (i.count - 1) c.close_place.ensures.whole (sym p.ok.0 ∙ c.close_place.ensures.len)) (omega (arith, c.close_place.ensures.pool.0, c.close_place.ensures.len, c.self.invariant.0))
