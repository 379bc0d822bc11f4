use Rattle.std.proofs.Common.{◌∙◌, sym, ap, arith, []}
use Rattle.std.specs.Prelude.{◌++◌, ◌∷◌, ◌%◌, slice_set}
use Rattle.std.proofs.Common.{length-append}
use Rattle.vertex_stacks.proofs.Flat.{length-seen, pushed}
use Rattle.vertex_stacks.proofs.pile.Pile.push.Goals as goal

pub open_place-requires-clause-page : goal.open_place-requires-clause-page
open_place-requires-clause-page c = λ e.
    let i = c.self.inside in
    let w = (rw (← c.self.view_is, length-seen i.pages.items i.count c.self.invariant.1 (sym i.pages.ok.0 ∙ c.self.invariant.0)) at c.requires) e in
    (w.0, omega (arith, w.1, c.self.invariant.0))

pub returns-clause-items : goal.returns-clause-items
returns-clause-items c =
    let i = c.self.inside in
    let p = c.open_place.new.pages in
    rw (← c.self.view_is) (
    pushed p.items i.count c.lay.new.self c.index_mut.result.now c.args.v.now c.open_place.ensures.whole (sym p.ok.0 ∙ c.open_place.ensures.len) (c.lay.ensures ∙ ap (λ page. slice_set page (i.count % 64) c.args.v.now) c.index_mut.ensures.value)
    ∙ ap (λ l. l ++ c.args.v.now ∷ []) c.open_place.ensures.items
    )

pub returns-clause-pages : goal.returns-clause-pages
returns-clause-pages c =
    let i = c.self.inside in
    let len = length-seen i.pages.items i.count c.self.invariant.1 (sym i.pages.ok.0 ∙ c.self.invariant.0) in
    let old = rw (← c.self.view_is) at (returns-clause-items c) in
    rw (← c.self.view_is, old, length-append _ (c.args.v.now ∷ []), len) (omega (arith, c.open_place.ensures.pool.0, c.open_place.ensures.len, c.self.invariant.0))
