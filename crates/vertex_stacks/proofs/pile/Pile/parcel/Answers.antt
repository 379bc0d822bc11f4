use Rattle.std.proofs.Common.{◌∙◌, ◌%◌, sym, ap, get_or}
use Rattle.vertex_stacks.specs.Lists.{parcel_of}
use Rattle.vertex_stacks.proofs.Flat.{length-seen, seen_at}
use Rattle.vertex_stacks.proofs.pile.Pile.parcel.Goals as goal

pub returns-clause-vertex : goal.returns-clause-vertex
returns-clause-vertex c = λ d.
    let i = c.self.inside in
    let n = sym i.pages.ok.0 ∙ c.self.invariant.0 in
    let h = rw (← c.self.view_is, length-seen i.pages.items i.count c.self.invariant.1 n) at c.requires in
    rw (← c.self.view_is) (
    c.parcel.ensures.vertex d
    ∙ (ap (λ page. parcel_of (get_or page (c.args.place % 64) d)) c.index.ensures
    ∙ sym (ap (λ v. parcel_of v) (seen_at i.pages.items i.count c.args.place c.index.result.now d c.self.invariant.1 n h)))
    )
