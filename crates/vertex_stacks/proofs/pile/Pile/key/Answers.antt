use Rattle.std.proofs.Common.{◌∙◌, ◌%◌, List, sym, ap, get_or}
use Rattle.peano_records.specs.declared.stored.Stored.{Stored}
use Rattle.vertex_stacks.proofs.Flat.{length-seen, seen_at}
use Rattle.vertex_stacks.proofs.pile.Pile.key.Goals as goal

pub returns : goal.returns
returns c = λ d.
    let i = c.self.inside in
    let n = sym i.pages.ok.0 ∙ c.self.invariant.0 in
    let h = rw (← c.self.view_is, length-seen i.pages.items i.count c.self.invariant.1 n) at c.requires in
    rw (← c.self.view_is) (
    c.key.ensures d
    ∙ (ap (λ (page : List Stored). (get_or page (c.args.place % 64) d).key) c.index.ensures
    ∙ sym (ap (λ (v : Stored). v.key) (seen_at i.pages.items i.count c.args.place c.index.result.now d c.self.invariant.1 n h)))
    )
