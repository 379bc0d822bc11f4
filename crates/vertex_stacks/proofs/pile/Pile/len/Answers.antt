use Rattle.std.proofs.Common.{◌∙◌, sym}
use Rattle.vertex_stacks.proofs.Flat.{length-seen}
use Rattle.vertex_stacks.proofs.pile.Pile.len.Goals as goal

pub returns : goal.returns
returns c =
    let i = c.self.inside in
    rw (← c.self.view_is) (sym (length-seen i.pages.items i.count c.self.invariant.1 (sym i.pages.ok.0 ∙ c.self.invariant.0)))
