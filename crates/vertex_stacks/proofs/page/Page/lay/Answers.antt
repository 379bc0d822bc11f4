use Rattle.std.proofs.Common.{◌∙◌, sym, ap, set}
use Rattle.vertex_stacks.specs.Piles.{records_of}
use Rattle.vertex_stacks.proofs.Flat.{records_of-set}
use Rattle.vertex_stacks.proofs.page.Page.lay.Goals as goal

pub returns : goal.returns
returns c =
    let i = c.self.inside in
    rw (← c.self.view_is) (
    records_of-set i.near.items i.far.items i.more.items c.args.place c.lay.new.near c.lay.new.far c.lay.new.more (c.self.invariant.0 ∙ sym c.self.invariant.1) (c.self.invariant.0 ∙ sym c.self.invariant.2)
    ∙ ap (λ v. set (records_of i.near.items i.far.items i.more.items) c.args.place v) c.lay.ensures
    )
