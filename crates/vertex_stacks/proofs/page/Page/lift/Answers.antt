use Rattle.std.proofs.Common.{◌∙◌}
use Rattle.vertex_stacks.proofs.Flat.{read_records_of}
use Rattle.vertex_stacks.proofs.page.Page.lift.Goals as goal

pub returns : goal.returns
returns c = λ d.
    let i = c.self.inside in
    rw (← c.self.view_is) (
    c.lift.ensures
    ∙ read_records_of i.near.items i.far.items i.more.items c.args.place c.index.result.now c.index-2.result.now c.index-3.result.now d c.self.invariant.0 c.self.invariant.1 c.self.invariant.2 c.requires c.index.ensures c.index-2.ensures c.index-3.ensures
    )
