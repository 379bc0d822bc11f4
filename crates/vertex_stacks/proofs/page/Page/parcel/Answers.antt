use Rattle.std.proofs.Common.{◌∙◌, ap}
use Rattle.vertex_stacks.specs.Lists.{parcel_of}
use Rattle.vertex_stacks.proofs.Flat.{read_records_of, parcel_is}
use Rattle.vertex_stacks.proofs.page.Page.parcel.Goals as goal

pub returns-clause-vertex : goal.returns-clause-vertex
returns-clause-vertex c = λ d.
    let i = c.self.inside in
    rw (← c.self.view_is) (
    parcel_is c.parcel.result c.index.result.now c.index-2.result.now c.index-3.result.now c.parcel.ensures.key c.parcel.ensures.slots
    ∙ ap (λ v. parcel_of v) (read_records_of i.near.items i.far.items i.more.items c.args.place c.index.result.now c.index-2.result.now c.index-3.result.now d c.self.invariant.0 c.self.invariant.1 c.self.invariant.2 c.requires c.index.ensures c.index-2.ensures c.index-3.ensures)
    )
