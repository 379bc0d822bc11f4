use Rattle.std.proofs.Common.{map, ap, sym, ◌∙◌}
use Rattle.boundary_streams.specs.Sendings.{items_of}
use Rattle.boundary_streams.proofs.Sends.{added, with_parcel}
use Rattle.boundary_streams.proofs.collecting.add.Goals as goal

pub returns : goal.returns
returns c =
    added c.args.lists.now.items c.args.place c.index_mut.result.now c.push.new.self c.args.parcel.now c.requires c.index_mut.ensures.value c.in_ok-push.ensures.items
    ∙ ap (λ b. with_parcel (map items_of c.args.lists.now.items) c.args.place c.args.parcel.now b) (sym c.if-not-wanted.false)
