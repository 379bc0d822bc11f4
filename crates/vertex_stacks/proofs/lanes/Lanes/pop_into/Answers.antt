use Rattle.std.proofs.Common.{◌<◌, ◌∙◌, [], length, map, refl}
use Rattle.std.specs.Prelude.{reverse}
use Rattle.std.proofs.lemmas.List.{map-set, get_or-set_same, length-map}
use Rattle.vertex_stacks.specs.Lists.{places_of}
use Rattle.vertex_stacks.specs.Piles.{items_of}
use Rattle.vertex_stacks.proofs.Counts.{held_by-popped, spare_rises}
use Rattle.vertex_stacks.proofs.Sound.{lane_is, lane_within, moved_lane}
use Rattle.vertex_stacks.proofs.lanes.Lanes.pop_into.Goals as goal

pub invariant_of-self : goal.invariant_of-self
invariant_of-self c =
    let i = c.self.inside in
    moved_lane i.dim i.pages i.pool c.pop.new.pool i.input i.output i.lanes c.args.lane c.index-self-lane.result c.pop.new.self c.self.invariant (rw (← c.self.view_is) at c.requires) c.pop.ensures.reach c.pop.ensures.pages

pub returns-clause-others : goal.returns-clause-others
returns-clause-others c = λ _.
    let i = c.self.inside in
    let h = lane_within i.dim c.args.lane (length i.lanes) c.self.invariant.six (rw (← c.self.view_is) at c.requires) in
    let inside : c.args.lane < length (map items_of i.lanes) = rw (length-map i.lanes items_of) h in
    rw (← c.self.view_is, map-set items_of i.lanes c.args.lane c.pop.new.self, get_or-set_same (map items_of i.lanes) c.args.lane c.pop.new.self.items [] inside) refl

pub returns-clause-spare : goal.returns-clause-spare
returns-clause-spare c = λ t.
    let i = c.self.inside in
    let h = lane_within i.dim c.args.lane (length i.lanes) c.self.invariant.six (rw (← c.self.view_is) at c.requires) in
    let inside : c.args.lane < length (map items_of i.lanes) = rw (length-map i.lanes items_of) h in
    let popped = lane_is i.lanes c.args.lane c.index-self-lane.result h ∙ c.pop.ensures.last t in
    rw (← c.self.view_is, map-set items_of i.lanes c.args.lane c.pop.new.self)
    (spare_rises (places_of i.dim i.pages) (length (reverse i.input.items)) (length i.output.items) _ _ (held_by-popped (map items_of i.lanes) c.args.lane c.pop.new.self.items c.pop.new.v inside popped))
