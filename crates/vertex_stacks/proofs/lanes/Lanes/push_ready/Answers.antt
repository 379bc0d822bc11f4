use Rattle.std.proofs.Common.{◌<◌, ◌%◌, ◌∙◌, length, map, refl, ap, sym, arith, set}
use Rattle.std.specs.Prelude.{reverse}
use Rattle.std.proofs.lemmas.List.{map-set, length-map}
use Rattle.vertex_stacks.specs.Lists.{places_of}
use Rattle.vertex_stacks.specs.Piles.{items_of}
use Rattle.vertex_stacks.proofs.Counts.{held_by-pushed, pages_seen, spare_falls}
use Rattle.vertex_stacks.proofs.Sound.{lane_has_room, lane_is, lane_within, moved_lane, ready_means, used_lane}
use Rattle.vertex_stacks.proofs.lanes.Lanes.push_ready.Goals as goal

pub push-requires : goal.push-requires
push-requires c = λ full.
    let i = c.self.inside in
    let lane = rw (← c.self.view_is) at c.requires.lane in
    let h = lane_within i.dim c.args.lane (length i.lanes) c.self.invariant.six lane in
    let d = c.index-self-lane.result in
    let needs = rw (← c.self.view_is) at c.requires.page in
    lane_has_room i.dim i.pages i.pool i.input i.output i.lanes c.args.lane d c.self.invariant lane
    (ready_means i.dim i.pages i.input.items i.output.items (map items_of i.lanes) i.taken i.put i.pushed i.tale (needs (ap (λ l. length l % 64) (lane_is i.lanes c.args.lane d h) ∙ full)))

pub invariant_of-self : goal.invariant_of-self
invariant_of-self c =
    let i = c.self.inside in
    moved_lane i.dim i.pages i.pool c.push.new.pool i.input i.output i.lanes c.args.lane c.index-self-lane.result c.push.new.self c.self.invariant (rw (← c.self.view_is) at c.requires.lane) c.push.ensures.reach c.push.ensures.pages

pub returns-clause-lists : goal.returns-clause-lists
returns-clause-lists c =
    let i = c.self.inside in
    let h = lane_within i.dim c.args.lane (length i.lanes) c.self.invariant.six (rw (← c.self.view_is) at c.requires.lane) in
    rw (← c.self.view_is, c.saturating_add-self-inside.ensures, map-set items_of i.lanes c.args.lane c.push.new.self, c.push.ensures.items, ← lane_is i.lanes c.args.lane c.index-self-lane.result h) refl

pub returns-clause-spare : goal.returns-clause-spare
returns-clause-spare c =
    let i = c.self.inside in
    let h = lane_within i.dim c.args.lane (length i.lanes) c.self.invariant.six (rw (← c.self.view_is) at c.requires.lane) in
    let inside : c.args.lane < length (map items_of i.lanes) = rw (length-map i.lanes items_of) h in
    rw (← c.self.view_is, map-set items_of i.lanes c.args.lane c.push.new.self, c.push.ensures.items, ← lane_is i.lanes c.args.lane c.index-self-lane.result h)
    (spare_falls (places_of i.dim i.pages) (length (reverse i.input.items)) (length i.output.items) _ _ (held_by-pushed (map items_of i.lanes) c.args.lane c.args.v.now inside))

pub returns-clause-pages : goal.returns-clause-pages
returns-clause-pages c =
    let i = c.self.inside in
    rw (← c.self.view_is) (pages_seen i.dim i.pages (reverse i.input.items) i.output.items (map items_of (set i.lanes c.args.lane c.push.new.self)) i.taken i.put c.saturating_add-self-inside.result i.tale ∙ sym (pages_seen i.dim i.pages (reverse i.input.items) i.output.items (map items_of i.lanes) i.taken i.put i.pushed i.tale))

pub returns-clause-used : goal.returns-clause-used
returns-clause-used c =
    let i = c.self.inside in
    let h = lane_within i.dim c.args.lane (length i.lanes) c.self.invariant.six (rw (← c.self.view_is) at c.requires.lane) in
    let inside : c.args.lane < length (map items_of i.lanes) = rw (length-map i.lanes items_of) h in
    rw (← c.self.view_is, map-set items_of i.lanes c.args.lane c.push.new.self, c.push.ensures.items, ← lane_is i.lanes c.args.lane c.index-self-lane.result h)
    (omega (arith, used_lane (map items_of i.lanes) c.args.lane c.args.v.now inside))
