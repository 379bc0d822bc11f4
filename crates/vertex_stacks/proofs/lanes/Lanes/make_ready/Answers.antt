use Rattle.std.proofs.Common.{◌≡◌, ◌<◌, ◌+◌, ◌*◌, ◌-◌, arith, length, map}
use Rattle.std.specs.Prelude.{reverse}
use Rattle.std.proofs.lemmas.List.{length-reverse}
use Rattle.vertex_stacks.specs.Lists.{held_by, lists_of, places_of}
use Rattle.vertex_stacks.specs.Piles.{items_of}
use Rattle.vertex_stacks.proofs.Counts.{pages_seen, room-le-places, spare_means}
use Rattle.vertex_stacks.proofs.Sound.{free_page}
use Rattle.vertex_stacks.proofs.lanes.Lanes.make_ready.Goals as goal

pub returns-clause-room : goal.returns-clause-room
returns-clause-room c = λ spare.
    let i = c.self.inside in
    let few = rw (length-reverse i.input.items) at (spare_means (places_of i.dim i.pages) (length (reverse i.input.items) + length i.output.items + held_by (map items_of i.lanes)) (rw (← c.self.view_is) at spare)) in
    let free = free_page i.dim i.pages i.pool i.input i.output i.lanes c.self.invariant few in
    let none : i.pool.count ≡ 0 = c.is_empty.ensures.yes c.if-not-is_empty.false in
    absurd (omega (arith, free, none))

pub returns-clause-live : goal.returns-clause-live
returns-clause-live c = λ live.
    let i = c.self.inside in
    let seen = pages_seen i.dim i.pages (reverse i.input.items) i.output.items (map items_of i.lanes) i.taken i.put i.pushed i.tale in
    let held : length (reverse i.input.items) + length i.output.items + held_by (map items_of i.lanes) < 64 * (i.pages - lists_of i.dim) = rw seen at (rw (← c.self.view_is) at live) in
    let few : length i.input.items + length i.output.items + held_by (map items_of i.lanes) < places_of i.dim i.pages = omega (arith, held, room-le-places i.dim i.pages, length-reverse i.input.items) in
    let free = free_page i.dim i.pages i.pool i.input i.output i.lanes c.self.invariant few in
    let none : i.pool.count ≡ 0 = c.is_empty.ensures.yes c.if-not-is_empty.false in
    absurd (omega (arith, free, none))
