use Rattle.std.proofs.Common.{◌<◌, ◌-◌, ◌*◌, ◌∙◌, arith, ap}
use Rattle.vertex_stacks.specs.Lists.{lists_of, pages_of}
use Rattle.vertex_stacks.proofs.Counts.{live_pages, live_room}
use Rattle.vertex_stacks.proofs.lanes.Lanes.reserve_live.Goals as goal

pub returns-clause-pages : goal.returns-clause-pages
returns-clause-pages c =
    let s = c.args.self.now in
    let few : 64 * (pages_of s - lists_of s.dim) < c.args.vertices = omega (arith, c.room.ensures.value, c.if-vertices-room.false) in
    (rw (c.list_count.ensures, c.pages.ensures.value) at c.in_ok-add_pages.ensures.pages) ∙ live_pages s.dim (pages_of s) c.args.vertices few

pub returns-clause-room : goal.returns-clause-room
returns-clause-room c =
    let s = c.args.self.now in
    let few : 64 * (pages_of s - lists_of s.dim) < c.args.vertices = omega (arith, c.room.ensures.value, c.if-vertices-room.false) in
    let pages = rw (c.list_count.ensures, c.pages.ensures.value) at c.in_ok-add_pages.ensures.pages in
    rw (pages, ap (λ l. l.dim) c.in_ok-add_pages.ensures.lists) (live_room s.dim (pages_of s) c.args.vertices few)
