use Rattle.std.proofs.Common.{◌≡◌, length, map, arith, ◌∙◌, sym, ap, length-set}
use Rattle.std.specs.Prelude.{reverse}
use Rattle.std.proofs.lemmas.List.{length-reverse}
use Rattle.peano_records.specs.Slots.{untold}
use Rattle.vertex_stacks.specs.Piles.{items_of}
use Rattle.vertex_stacks.proofs.Counts.{pages_seen}
use Rattle.vertex_stacks.proofs.Places.{slice_get-reverse, lists_seen-set}
use Rattle.vertex_stacks.proofs.Sound.{input_kept}
use Rattle.vertex_stacks.proofs.lanes.Lanes.set_slot.Goals as goal

pub invariant_of-self : goal.invariant_of-self
invariant_of-self c =
    let i = c.self.inside in
    let new = c.set_slot.new.self in
    let same : length new.items ≡ length i.input.items = ap length (c.set_slot.ensures.items untold) ∙ length-set i.input.items _ _ in
    input_kept i.dim i.pages i.pool i.input new i.output i.lanes c.self.invariant same c.set_slot.ensures.reach

pub returns-clause-slot : goal.returns-clause-slot
returns-clause-slot c =
    let i = c.self.inside in
    let asked = rw (← c.self.view_is, length-reverse i.input.items) at c.requires.place in
    rw (← c.self.view_is, slice_get-reverse i.input.items c.args.k untold asked, c.set_slot.ensures.items untold, c.len.ensures)
    (lists_seen-set i.dim i.pages i.input.items i.output.items (map items_of i.lanes) i.taken i.put i.pushed i.tale _ c.args.k _ (omega arith))

pub returns-clause-eight : goal.returns-clause-eight
returns-clause-eight c =
    let i = c.self.inside in
    let asked = rw (← c.self.view_is, length-reverse i.input.items) at c.requires.place in
    rw (← c.self.view_is, slice_get-reverse i.input.items c.args.k untold asked) (rw c.len.ensures at (c.set_slot.ensures.eight untold))

pub returns-clause-pages : goal.returns-clause-pages
returns-clause-pages c =
    let i = c.self.inside in
    rw (← c.self.view_is) (pages_seen i.dim i.pages (reverse c.set_slot.new.self.items) i.output.items (map items_of i.lanes) i.taken i.put i.pushed i.tale ∙ sym (pages_seen i.dim i.pages (reverse i.input.items) i.output.items (map items_of i.lanes) i.taken i.put i.pushed i.tale))
