use Rattle.std.proofs.Common.{◌∙◌, sym, arith, map}
use Rattle.std.specs.Prelude.{reverse}
use Rattle.std.proofs.lemmas.Int.{ints}
use Rattle.std.proofs.lemmas.List.{length_push}
use Rattle.vertex_stacks.specs.Piles.{items_of}
use Rattle.vertex_stacks.proofs.Counts.{pages_seen}
use Rattle.vertex_stacks.proofs.lanes.Lanes.put_ready.Goals as goal

pub returns-clause-spare : goal.returns-clause-spare
returns-clause-spare c =
    let i = c.self.inside in
    rw (← c.self.view_is, c.push.ensures.items, length_push i.output.items c.args.v.now) (omega (arith, ints))

pub returns-clause-pages : goal.returns-clause-pages
returns-clause-pages c =
    let i = c.self.inside in
    rw (← c.self.view_is) (pages_seen i.dim i.pages (reverse i.input.items) c.push.new.self.items (map items_of i.lanes) i.taken c.saturating_add-self-inside.result i.pushed i.tale ∙ sym (pages_seen i.dim i.pages (reverse i.input.items) i.output.items (map items_of i.lanes) i.taken i.put i.pushed i.tale))
