use Rattle.std.proofs.Common.{◌∙◌, ap, take, arith}
use Rattle.vertex_stacks.specs.Piles.{flat}
use Rattle.vertex_stacks.proofs.Flat.{opened}
use Rattle.vertex_stacks.proofs.pile.open_place.Goals as goal

pub returns-then-count-eq0-clause-items : goal.returns-then-count-eq0-clause-items
returns-then-count-eq0-clause-items c =
    let old = c.args.pages.now in
    ap (λ l. take c.args.count (flat l)) c.push_reserved.ensures.items ∙ opened old.items c.take.result c.args.count c.requires.whole (omega (arith, old.ok.0, c.requires.len))
