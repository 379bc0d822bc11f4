use Rattle.std.proofs.Common.{◌∙◌, sym}
use Rattle.vertex_stacks.proofs.Flat.{closed}
use Rattle.vertex_stacks.proofs.pile.close_place.Goals as goal

pub returns-in-Some-clause-items : goal.returns-in-Some-clause-items
returns-in-Some-clause-items c =
    let old = c.args.pages.now in
    closed old.items c.pop.new.self.items c.in-Some.page c.args.count c.requires.whole c.in-Some.ensures.items (sym old.ok.0 ∙ c.requires.len) c.if-count-eq0.true
