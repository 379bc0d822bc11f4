use Rattle.std.proofs.Common.{◌∙◌, sym, arith}
use Rattle.std.proofs.lemmas.Bool.Decides.{nat_tests}
use Rattle.vertex_stacks.proofs.Flat.{length-seen}
use Rattle.vertex_stacks.proofs.pile.Pile.is_full.Goals as goal

pub returns : goal.returns
returns c =
    let i = c.self.inside in
    rw (← c.self.view_is, length-seen i.pages.items i.count c.self.invariant.1 (sym i.pages.ok.0 ∙ c.self.invariant.0)) ((λ t. grind (arith, nat_tests, t)), (λ e. grind (arith, nat_tests, e)))
