use Rattle.std.proofs.Common.{◌≡◌, ap, subst}
use Rattle.std.specs.Prelude.{reverse, []}
use Rattle.vertex_stacks.specs.Lists.{IsDrained}
use Rattle.vertex_stacks.proofs.Sound.{lanes_empty, piles_empty}
use Rattle.vertex_stacks.proofs.lanes.Lanes.is_drained.Goals as goal

pub returns-then-is_empty-clause-value : goal.returns-then-is_empty-clause-value
returns-then-is_empty-clause-value c =
    let i = c.self.inside in
    let e : i.input.items ≡ [] = c.is_empty.ensures.yes c.if-is_empty.true in
    (λ t. subst IsDrained c.self.view_is (record { input = ap reverse e; lanes = λ n _. lanes_empty i.lanes (c.are_empty.ensures.0 t) n }), λ d. c.are_empty.ensures.1 (piles_empty i.lanes c.self.invariant.six (rw (← c.self.view_is) at d.lanes)))
