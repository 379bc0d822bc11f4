use Rattle.std.proofs.Common.{ℕ, ap, ◌∙◌}
use Rattle.demonstration.specs.Draws.{next_number, number_after, drawn}
use Rattle.demonstration.specs.Demo.{fill_by}
use Rattle.demonstration.proofs.draws.Draws.fill.Goals as goal

pub returns-clause-moved : goal.returns-clause-moved
unfolding number_after
returns-clause-moved c = c.below-value.ensures.moved ∙ ap next_number (c.below-y.ensures.moved ∙ ap next_number c.below-x.ensures.moved)

pub returns-clause-value : goal.returns-clause-value
unfolding number_after
returns-clause-value c =
    let s : ℕ = c.args.self.now.number in
    let one = c.below-x.ensures.moved in
    let two = c.below-y.ensures.moved ∙ ap next_number one in
    let three = c.below-value.ensures.moved ∙ ap next_number two in
    let x = c.below-x.ensures.value ∙ ap (drawn 25) one in
    let y = c.below-y.ensures.value ∙ ap (drawn 25) two in
    let v = c.below-value.ensures.value ∙ ap (drawn 2001) three in
    rw c.value_by.ensures (λ i. fill_by (x i) (y i) (v i))
