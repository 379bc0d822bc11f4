use Rattle.std.proofs.Common.{ap, ◌∙◌}
use Rattle.demonstration.specs.Draws.{next_number, number_after, drawn}
use Rattle.demonstration.specs.Demo.{zone_by}
use Rattle.demonstration.proofs.draws.Draws.zone.Goals as goal

pub returns-clause-moved : goal.returns-clause-moved
unfolding number_after
returns-clause-moved c = c.below-y.ensures.moved ∙ ap next_number c.below-x.ensures.moved

pub returns-clause-value : goal.returns-clause-value
unfolding number_after
returns-clause-value c =
    let one = c.below-x.ensures.moved in
    let two = c.below-y.ensures.moved ∙ ap next_number one in
    let x = c.below-x.ensures.value ∙ ap (drawn 27) one in
    let y = c.below-y.ensures.value ∙ ap (drawn 27) two in
    λ i. zone_by (x i) (y i)
