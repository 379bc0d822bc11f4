use Rattle.peano_keys.specs.declared.side.Side.{Side}
use Rattle.solver_api.specs.Parts.{side_on}
use Rattle.solver_api.specs.Marks.{difference, is_at_least, is_below}
use Rattle.volume_solver.proofs.Choices.{some_of_six, all_of_six}
use Rattle.volume_solver.proofs.marks.seen_around.Goals as goal

pub returns-in-Three-clause-reached : goal.returns-in-Three-clause-reached
returns-in-Three-clause-reached c =
    let test = λ (s : Side). is_at_least c.args.criterion.hi (difference c.args.criterion.watch c.args.own s) in
    let low = c.args.sides.now.low in
    let high = c.args.sides.now.high in
    rw (c.in-Three.is, c.with-in-Three-2.ensures.reached, c.with-in-Three.ensures.reached, c.seen_on-first.ensures.reached, c.seen_on-second.ensures.reached, c.seen_on-third.ensures.reached) (some_of_six (test (side_on low 0)) (test (side_on high 0)) (test (side_on low 1)) (test (side_on high 1)) (test (side_on low 2)) (test (side_on high 2)))

pub returns-in-Three-clause-calm : goal.returns-in-Three-clause-calm
returns-in-Three-clause-calm c =
    let test = λ (s : Side). is_below c.args.criterion.lo (difference c.args.criterion.watch c.args.own s) in
    let low = c.args.sides.now.low in
    let high = c.args.sides.now.high in
    rw (c.in-Three.is, c.with-in-Three-2.ensures.calm, c.with-in-Three.ensures.calm, c.seen_on-first.ensures.calm, c.seen_on-second.ensures.calm, c.seen_on-third.ensures.calm) (all_of_six (test (side_on low 0)) (test (side_on high 0)) (test (side_on low 1)) (test (side_on high 1)) (test (side_on low 2)) (test (side_on high 2)))
