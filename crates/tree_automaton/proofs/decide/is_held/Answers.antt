use Rattle.std.proofs.Common.{sym}
use Rattle.tree_automaton.proofs.Handed.{held_is, whole_held}
use Rattle.tree_automaton.proofs.decide.is_held.Goals as goal

pub returns-then-round : goal.returns-then-round
returns-then-round c = λ p is. sym (whole_held p c.args.course.now c.args.cell c.args.round.now is c.requires.cell c.requires.round c.if-round.true)

pub returns : goal.returns
returns c = λ p is. held_is p c.args.cell c.args.course.now c.interval.result c.meets.result is c.interval.ensures.value c.meets.ensures
