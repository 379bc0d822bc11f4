use Rattle.std.proofs.Common.{sym}
use Rattle.tree_automaton.proofs.Handed.{whole_owned}
use Rattle.tree_automaton.proofs.decide.is_owned.Goals as goal

pub returns-then-round : goal.returns-then-round
returns-then-round c = λ p d. sym (whole_owned p c.args.course.now c.args.cell c.args.round.now d.is c.requires.cell c.requires.round c.if-round.true)
