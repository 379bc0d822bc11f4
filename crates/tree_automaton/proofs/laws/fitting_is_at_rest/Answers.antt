use Rattle.tree_automaton.proofs.Rests.{fitting_is_at_rest}
use Rattle.tree_automaton.proofs.laws.fitting_is_at_rest.Goals as goal

pub returns : goal.returns
returns c = fitting_is_at_rest
