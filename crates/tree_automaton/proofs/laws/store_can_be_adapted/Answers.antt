use Rattle.tree_automaton.proofs.Rests.{store_can_be_adapted}
use Rattle.tree_automaton.proofs.laws.store_can_be_adapted.Goals as goal

pub returns : goal.returns
returns c = store_can_be_adapted
