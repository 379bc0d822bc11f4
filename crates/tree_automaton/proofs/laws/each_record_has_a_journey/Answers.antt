use Rattle.tree_automaton.proofs.Journeys.{each_record_has_a_journey}
use Rattle.tree_automaton.proofs.laws.each_record_has_a_journey.Goals as goal

pub returns : goal.returns
returns c = each_record_has_a_journey
