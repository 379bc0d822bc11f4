use Rattle.tree_automaton.proofs.Collects.{calls_collect}
use Rattle.tree_automaton.proofs.laws.calls_collect.Goals as goal

pub returns : goal.returns
returns g c = λ kept list adds. calls_collect g.V.Visitor.entered g.V.Visitor.left kept list adds
