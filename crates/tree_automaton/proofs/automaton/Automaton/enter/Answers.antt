use Rattle.std.proofs.Common.{subst}
use Rattle.std.specs.Option.{option_map}
use Rattle.tree_automaton.specs.Handed.{IsRound}
use Rattle.tree_automaton.proofs.Entered.{decides}
use Rattle.tree_automaton.proofs.automaton.Automaton.enter.Goals as goal

pub around-round-requires-clause-asks : goal.around-round-requires-clause-asks
around-round-requires-clause-asks c = let r = c.requires.asks in (r.0.sweep, decides r.0 r.1 r.2 (option_map (λ v. v.now) c.args.parent) c.args.cell c.args.kind c.args.store.now c.course.result c.course.ensures r.3)

pub enter_into-requires-clause-round : goal.enter_into-requires-clause-round
enter_into-requires-clause-round c = subst (λ x. IsRound x c.args.cell c.around-round.result) c.course.ensures c.around-round.ensures

pub enter_into-requires-clause-place : goal.enter_into-requires-clause-place
enter_into-requires-clause-place c = c.blank_view-view.ensures c.args.store.now.lanes.dim
