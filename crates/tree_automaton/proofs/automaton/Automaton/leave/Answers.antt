use Rattle.std.proofs.Common.{subst}
use Rattle.std.specs.Option.{option_map}
use Rattle.tree_automaton.specs.Handed.{IsRound}
use Rattle.tree_automaton.proofs.Gives.{leaves}
use Rattle.tree_automaton.proofs.automaton.Automaton.leave.Goals as goal

pub around-round-requires-clause-asks : goal.around-round-requires-clause-asks
around-round-requires-clause-asks c = let r = c.requires.asks in (r.0.sweep, leaves r.0 r.1 r.2 (option_map (λ v. v.now) c.args.parent) c.args.view.key c.args.view c.args.kind c.args.store.now c.course.result c.course.ensures r.3)

pub leave_from-requires-clause-round : goal.leave_from-requires-clause-round
leave_from-requires-clause-round c = subst (λ x. IsRound x c.args.view.key c.around-round.result) c.course.ensures c.around-round.ensures
