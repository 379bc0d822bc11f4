use Rattle.std.proofs.Common.{◌≤◌, subst}
use Rattle.tree_automaton.proofs.Decided.{level_within}
use Rattle.tree_automaton.proofs.decide.around.Goals as goal

pub of_cell-requires-clause-above : goal.of_cell-requires-clause-above
of_cell-requires-clause-above c = let p = c.requires.asks.0 in let d = c.requires.asks.1 in subst (λ x. c.args.cell.level ≤ x) d.is.depth (level_within p c.args.cell d.sweep d.there)
