use Rattle.std.proofs.Common.{sym, ◌∙◌}
use Rattle.std.specs.Option.{option_map}
use Rattle.tree_automaton.proofs.Entered.{read_none, read_some}
use Rattle.tree_automaton.proofs.entering.read_cell.Goals as goal

pub returns-then-not-is_old-clause-read : goal.returns-then-not-is_old-clause-read
returns-then-not-is_old-clause-read c = λ m made more asks. read_none m made more c.args.course.now (option_map (λ v. v.now) c.args.parent) c.args.cell c.args.store.now asks c.stop.new.self (sym c.if-not-is_old.true ∙ c.is_old.ensures m.sweep c.args.cell asks.decides) c.stop.ensures

pub returns-clause-read : goal.returns-clause-read
returns-clause-read c = λ m made more asks. read_some m made more c.args.course.now (option_map (λ v. v.now) c.args.parent) c.args.cell c.args.store.now asks c.read.new.self c.in-Some.found (sym c.if-not-is_old.false ∙ c.is_old.ensures m.sweep c.args.cell asks.decides) c.in-Some.ensures.first c.in-Some.ensures.others
