use Rattle.std.proofs.Common.{subst}
use Rattle.std.specs.Option.{option_map}
use Rattle.tree_automaton.specs.Decisions.{Decides}
use Rattle.tree_automaton.proofs.Entered.{knows}
use Rattle.tree_automaton.proofs.entering.sides_here.Goals as goal

pub returns-in-Some : goal.returns-in-Some
returns-in-Some c = λ m decides plain taken.
    let d = subst (λ o. Decides m.sweep c.args.course.now (option_map (λ v. v.now) o) c.args.cell) c.in-Some.is decides in
    c.sides_into.ensures m.sweep.plan.new m.sweep.field d.is.dim (knows m c.args.course.now c.args.cell c.in-Some.view.now d plain c.args.taken.now c.requires.cell taken)
