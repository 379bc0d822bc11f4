use Rattle.std.proofs.Common.{◌≡◌, ℕ, ◌<◌, ap, sym, subst}
use Rattle.curve_cuts.specs.Keys.{cuts_of}
use Rattle.tree_automaton.specs.TreeLists.{TreeLists}
use Rattle.worked_sweeps.proofs.Over.{raised_over}
use Rattle.worked_sweeps.proofs.Raised.{raised_stands}
use Rattle.worked_sweeps.proofs.trees.raise.Goals as goal

pub returns-in-Ok-clause-over : goal.returns-in-Ok-clause-over
returns-in-Ok-clause-over g c =
    let number : c.new-store.result.tree ≡ c.args.tree = ap (λ (s : TreeLists). s.tree) c.new-store.ensures in
    raised_over (cuts_of c.args.keys.now) c.args.grid.now c.args.field.now 0 c.new-store.result c.raise_tree.new.store c.in-Ok.note c.expect_cut.ensures.cut
    (subst (λ (n : ℕ). n < (cuts_of c.args.keys.now).trees) (sym number) c.expect_tree.ensures)
    c.in-Ok.ensures.raised

pub returns-in-Ok-clause-alone : goal.returns-in-Ok-clause-alone
returns-in-Ok-clause-alone g c = λ one.
    let number : c.new-store.result.tree ≡ c.args.tree = ap (λ (s : TreeLists). s.tree) c.new-store.ensures in
    raised_stands (cuts_of c.args.keys.now) c.args.grid.now c.args.field.now 2 c.args.tree c.new-store.result c.raise_tree.new.store c.expect_cut.ensures.depth number (c.in-Ok.ensures.alone one)
