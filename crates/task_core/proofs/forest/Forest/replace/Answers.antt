use Rattle.std.proofs.Common.{◌≡◌, List, set, get_or, refl, sym, ap, subst, ◌∙◌, Some, IsSome}
use Rattle.std.specs.Prelude.{slice_get}
use Rattle.task_core.specs.Core.{Tree}
use Rattle.task_core.specs.Work.{Trees, AreServed, IsServed, IsServedTask, next_in, passed, offering, with_task, changed}
use Rattle.task_core.proofs.Trees.{task_there, read_at, changed_there, replace_served}
use Rattle.task_core.proofs.forest.Forest.replace.Goals as goal

pub invariant_of-self : goal.invariant_of-self
invariant_of-self c =
    let ts : List Tree = c.self.inside.trees.items in
    let t : Tree = c.index_mut-work.result.now in
    let there = task_there (slice_get c.args.self.now.trees c.args.tree) c.args.task c.requires.task in
    let at = read_at ts c.args.self.now.trees c.args.tree t there.0 (ap (λ (v : Trees). v.trees) c.self.view_is) there.1 c.index_mut-work.ensures.value in
    let served : IsServedTask c.self.inside.parts c.args.offered = subst (λ (v : Trees). IsServedTask v.parts c.args.offered) (sym c.self.view_is) c.requires.served in
    subst (λ u. AreServed c.self.inside.parts (set ts c.args.tree u)) (sym c.replace.ensures) (replace_served c.self.inside.parts ts c.args.tree c.args.task t c.args.offered c.self.invariant served at)

pub returns : goal.returns
returns c =
    let ts : List Tree = c.self.inside.trees.items in
    let t : Tree = c.index_mut-work.result.now in
    let there = task_there (slice_get c.args.self.now.trees c.args.tree) c.args.task c.requires.task in
    let at = read_at ts c.args.self.now.trees c.args.tree t there.0 (ap (λ (v : Trees). v.trees) c.self.view_is) there.1 c.index_mut-work.ensures.value in
    ap (λ us. record { parts = c.self.inside.parts; trees = us }) (changed_there (with_task c.args.task c.args.offered) ts c.args.tree t c.replace.new.self at c.replace.ensures) ∙ ap (λ (v : Trees). changed (with_task c.args.task c.args.offered) v c.args.tree) c.self.view_is
