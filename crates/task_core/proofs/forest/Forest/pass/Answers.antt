use Rattle.std.proofs.Common.{◌≡◌, List, set, get_or, refl, sym, ap, subst, ◌∙◌, Some, IsSome}
use Rattle.std.specs.Prelude.{slice_get}
use Rattle.task_core.specs.Core.{Tree}
use Rattle.task_core.specs.Work.{Trees, AreServed, IsServed, IsServedTask, next_in, passed, offering, with_task, changed}
use Rattle.task_core.proofs.Trees.{next_there, read_at, changed_there, pass_served}
use Rattle.task_core.proofs.forest.Forest.pass.Goals as goal

pub invariant_of-self : goal.invariant_of-self
invariant_of-self c =
    let ts : List Tree = c.self.inside.trees.items in
    let t : Tree = c.index_mut-work.result.now in
    let there = next_there c.args.sweep (slice_get c.args.self.now.trees c.args.tree) c.requires in
    let at = read_at ts c.args.self.now.trees c.args.tree t there.0 (ap (λ (v : Trees). v.trees) c.self.view_is) there.1 c.index_mut-work.ensures.value in
    subst (λ u. AreServed c.self.inside.parts (set ts c.args.tree u)) (sym c.pass.ensures) (pass_served c.self.inside.parts ts c.args.tree t c.self.invariant at)

pub returns : goal.returns
returns c =
    let ts : List Tree = c.self.inside.trees.items in
    let t : Tree = c.index_mut-work.result.now in
    let there = next_there c.args.sweep (slice_get c.args.self.now.trees c.args.tree) c.requires in
    let at = read_at ts c.args.self.now.trees c.args.tree t there.0 (ap (λ (v : Trees). v.trees) c.self.view_is) there.1 c.index_mut-work.ensures.value in
    ap (λ us. record { parts = c.self.inside.parts; trees = us }) (changed_there passed ts c.args.tree t c.pass.new.self at c.pass.ensures) ∙ ap (λ (v : Trees). changed passed v c.args.tree) c.self.view_is
