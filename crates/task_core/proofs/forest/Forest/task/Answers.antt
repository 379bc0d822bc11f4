use Rattle.std.proofs.Common.{◌≡◌, List, length, refl, subst, Some, IfSome}
use Rattle.std.proofs.lemmas.Option.{slice_get_read}
use Rattle.std.specs.Prelude.{slice_get}
use Rattle.task_core.specs.Core.{Tree}
use Rattle.task_core.specs.Work.{Trees, IsServedTask}
use Rattle.task_core.proofs.Trees.{task_served}
use Rattle.task_core.proofs.forest.Forest.task.Goals as goal

pub returns-clause-served : goal.returns-clause-served
returns-clause-served c =
    let t : Tree = c.in_ok-work.work.now in
    let ts : List Tree = c.deref.result.now in
    let lookup = c.in_ok-work.ensures.lookup in
    let at : slice_get ts c.args.tree ≡ Some t = slice_get_read ts (length ts) c.args.tree t refl lookup.3.0 lookup.1 in
    subst (λ (v : Trees). IfSome c.task.result (IsServedTask v.parts)) c.self.view_is (task_served c.self.inside.parts c.self.inside.trees.items c.args.tree c.args.task t c.task.result c.self.invariant (subst (λ (q : List Tree). slice_get q c.args.tree ≡ Some t) c.deref.ensures.value at) c.task.ensures)
