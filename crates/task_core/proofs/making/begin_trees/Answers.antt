use Rattle.std.proofs.Common.{◌+◌, List, length, sym, ap, subst, ◌∙◌}
use Rattle.std.proofs.lemmas.List.{length_push}
use Rattle.curve_cuts.specs.Keys.{cuts_of}
use Rattle.task_core.specs.Core.{Tree}
use Rattle.task_core.specs.Work.{IsServedTree, AreServed}
use Rattle.task_core.specs.Visits.{BeginsTree, BeginTrees}
use Rattle.task_core.proofs.Lists.{each_append}
use Rattle.task_core.proofs.Toured.{placed_more}
use Rattle.task_core.proofs.making.begin_trees.Goals as goal

pub loop-tree-preserved : goal.loop-tree-preserved
loop-tree-preserved c =
    let k = cuts_of c.args.keys.now in
    let t = c.args.grid.now in
    let f = c.args.field.now in
    let ws : List Tree = c.loop-tree.trees.items in
    let w : Tree = c.in_ok-work.work in
    let all = c.loop-tree.invariant in
    let now = c.in_ok-push.ensures.items in (
      ap length now ∙ length_push ws w ∙ ap (λ n. n + 1) all.0,
      subst (BeginTrees k t f c.args.dir) (sym now) (placed_more (λ i v. BeginsTree k t f i c.args.dir v) ws w all.1 (subst (λ i. BeginsTree k t f i c.args.dir w) (sym all.0) c.in_ok-work.ensures.begins)),
      λ n field. subst (AreServed n) (sym now) (each_append (IsServedTree n) ws w (all.2 n field) (c.in_ok-work.ensures.served n field)),
    )
