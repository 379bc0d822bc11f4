use Rattle.std.proofs.Common.{◌<◌, ◌∙◌, arith}
use Rattle.task_pool.proofs.Posts.{published_more, taken_more, helper_stays}
use Rattle.task_pool.proofs.parts.Helper.round.Goals as goal

pub loop-tree-preserved : goal.loop-tree-preserved
loop-tree-preserved g c =
    let kept = c.loop-tree.invariant in
    let work = c.work-work.ensures in
    let below : c.loop-tree.tree < c.args.pool.now.trees.len = let test = c.loop-tree-test.true in let is = c.len.ensures in omega (arith, test, is) in
    let most = kept.most in
    let few = kept.few in
    let one = work.few in
    record {
      helper = helper_stays c.args.pool.now c.loop-tree.self c.loop-tree.tree c.index.result.now c.work-work.new.self kept.helper below c.index.ensures work.post;
      within = omega (arith, below);
      few = omega (arith, few, one.0);
      most = omega (arith, most, one.1);
      published = published_more c.loop-tree.self c.loop-tree.tree c.work-work.result.published c.index_mut.result.now c.work-work.new.self (omega (arith, below, kept.helper.all)) c.index_mut.ensures.value work.published ∙ omega (arith, kept.published);
      taken = taken_more c.loop-tree.self c.loop-tree.tree c.work-work.result.taken c.index_mut.result.now c.work-work.new.self (omega (arith, below, kept.helper.all)) c.index_mut.ensures.value work.taken ∙ omega (arith, kept.taken);
    }
