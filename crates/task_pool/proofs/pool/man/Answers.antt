use Rattle.std.proofs.Common.{◌≡◌, ◌<◌, ◌+◌, ℕ, sym, ap, ◌∙◌, subst, arith, length, get_or, vec_len}
use Rattle.std.specs.Option.{option_to_list}
use Rattle.std.proofs.lemmas.List.{get_or_default}
use Rattle.task_pool.specs.Built.{IsFreshSeat, IsPlaced}
use Rattle.task_pool.proofs.Built.{placed_more, placed_at, placed_after, less_last}
use Rattle.task_pool.proofs.pool.man.Goals as goal

pub loop-at-preserved : goal.loop-at-preserved
loop-at-preserved g c =
    let kept = c.loop-at.invariant in
    let at : ℕ = c.loop-at.at in
    let tree : ℕ = c.args.tree in
    let helpers = c.loop-at.helpers in
    let seats = c.loop-at.seats in
    let fewer = c.pop.new.self in
    let trees = c.args.trees.now in
    let below : at < helpers.len = let test = c.loop-at-test.true in let is = c.len.ensures in omega (arith, test, is) in
    let within : at < length helpers.items = subst (λ m. at < m) helpers.ok.0 below in
    let some : 0 < seats.len = omega (arith, kept.left, kept.len, below) in
    let shorter : vec_len fewer + 1 ≡ seats.len = let one : length (option_to_list c.pop.result) ≡ 1 = ap (λ o. length (option_to_list o)) c.unwrap-seat.ensures in omega (arith, c.pop.ensures.len, one) in
    let joined = c.in_ok-join.ensures in
    let old = kept.others at c.index_mut.result.now (omega arith) below in
    let before : IsPlaced trees tree c.index_mut.result.now = subst (IsPlaced trees tree) (sym c.index_mut.ensures.value) old in
    record {
      within = omega (arith, below);
      len = kept.len;
      left = omega (arith, kept.left, shorter);
      first = λ d. less_last (λ s. s ≡ get_or c.args.seats.now.items 0 d) seats.items fewer.items (option_to_list c.pop.result) fewer.len c.pop.ensures.items fewer.ok.0 0 d (omega (arith, shorter, kept.left, kept.len, below)) (kept.first d);
      seats = λ i x d small. less_last (IsFreshSeat (get_or trees tree x)) seats.items fewer.items (option_to_list c.pop.result) fewer.len c.pop.ensures.items fewer.ok.0 i d small (kept.seats i x d (omega (arith, small, shorter)));
      placed = placed_at trees tree at helpers.len helpers.items c.join.new.self within helpers.ok.0
          (placed_more trees tree c.index-trees-tree.result c.index_mut.result.now c.join.new.self joined.0 before (λ x. get_or_default trees tree x c.index-trees-tree.result c.requires.tree ∙ sym c.index-trees-tree.is) joined.1 (joined.2 tree))
          kept.placed;
      others = placed_after trees tree at helpers.items c.join.new.self helpers.len kept.others;
    }
