use Rattle.std.proofs.Common.{◌≡◌, sym, ap, ◌∙◌, subst, arith, get_or, length, vec_len}
use Rattle.std.specs.Option.{option_to_list}
use Rattle.task_pool.specs.Seen.{IsHandOf, IsHelperOf, tree_of, spawned_of, hand_view}
use Rattle.task_pool.proofs.Built.{popped_last, less_last}
use Rattle.task_pool.proofs.thread_tests.pool_of_a_thousand.Goals as goal

pub returns-clause-hand : goal.returns-clause-hand
returns-clause-hand c =
    let hand = c.unwrap-hand.result in
    let told = c.in_ok-pool.ensures in
    let at : hand ≡ get_or c.in_ok-pool.hands.items 0 hand = popped_last hand hand c.pop.result c.in_ok-pool.hands.items c.in_ok-pool.hands.len 0 c.unwrap-hand.ensures told.hand_count (c.pop.ensures.value hand (let one = told.hand_count in omega (arith, one))) in
    let first = told.hands 0 hand (omega arith) in (
      subst (IsHandOf c.in_ok-pool.pool) (sym at) first.0,
      ap tree_of at ∙ first.1,
      ap spawned_of at ∙ first.2,
      ap hand_view at ∙ first.3,
    )

pub returns-clause-helpers : goal.returns-clause-helpers
returns-clause-helpers c =
    let first = c.unwrap-first.result in
    let second = c.unwrap-second.result in
    let told = c.in_ok-pool.ensures in
    let pool = c.in_ok-pool.pool in
    let all = c.in_ok-pool.helpers in
    let short = c.pop-2.new.self in
    let two = told.helper_count in
    let one : vec_len short ≡ 1 = let gone : length (option_to_list c.pop-2.result) ≡ 1 = ap (λ o. length (option_to_list o)) c.unwrap-second.ensures in omega (arith, c.pop-2.ensures.len, gone, two) in
    let at_one : second ≡ get_or all.items 1 second = popped_last second second c.pop-2.result all.items all.len 1 c.unwrap-second.ensures two (c.pop-2.ensures.value second (omega (arith, two))) in
    let at_zero : first ≡ get_or short.items 0 first = popped_last first first c.pop-3.result short.items short.len 0 c.unwrap-first.ensures one (c.pop-3.ensures.value first (omega (arith, one))) in (
      subst (IsHelperOf pool) (sym at_zero) (less_last (IsHelperOf pool) all.items short.items (option_to_list c.pop-2.result) short.len c.pop-2.ensures.items short.ok.0 0 first (omega (arith, one)) (told.helpers 0 first (omega arith))),
      subst (IsHelperOf pool) (sym at_one) (told.helpers 1 second (omega arith)),
    )
