use Rattle.std.proofs.Common.{rules}
use Rattle.std.proofs.lemmas.List.Sorted.{answers_always}
use Rattle.step_driver.proofs.InOrder.{key_of_row, sorted_rows}
use Rattle.step_driver.proofs.showing.put_in_order.Goals as goal

pub returns-clause-sorted : goal.returns-clause-sorted
returns-clause-sorted c = λ f are. sorted_rows f c.args.rows.now c.sort_unstable_by_key.new.self are c.sort_unstable_by_key.ensures.permutation (c.sort_unstable_by_key.ensures.sorted key_of_row (answers_always _ _ _ (λ a r q k. search rules)))
