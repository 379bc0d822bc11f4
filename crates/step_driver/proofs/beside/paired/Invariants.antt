use Rattle.std.proofs.Common.{◌≡◌, ◌++◌, length, map}
use Rattle.step_driver.proofs.beside.paired.Given as goal

abbrev pub invariant-loop-first : goal.invariant-loop-first
invariant-loop-first g l = (map (λ x. x.0) l.pairs.items ++ l.first-iterator.rest.items ≡ l.fn.firsts.items) × (map (λ x. x.1) l.pairs.items ++ l.left.rest.items ≡ l.fn.seconds.items) × (length l.first-iterator.rest.items ≡ length l.left.rest.items)
