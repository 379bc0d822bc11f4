use Rattle.std.proofs.Common.{◌≡◌, ◌++◌, map}
use Rattle.step_driver.proofs.beside.parted.Given as goal

abbrev pub invariant-loop-first : goal.invariant-loop-first
invariant-loop-first g l = (l.firsts.items ++ map (λ x. x.0) l.first-iterator.rest.items ≡ map (λ x. x.0) l.fn.pairs.items) × (l.seconds.items ++ map (λ x. x.1) l.first-iterator.rest.items ≡ map (λ x. x.1) l.fn.pairs.items)
