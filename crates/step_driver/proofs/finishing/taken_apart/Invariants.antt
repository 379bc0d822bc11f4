use Rattle.std.proofs.Common.{◌≡◌, ◌++◌, map}
use Rattle.step_driver.proofs.finishing.taken_apart.Given as goal

abbrev pub invariant-loop-tree : goal.invariant-loop-tree
invariant-loop-tree l = (l.stores.items ++ map (λ x. x.store) l.tree-iterator.rest.items ≡ map (λ x. x.store) l.fn.swept.items) × (l.partials.items ++ map (λ x. x.found.partials) l.tree-iterator.rest.items ≡ map (λ x. x.found.partials) l.fn.swept.items)
