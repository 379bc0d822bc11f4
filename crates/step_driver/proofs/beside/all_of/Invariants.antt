use Rattle.std.proofs.Common.{◌≡◌, ◌++◌, map}
use Rattle.std.specs.Prelude.{Ok}
use Rattle.step_driver.proofs.beside.all_of.Given as goal

abbrev pub invariant-loop-item : goal.invariant-loop-item
invariant-loop-item g l = map Ok l.all.items ++ l.item-iterator.rest.items ≡ l.fn.given.items
