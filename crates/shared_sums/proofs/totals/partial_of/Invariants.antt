use Rattle.std.proofs.Common.{◌≡◌, drop}
use Rattle.shared_sums.specs.Totals.{partial_of}
use Rattle.shared_sums.proofs.totals.partial_of.Given as goal

abbrev pub invariant-loop-partial : goal.invariant-loop-partial
invariant-loop-partial l = partial_of l.key l.partials ≡ partial_of l.key (drop l.partial-index l.partials)
