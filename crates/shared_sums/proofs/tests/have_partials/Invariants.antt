use Rattle.std.proofs.Common.{ℕ, ◌<◌, get_or}
use Rattle.peano_records.specs.declared.partials.Partial.{Partial}
use Rattle.shared_sums.specs.Totals.{IsPartial}
use Rattle.shared_sums.proofs.tests.have_partials.Given as goal

abbrev pub invariant-loop-partial : goal.invariant-loop-partial
invariant-loop-partial l = (j : ℕ) (d : Partial) → j < l.partial-index → IsPartial l.depth l.dim (get_or l.partials j d)
