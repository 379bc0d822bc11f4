use Rattle.std.proofs.Common.{ℕ, ◌<◌, get_or, List}
use Rattle.std.specs.Prelude.{All}
use Rattle.peano_records.specs.declared.partials.Partial.{Partial}
use Rattle.shared_sums.specs.Totals.{IsPartial}
use Rattle.shared_sums.proofs.tests.are_partials.Given as goal

abbrev pub invariant-loop-partials : goal.invariant-loop-partials
invariant-loop-partials l = (j : ℕ) (d : List Partial) → j < l.partials-index → All (IsPartial l.depth l.dim) (get_or l.all j d)
