use Rattle.std.proofs.Common.{◌≢◌, ℕ, ◌<◌, get_or}
use Rattle.shared_sums.specs.declared.adding.Means.{Means}
use Rattle.shared_sums.proofs.adding.lacks_level.Given as goal

abbrev pub invariant-loop-means : goal.invariant-loop-means
invariant-loop-means l = (j : ℕ) (d : Means) → j < l.means-index → (get_or l.list j d).key.level ≢ l.level
