use Rattle.std.proofs.Common.{◌≡◌, drop}
use Rattle.shared_sums.specs.Records.{means_of}
use Rattle.shared_sums.proofs.adding.means_of.Given as goal

abbrev pub invariant-loop-means : goal.invariant-loop-means
invariant-loop-means l = means_of l.key l.list ≡ means_of l.key (drop l.means-index l.list)
