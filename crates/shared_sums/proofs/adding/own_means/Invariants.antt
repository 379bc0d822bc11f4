use Rattle.std.proofs.Common.{ℕ, ◌<◌, get_or}
use Rattle.std.specs.Prelude.{All, IsSome}
use Rattle.curve_cuts.specs.Cuts.{Owns}
use Rattle.curve_cuts.specs.Keys.{cuts_of}
use Rattle.peano_records.specs.declared.partials.Partial.{Partial}
use Rattle.shared_sums.specs.Records.{IsOwnMeans, means_of}
use Rattle.shared_sums.proofs.adding.own_means.Given as goal

abbrev pub invariant-loop-partial : goal.invariant-loop-partial
invariant-loop-partial l = record {
  sound : All (IsOwnMeans (cuts_of l.keys) l.all l.tree) l.list.items;
  complete : (j : ℕ) (d : Partial) → j < l.partial-index → Owns (cuts_of l.keys) l.tree (get_or l.own j d).key → IsSome (means_of (get_or l.own j d).key l.list.items);
}
