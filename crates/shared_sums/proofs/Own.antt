-- The list of the means of a tree's own shared cells, as it grows.
use Rattle.std.proofs.Common.{◌≡◌, ℕ, ◌<◌, List, length, get_or, sym, subst}
use Rattle.std.specs.Prelude.{All, IsSome}
use Rattle.curve_cuts.specs.Cuts.{Cuts, Owns}
use Rattle.sweep_visits.specs.Moves.{same_cell}
use Rattle.sweep_visits.proofs.Same.{cells_decided}
use Rattle.peano_records.specs.declared.partials.Partial.{Partial}
use Rattle.shared_sums.specs.declared.adding.Means.{Means}
use Rattle.shared_sums.specs.Totals.{partial_of}
use Rattle.shared_sums.specs.Adding.{partials_in}
use Rattle.shared_sums.specs.Records.{IsOwnMeans, means_of, AreOwnMeans}
use Rattle.shared_sums.proofs.Sums.{found}
use Rattle.shared_sums.proofs.Found.{some_of, found_passes, finds}

-- a partial of a list is the one of its cell, or one before it is
pub has_partial : (own mine : List Partial) (i : ℕ) (d : Partial) → own ≡ mine → i < length own → IsSome (partial_of (get_or own i d).key mine)
has_partial own mine i d e below = subst (λ ps. IsSome (partial_of (get_or own i d).key ps)) e (finds (λ (p : Partial). same_cell p.key (get_or own i d).key) own i d below (cells_decided.reflexive (get_or own i d).key))

-- where all partials have been gone through, all cells are there
pub all_noted : (k : Cuts) (all : List (List Partial)) (t : ℕ) (own : List Partial) (ms : List Means) → own ≡ partials_in all t → All (IsOwnMeans k all t) ms → ((j : ℕ) (d : Partial) → j < length own → Owns k t (get_or own j d).key → IsSome (means_of (get_or own j d).key ms)) → AreOwnMeans k all t ms
all_noted k all t own ms e sound complete = record {
  sound = sound;
  complete = λ q h.
      let some = some_of (partial_of q own) (subst (λ ps. IsSome (partial_of q ps)) (sym e) h.partial) in
      let p : Partial = some.0 in
      let same : p.key ≡ q = cells_decided.exact p.key q (found_passes (λ (x : Partial). same_cell x.key q) own p some.1) in
      let has = found (λ (x : Partial). Owns k t x.key → IsSome (means_of x.key ms)) (λ (x : Partial). same_cell x.key q) own p some.1 (λ j d below. complete j d below) in
      subst (λ c. IsSome (means_of c ms)) same (has (subst (Owns k t) (sym same) h.owns));
}
