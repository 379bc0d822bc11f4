-- Bounds on sums, by which no sum overflows.
use Rattle.std.specs.Prelude.{ℕ, ◌<◌, ◌≤◌, ◌*◌, ◌^◌, List, All}
use Rattle.std.specs.Int.RustNames.{unsigned_abs}
use Rattle.peano_records.specs.declared.partials.Partial.{Partial}
use Rattle.shared_sums.specs.Totals.{sum_at}

-- the greatest sum of a partial: 2^63 times the weight of the root of space in grids of depth 12
abbrev pub most_of_one : ℕ
most_of_one = 2 ^ 63 * 150094635296999121

-- no sum of a partial is greater
abbrev pub HasSmallSums : Partial → Type 0
HasSmallSums p = (i : ℕ) → i < 4 → unsigned_abs (sum_at i p) ≤ most_of_one

-- nor one of all trees
abbrev pub HaveSmallSums : List (List Partial) → Type 0
HaveSmallSums all = All (All HasSmallSums) all
