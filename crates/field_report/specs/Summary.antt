-- The summary of a demonstration.
use Rattle.std.specs.Prelude.{◌≡◌, ℕ, ℤ, ◌≤ℤ◌, ◌==◌, List, [], ◌∷◌, ◌++◌, length, map, codes, count_by, All, Contains}
use Rattle.std.specs.List.{flat_map}
use Rattle.std.specs.Fmt.{decimal, signed_decimal}
use Rattle.peano_keys.specs.State.{value_at}
use Rattle.spacetree.specs.declared.row.Row.{Row}

-- the first value of each row
abbrev pub first_values : List Row → List ℤ
first_values rows = map (λ (row : Row). value_at row.value 0) rows

-- a value of some row, to which no row's is below
pub record IsLow (rows : List Row) (v : ℤ) : Type 0 where
  pub among : Contains (first_values rows) v
  pub least : All (λ u. v ≤ℤ u) (first_values rows)

-- a value of some row, to which no row's is above
pub record IsHigh (rows : List Row) (v : ℤ) : Type 0 where
  pub among : Contains (first_values rows) v
  pub greatest : All (λ u. u ≤ℤ v) (first_values rows)

-- how many rows are of a level
abbrev pub count_level : List Row → ℕ → ℕ
count_level rows level = count_by (λ (row : Row). row.key.level == level) rows

-- the line of a level
abbrev pub level_line : List Row → ℕ → List ℕ
level_line rows level = codes "level " ++ decimal level ++ codes " leaves "
    ++ decimal (count_level rows level) ++ 10 ∷ []

-- the lines before those of levels: the number of the demonstration and its 20 steps
abbrev pub demo_lines : ℕ → List ℕ
demo_lines n = codes "demo " ++ decimal n ++ codes "\nsteps 20\n"

-- then the cells and the leaves
abbrev pub count_lines : ℕ → ℕ → List ℕ
count_lines cells leaves = codes "cells " ++ decimal cells ++ codes "\nleaves " ++ decimal leaves
    ++ codes "\n"

-- then the least and the greatest value of a leaf
abbrev pub range_lines : ℤ → ℤ → List ℕ
range_lines low high = codes "low " ++ signed_decimal low ++ codes "\nhigh " ++ signed_decimal high
    ++ codes "\n"

-- the summary: these, and a line for each level down to the fifth
pub record IsSummary (n cells : ℕ) (rows : List Row) (text : List ℕ) : Type 0 where
  pub low : ℤ
  pub high : ℤ
  pub is_low : IsLow rows low
  pub is_high : IsHigh rows high
  pub lines : text
      ≡ demo_lines n ++ count_lines cells (length rows) ++ range_lines low high
      ++ flat_map (level_line rows) (0 ∷ 1 ∷ 2 ∷ 3 ∷ 4 ∷ 5 ∷ [])
