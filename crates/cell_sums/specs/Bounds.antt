-- Bounds on sums and means.
use Rattle.std.specs.Prelude.{ℕ, ◌^◌, ◌<◌, ◌≤◌, ℤ, pos, negsuc, ◌*ℤ◌, ◌≤ℤ◌, unsigned_abs}
use Rattle.std.specs.Int.{w64}
use Rattle.std.specs.Int.RustNames.{FitsSigned}
use Rattle.peano_keys.specs.declared.dim.Dim.{Dim}
use Rattle.peano_keys.specs.declared.cell.CellKey.{CellKey}
use Rattle.peano_keys.specs.State.{value_at}
use Rattle.peano_keys.specs.Grid.{Spacetree}
use Rattle.peano_keys.specs.Sums.{weight, floor_of, leaf_sum, mean_of}
use Rattle.peano_keys.specs.Field.{States, component_of, value_of}

-- a number lies between two others
pub record LiesBetween (lo hi z : ℤ) : Type 0 where
  pub low : lo ≤ℤ z
  pub high : z ≤ℤ hi

-- a sum lies between two numbers times a weight
abbrev pub WeighsBetween : ℤ → ℤ → ℕ → ℤ → Type 0
WeighsBetween lo hi w s = LiesBetween (lo *ℤ pos w) (hi *ℤ pos w) s

-- numbers of cells all lie between two others
abbrev pub AllBetween : ℤ → ℤ → (CellKey → ℤ) → Type 0
AllBetween lo hi x = (c : CellKey) → LiesBetween lo hi (x c)

-- the floor of a sum that lies between two numbers times a weight lies between these numbers
abbrev pub FloorIsBetween : Type 0
FloorIsBetween = (lo hi s : ℤ) (w : ℕ) → 0 < w → WeighsBetween lo hi w s
    → LiesBetween lo hi (floor_of s w)

-- so do means, and sums over leaves lie between the bounds of the numbers times the weight of the cell
abbrev pub MeansAreBetween : Type 0
MeansAreBetween = (t : Spacetree) (x : CellKey → ℤ) (lo hi : ℤ) → AllBetween lo hi x
    → (levels : ℕ) (c : CellKey)
    → WeighsBetween lo hi (weight t.dim levels) (leaf_sum t x levels c)
    × LiesBetween lo hi (mean_of t x levels c)

-- the least and the greatest number of 64 bits
abbrev pub least_word : ℤ
least_word = negsuc 9223372036854775807

abbrev pub greatest_word : ℤ
greatest_word = pos 9223372036854775807

-- sums of such numbers down to 12 levels stay below 2^121
abbrev pub SumsStayBelow : Type 0
SumsStayBelow = (dim : Dim) (levels : ℕ) (s : ℤ) → levels ≤ 12
    → WeighsBetween least_word greatest_word (weight dim levels) s → unsigned_abs s < 2 ^ 121

-- where all components of a field are such numbers, the values of its cells have such numbers alone
abbrev pub MeansFit : Type 0
MeansFit = (t : Spacetree) (f : States)
    → ((q : CellKey) (i : ℕ) → FitsSigned w64 (component_of f i q))
    → (c : CellKey) (i : ℕ) → FitsSigned w64 (value_at (value_of t f c) i)
