-- How many leaves the grid of a world has.
use Rattle.std.specs.Prelude.{◌≡◌, ℕ, length}
use Rattle.peano_keys.specs.Grid.{Spacetree}
use Rattle.peano_keys.specs.Field.{States}
use Rattle.spacetree.specs.Counts.{leaves_of}
use Rattle.spacetree.specs.Fields.{rows_of}
use Rattle.step_driver.specs.Worlds.{Seen, IsAt}

-- a number is that of the leaves of the grid that a world is at
abbrev pub IsLeafCount : {S : Type 0} → Seen S → ℕ → Type 0
IsLeafCount w n = (parts : ℕ) (g : Spacetree) (f : States) (step : ℕ) → IsAt parts w g f step
    → n ≡ leaves_of g

-- and that of the rows of the field that it is at
abbrev pub IsRowCount : {S : Type 0} → Seen S → ℕ → Type 0
IsRowCount w n = (parts : ℕ) (g : Spacetree) (f : States) (step : ℕ) → IsAt parts w g f step
    → n ≡ length (rows_of f)
