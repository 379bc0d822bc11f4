-- Fields over a grid, and their rows.
use Rattle.std.specs.Prelude.{◌≡◌, ◌↔◌, ℕ, List, map, IsSome, IfSome}
use Rattle.std.specs.FinMap as fin
use Rattle.peano_keys.specs.declared.cell.CellKey.{CellKey}
use Rattle.peano_keys.specs.declared.state.State.{State}
use Rattle.peano_keys.specs.State.{count_of}
use Rattle.peano_keys.specs.Grid.{Spacetree}
use Rattle.peano_keys.specs.Field.{States}
use Rattle.solver_api.specs.Step.{IsLeafOf}
use Rattle.spacetree.specs.declared.row.Row.{Row}

-- the row of an entry
abbrev pub row_of : CellKey × State → Row
row_of e = record { key = e.0; value = e.1 }

-- the rows of a field, in key order
abbrev pub rows_of : States → List Row
rows_of f = map row_of (fin.entries f)

-- a field is the one that has some keys and states, in this order
abbrev pub IsMadeAgain : List CellKey → List State → States → Type 0
IsMadeAgain keys states field = (f : States) → keys ≡ map (λ e. e.0) (fin.entries f)
    → states ≡ map (λ e. e.1) (fin.entries f) → field ≡ f

-- a cell is a key of a field exactly where it is a leaf of a grid
abbrev pub HasLeaf : Spacetree → States → CellKey → Type 0
HasLeaf t f c = IsSome (fin.get f c) ↔ IsLeafOf t c

-- the keys of a field are the leaves of a grid
abbrev pub HasLeaves : Spacetree → States → Type 0
HasLeaves t f = (c : CellKey) → HasLeaf t f c

-- a field on a grid: its keys are the leaves, and its states have so many values
pub record IsFieldOn (parts : ℕ) (t : Spacetree) (f : States) : Type 0 where
  pub leaves : (c : CellKey) → HasLeaf t f c
  pub counts : (c : CellKey) → IfSome (fin.get f c) (λ s. count_of s ≡ parts)
