-- The field block of a report: a head line, then a line for each leaf.
use Rattle.std.specs.Prelude.{ℕ, ℤ, List, [], ◌∷◌, ◌++◌, length, codes}
use Rattle.std.specs.List.{flat_map}
use Rattle.std.specs.Fmt.{decimal, signed_decimal}
use Rattle.peano_keys.specs.declared.dim.Dim.{Dim}
use Rattle.peano_keys.specs.declared.dim.Dim.TheVariants.{Two, Three}
use Rattle.peano_keys.specs.declared.cell.CellKey.{CellKey}
use Rattle.peano_keys.specs.Cell.{at}
use Rattle.peano_keys.specs.State.{values_of}
use Rattle.spacetree.specs.declared.row.Row.{Row}

-- a number after a space
abbrev pub spaced : ℕ → List ℕ
spaced n = 32 ∷ decimal n

-- a value after a space, with its sign where it is negative
abbrev pub spaced_value : ℤ → List ℕ
spaced_value v = 32 ∷ signed_decimal v

-- a cell: its level, then a coordinate for each axis
abbrev pub key_text : Dim → CellKey → List ℕ
key_text Two c = decimal c.level ++ spaced (at c 0) ++ spaced (at c 1)
key_text Three c = decimal c.level ++ spaced (at c 0) ++ spaced (at c 1) ++ spaced (at c 2)

-- the line of a leaf: the cell, then its values
abbrev pub row_line : Dim → Row → List ℕ
row_line dim row = key_text dim row.key ++ flat_map spaced_value (values_of row.value) ++ 10 ∷ []

-- the head line: the step and the number of leaves
abbrev pub head_line : ℕ → ℕ → List ℕ
head_line step leaves = codes "step " ++ decimal step ++ codes " leaves " ++ decimal leaves ++ 10
    ∷ []

-- the field block of a step: the head line, and the line of each row, in order
abbrev pub field_block : Dim → ℕ → List Row → List ℕ
field_block dim step rows = head_line step (length rows) ++ flat_map (row_line dim) rows
