-- The children of a cell by number.
use Rattle.std.specs.Prelude.{ℕ, ◌+◌, ◌*◌, ◌/◌, ◌%◌, List}
use Rattle.peano_keys.specs.declared.dim.Dim.{Dim}
use Rattle.peano_keys.specs.declared.dim.Dim.TheVariants.{Two, Three}
use Rattle.peano_keys.specs.declared.cell.CellKey.{CellKey}
use Rattle.peano_keys.specs.Cell.{triple, at}

-- the digits of child number `n`, axis 0 slowest
abbrev pub digits_at : Dim → ℕ → List ℕ
digits_at Two n = triple (n / 3) (n % 3) 0
digits_at Three n = triple (n / 9) (n / 3 % 3) (n % 3)

-- the number of a cell among the children of its parent
abbrev pub number_in : Dim → CellKey → ℕ
number_in Two c = 3 * (at c 0 % 3) + at c 1 % 3
number_in Three c = 9 * (at c 0 % 3) + 3 * (at c 1 % 3) + at c 2 % 3
