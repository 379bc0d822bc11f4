-- Sums over the children of a cell and over the leaves below it, and the mean of a cell.
use Rattle.std.specs.Prelude.{ℕ, zero, suc, ◌-◌, ◌^◌, ℤ, pos, ◌+ℤ◌, ◌*ℤ◌, List, if◌then◌else◌}
use Rattle.std.specs.Int.{int_div_euclid}
use Rattle.peano_keys.specs.declared.dim.Dim.{Dim}
use Rattle.peano_keys.specs.declared.dim.Dim.TheVariants.{Two, Three}
use Rattle.peano_keys.specs.declared.cell.CellKey.{CellKey}
use Rattle.peano_keys.specs.Dim.{children}
use Rattle.peano_keys.specs.Cell.{triple, child_of}
use Rattle.peano_keys.specs.Grid.{Spacetree, is_refined}

-- the sum over the three digits of an axis
unfoldable pub over_digits : (ℕ → ℤ) → ℤ
over_digits f = f 0 +ℤ (f 1 +ℤ f 2)

-- the sum over the digits of all children of a cell
unfoldable pub over_children : Dim → (List ℕ → ℤ) → ℤ
over_children Two f = over_digits (λ a. over_digits (λ b. f (triple a b 0)))
over_children Three f = over_digits (λ a. over_digits (λ b. over_digits (λ c. f (triple a b c))))

-- the sum over the first so many numbers
abbrev pub over_first : ℕ → (ℕ → ℤ) → ℤ
over_first zero f = pos 0
over_first (suc n) f = f n +ℤ over_first n f

-- the weight of a cell so many levels above the depth: how many cells of that depth fill it
abbrev pub weight : Dim → ℕ → ℕ
weight dim levels = children dim ^ levels

-- the weight of a cell in grids of a depth
abbrev pub cell_weight : ℕ → Dim → CellKey → ℕ
cell_weight depth dim c = weight dim (depth - c.level)

-- the sum of numbers times weight over the leaves below a cell so many levels above the depth
abbrev pub leaf_sum : Spacetree → (CellKey → ℤ) → ℕ → CellKey → ℤ
leaf_sum t x zero c = x c *ℤ pos (weight t.dim zero)
leaf_sum t x (suc levels) c =
    if is_refined t c then over_children t.dim (λ k. leaf_sum t x levels (child_of c k))
    else x c *ℤ pos (weight t.dim (suc levels))

-- a sum divided by a weight, rounded down
abbrev pub floor_of : ℤ → ℕ → ℤ
floor_of s w = int_div_euclid s (pos w)

-- the mean of a cell so many levels above the depth: its own number where it is a leaf
abbrev pub mean_of : Spacetree → (CellKey → ℤ) → ℕ → CellKey → ℤ
mean_of t x levels c =
    if is_refined t c then floor_of (leaf_sum t x levels c) (weight t.dim levels) else x c
