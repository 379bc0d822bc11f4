-- The whole domain, in two and in three dimensions.
use Rattle.std.specs.Prelude.{ℕ, ◌-◌, ◌%◌, ◌==◌, Bool, if◌then◌else◌}
use Rattle.stack_law.specs.Boxes.{Axis, Box, first, second, third}

-- the whole domain as a box
abbrev pub root : Box
root = record { x0 = 0; x1 = 0; x2 = 0 }

-- in d dimensions a box with m splits left is a cell where d divides m
abbrev pub cell_in : ℕ → ℕ → Bool
cell_in d m = m % d == 0

-- and the axes are split in turn, from the first
abbrev pub axis_in : ℕ → ℕ → Axis
axis_in d m = if m % d == 0 then first else (if m % d == d - 1 then second else third)
