-- What passes for a vertex from cell to cell.
use Rattle.std.specs.Prelude.{ℕ, ◌==◌, ◌&&◌, Bool}
use Rattle.stack_law.specs.Boxes.{Box}
use Rattle.stack_law.specs.Moments.{same_box}

-- what passes for a vertex to a cell; both belong to the level that has `splits` splits left
pub record BoxPassing : Type 0 where
  pub splits : ℕ
  pub vertex : Box
  pub cell : Box

-- a passing by its parts
abbrev pub box_passing : ℕ → Box → Box → BoxPassing
box_passing m v q = record { splits = m; vertex = v; cell = q }

-- whether two passings are the same
abbrev pub same_box_passing : BoxPassing → BoxPassing → Bool
same_box_passing p q = (p.splits == q.splits)
    && (same_box p.vertex q.vertex && same_box p.cell q.cell)
