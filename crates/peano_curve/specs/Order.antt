-- The Peano curve: the order of children, the ranks of the cells of a level, intervals, centres and comparison.
use Rattle.std.specs.Prelude.{ℕ, zero, suc, ◌+◌, ◌-◌, ◌*◌, ◌/◌, ◌%◌, ◌^◌, ◌==◌, if◌then◌else◌, min}
use Rattle.std.specs.declared.cmp.Ordering.{Ordering}
use Rattle.std.specs.Ordering.{nat_cmp, ordering_then}
use Rattle.stack_law.specs.Digits.{turned}
use Rattle.peano_keys.specs.declared.cell.CellKey.{CellKey}
use Rattle.peano_keys.specs.declared.dim.Dim.{Dim}
use Rattle.peano_keys.specs.declared.dim.Dim.TheVariants.{Two, Three}
use Rattle.peano_keys.specs.Dim.{children}
use Rattle.peano_keys.specs.Cell.{at, child_of, triple}
use Rattle.peano_curve.specs.declared.order.Direction.{Direction}
use Rattle.peano_curve.specs.declared.order.Direction.TheVariants.{Forward, Backward}
use Rattle.peano_curve.specs.declared.range.Range.{Range}

-- the place among its siblings of the child at digits k of the cell at x: axis 0 is slowest, and each axis turns with the other coordinates of the parent and the digits before it
abbrev pub place_of : Dim → ℕ → ℕ → ℕ → ℕ → ℕ → ℕ → ℕ
place_of Two x0 x1 x2 k0 k1 k2 = 3 * turned x1 k0 + turned (x0 + k0) k1
place_of Three x0 x1 x2 k0 k1 k2 = 9 * turned (x1 + x2) k0 + 3 * turned (x0 + x2 + k0) k1
    + turned (x0 + x1 + k0 + k1) k2

-- the place of a cell among its siblings
abbrev pub sibling_place : Dim → CellKey → ℕ
sibling_place dim c =
    place_of dim (at c 0 / 3) (at c 1 / 3) (at c 2 / 3) (at c 0 % 3) (at c 1 % 3) (at c 2 % 3)

-- the rank of the cell at x among the cells of its level: the parent's rank first, then the place among siblings
abbrev pub rank_from : Dim → ℕ → ℕ → ℕ → ℕ → ℕ
rank_from dim zero x0 x1 x2 = 0
rank_from dim (suc l) x0 x1 x2 = children dim * rank_from dim l (x0 / 3) (x1 / 3) (x2 / 3)
    + place_of dim (x0 / 3) (x1 / 3) (x2 / 3) (x0 % 3) (x1 % 3) (x2 % 3)

-- the rank of a cell among the cells of its level
abbrev pub rank_of : Dim → CellKey → ℕ
rank_of dim c = rank_from dim c.level (at c 0) (at c 1) (at c 2)

-- a place counted along a direction
abbrev pub counted : Direction → Dim → ℕ → ℕ
counted Forward dim p = p
counted Backward dim p = children dim - 1 - p

-- the place of a cell among its siblings along a direction
abbrev pub place_along : Direction → Dim → CellKey → ℕ
place_along dir dim c = counted dir dim (sibling_place dim c)

-- a child from its digit on axis 0, and the counts of the curve on the others
abbrev pub nth_from : Dim → CellKey → ℕ → ℕ → ℕ → CellKey
nth_from Two c k0 t1 t2 = child_of c (triple k0 (turned (at c 0 + k0) t1) 0)
nth_from Three c k0 t1 t2 =
    (let k1 = turned (at c 0 + at c 2 + k0) t1 in child_of c
    (triple k0 k1 (turned (at c 0 + at c 1 + k0 + k1) t2)))

-- the child at a place among its siblings
abbrev pub nth_child : Dim → CellKey → ℕ → CellKey
nth_child Two c p = nth_from Two c (turned (at c 1) (p / 3)) (p % 3) 0
nth_child Three c p = nth_from Three c (turned (at c 1 + at c 2) (p / 9)) (p / 3 % 3) (p % 3)

-- the child at a place along a direction
abbrev pub child_along : Direction → Dim → CellKey → ℕ → CellKey
child_along dir dim c p = nth_child dim c (counted dir dim p)

-- how many cells of level `depth` a cell of level `l` has below it
abbrev pub width_of : Dim → ℕ → ℕ → ℕ
width_of dim l depth = children dim ^ (depth - l)

-- the first of the ranks of the descendants of level `depth`
abbrev pub interval_start : Dim → CellKey → ℕ → ℕ
interval_start dim c depth = rank_of dim c * width_of dim c.level depth

-- the ranks of the descendants of level `depth`
abbrev pub interval_of : Dim → CellKey → ℕ → Range
interval_of dim c depth =
    record {
      lo = interval_start dim c depth;
      hi = interval_start dim c depth + width_of dim c.level depth;
    }

-- the middle one of these ranks
abbrev pub centre_of : Dim → CellKey → ℕ → ℕ
centre_of dim c depth = interval_start dim c depth + width_of dim c.level depth / 2

-- the rank of the ancestor of level `l`
abbrev pub rank_at : Dim → CellKey → ℕ → ℕ
rank_at dim c l = rank_of dim c / children dim ^ (c.level - l)

-- the curve's order: by the ranks at the common level, then the ancestor first
abbrev pub curve_cmp : Dim → CellKey → CellKey → Ordering
curve_cmp dim a b =
    ordering_then (nat_cmp (rank_at dim a (min a.level b.level))
    (rank_at dim b (min a.level b.level)))
    (nat_cmp a.level b.level)
