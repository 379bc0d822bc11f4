-- How the curve crosses the faces of a cell, and the ages of their planes.
use Rattle.std.specs.Prelude.{◌≡◌, ℕ, zero, suc, ◌+◌, ◌-◌, ◌/◌, ◌%◌, ◌==◌, ◌<◌, ◌≤◌, if◌then◌else◌, Option, Some, None, [], ◌∷◌, slice_index_or}
use Rattle.peano_keys.specs.declared.cell.CellKey.{CellKey}
use Rattle.peano_keys.specs.declared.dim.Dim.{Dim}
use Rattle.peano_keys.specs.declared.dim.Dim.TheVariants.{Two, Three}
use Rattle.peano_keys.specs.Cell.{at}
use Rattle.peano_keys.specs.Vertex.{bit_of}
use Rattle.peano_curve.specs.declared.order.Direction.{Direction}
use Rattle.peano_curve.specs.declared.order.Direction.TheVariants.{Forward, Backward}
use Rattle.stack_law.specs.Digits.{turned}
use Rattle.sweep_visits.specs.Runs.{is_before, turned_round}
use Rattle.handed_down.specs.declared.faces.Crossing.{Crossing}
use Rattle.handed_down.specs.declared.faces.Crossing.TheVariants.{Wall, In, Out}
use Rattle.handed_down.specs.declared.faces.Faces.{Faces}

-- on one axis of cells of a level, the others at p and q: the age of the plane between x and y, which is the level of the cells that it divides inside one parent, where the curve comes to y after x; else 0
abbrev pub age_of : Direction → ℕ → ℕ → ℕ → ℕ → ℕ → ℕ
age_of dir zero p q x y = 0
age_of dir (suc l) p q x y = if x / 3 == y / 3
    then (if is_before dir (turned (p + q) (x % 3)) (turned (p + q) (y % 3)) then suc l else 0)
    else age_of dir l (p / 3) (q / 3) (x / 3) (y / 3)

-- how the curve crosses a face, by the age of its plane where the neighbour comes later, and where it comes earlier
abbrev pub crossing_by : ℕ → ℕ → Crossing
crossing_by zero zero = Wall
crossing_by zero (suc earlier) = In (suc earlier)
crossing_by (suc later) earlier = Out (suc later)

-- how it crosses the face between x and y
abbrev pub crossing_of : Direction → ℕ → ℕ → ℕ → ℕ → ℕ → Crossing
crossing_of dir l p q x y = crossing_by (age_of dir l p q x y) (age_of (turned_round dir) l p q x y)

-- the faces on axis 2, which a plane has not
abbrev pub third_crossing : Dim → Crossing → Crossing
third_crossing Two a = Wall
third_crossing Three a = a

-- an axis before another one turns with its place in the cell, one after it with that of the parent
abbrev pub faces_of : Direction → Dim → CellKey → Faces
faces_of dir dim c =
    record {
      low = crossing_of dir c.level (at c 1 / 3) (at c 2 / 3) (at c 0) (at c 0 - 1)
          ∷ crossing_of dir c.level (at c 0) (at c 2 / 3) (at c 1) (at c 1 - 1)
          ∷ third_crossing dim (crossing_of dir c.level (at c 0) (at c 1) (at c 2) (at c 2 - 1))
          ∷ [];
      high = crossing_of dir c.level (at c 1 / 3) (at c 2 / 3) (at c 0) (at c 0 + 1)
          ∷ crossing_of dir c.level (at c 0) (at c 2 / 3) (at c 1) (at c 1 + 1)
          ∷ third_crossing dim (crossing_of dir c.level (at c 0) (at c 1) (at c 2) (at c 2 + 1))
          ∷ [];
    }

-- the face on an axis, at corner `n`
abbrev pub face_at : Faces → ℕ → ℕ → Crossing
face_at a n i = if bit_of n i == 1 then slice_index_or a.high i Wall
    else slice_index_or a.low i Wall

-- the age of a face by which the curve goes on, else 0
abbrev pub age_out : Crossing → ℕ
age_out Wall = 0
age_out (In age) = 0
age_out (Out age) = age

-- the age of a face by which the curve came, else 0
abbrev pub age_in : Crossing → ℕ
age_in Wall = 0
age_in (In age) = age
age_in (Out age) = 0

-- the axis of the youngest of three planes, the greatest axis among equals; none where all ages are 0
abbrev pub IsYoungest : ℕ → ℕ → ℕ → Option ℕ → Type 0
IsYoungest a0 a1 a2 None = (a0 ≡ 0) × (a1 ≡ 0) × (a2 ≡ 0)
IsYoungest a0 a1 a2 (Some zero) = (0 < a0) × (a1 < a0) × (a2 < a0)
IsYoungest a0 a1 a2 (Some (suc zero)) = (0 < a1) × (a0 ≤ a1) × (a2 < a1)
IsYoungest a0 a1 a2 (Some (suc (suc zero))) = (0 < a2) × (a0 ≤ a2) × (a1 ≤ a2)
IsYoungest a0 a1 a2 (Some (suc (suc (suc i)))) = ⊥

-- inside a cell the curve goes up on an axis, where the other coordinates have this sum
abbrev pub Rises : Direction → ℕ → Type 0
Rises Forward s = s % 2 ≡ 0
Rises Backward s = s % 2 ≡ 1
