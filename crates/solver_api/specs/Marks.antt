-- The mark of a leaf by a criterion: by how far the values across its faces lie from its own.
use Rattle.std.specs.Prelude.{ℕ, ℤ, pos, ◌-ℤ◌, unsigned_abs, int_le, int_lt, nat_lt, Bool, true, false, ◌&&◌, List, [], ◌∷◌, map, Option, Some, None, if◌then◌else◌}
use Rattle.std.specs.List.{list_any, list_all}
use Rattle.peano_keys.specs.declared.dim.Dim.{Dim}
use Rattle.peano_keys.specs.declared.dim.Dim.TheVariants.{Two, Three}
use Rattle.peano_keys.specs.declared.state.State.{State}
use Rattle.peano_keys.specs.declared.side.Side.{Side}
use Rattle.peano_keys.specs.declared.side.Side.TheVariants.{Edge, Same, Coarse}
use Rattle.peano_keys.specs.declared.side.Sides.{Sides}
use Rattle.peano_keys.specs.declared.side.Mark.{Mark}
use Rattle.peano_keys.specs.declared.side.Mark.TheVariants.{Keep, Refine, Coarsen}
use Rattle.peano_keys.specs.State.{value_at}
use Rattle.solver_api.specs.declared.criterion.Criterion.{Criterion}
use Rattle.solver_api.specs.Parts.{side_on}

-- the sides that count: in a plane those on axis 2 do not
abbrev pub faces_of : Dim → Sides → List Side
faces_of Two s = side_on s.low 0 ∷ side_on s.high 0 ∷ side_on s.low 1 ∷ side_on s.high 1 ∷ []
faces_of Three s = side_on s.low 0 ∷ side_on s.high 0 ∷ side_on s.low 1 ∷ side_on s.high 1
    ∷ side_on s.low 2 ∷ side_on s.high 2 ∷ []

-- how far a component across a face lies from the leaf's own, none at the domain's edge
abbrev pub difference : ℕ → State → Side → Option ℕ
difference i own Edge = None
difference i own (Same n) = Some (unsigned_abs (value_at n i -ℤ value_at own i))
difference i own (Coarse n) = Some (unsigned_abs (value_at n i -ℤ value_at own i))

-- the watched differences of a leaf
abbrev pub differences : Dim → ℕ → State → Sides → List (Option ℕ)
differences dim i own sides = map (difference i own) (faces_of dim sides)

-- a difference is at least a bound; where there is none it is not
abbrev pub is_at_least : ℤ → Option ℕ → Bool
is_at_least bound None = false
is_at_least bound (Some d) = int_le bound (pos d)

-- a difference is below a bound; where there is none it is too
abbrev pub is_below : ℤ → Option ℕ → Bool
is_below bound None = true
is_below bound (Some d) = int_lt (pos d) bound

-- the mark of a leaf of a level: refined where some difference is at least `hi` and the level is above the depth, coarsened where all are below `lo`
abbrev pub mark_by : Dim → Option Criterion → State → Sides → ℕ → Mark
mark_by dim None own sides level = Keep
mark_by dim (Some c) own sides level = if list_any (is_at_least c.hi)
    (differences dim c.watch own sides)
    && nat_lt level c.depth
    then Refine
    else (if list_all (is_below c.lo) (differences dim c.watch own sides) then Coarsen else Keep)

-- whether there is a criterion
abbrev pub has_criterion : Option Criterion → Bool
has_criterion None = false
has_criterion (Some c) = true

-- the criterion's depth, and 0 without one
abbrev pub depth_of : Option Criterion → ℕ
depth_of None = 0
depth_of (Some c) = c.depth
