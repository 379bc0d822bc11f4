-- What a leaf sees across its faces, by a criterion: whether a watched difference is large, and whether all are small.
use Rattle.std.specs.Prelude.{Bool, ◌&&◌, ◌||◌}
use Rattle.std.specs.List.{list_any, list_all}
use Rattle.peano_keys.specs.declared.dim.Dim.{Dim}
use Rattle.peano_keys.specs.declared.state.State.{State}
use Rattle.peano_keys.specs.declared.side.Side.{Side}
use Rattle.peano_keys.specs.declared.side.Sides.{Sides}
use Rattle.solver_api.specs.declared.criterion.Criterion.{Criterion}
use Rattle.solver_api.specs.Marks.{difference, differences, is_at_least, is_below}

-- the difference across a face is at least `hi`
abbrev pub reaches : Criterion → State → Side → Bool
reaches c own side = is_at_least c.hi (difference c.watch own side)

-- the difference across a face is below `lo`
abbrev pub is_calm : Criterion → State → Side → Bool
is_calm c own side = is_below c.lo (difference c.watch own side)

-- some watched difference is at least `hi`
abbrev pub some_reaches : Dim → Criterion → State → Sides → Bool
some_reaches dim c own sides = list_any (is_at_least c.hi) (differences dim c.watch own sides)

-- all are below `lo`
abbrev pub all_calm : Dim → Criterion → State → Sides → Bool
all_calm dim c own sides = list_all (is_below c.lo) (differences dim c.watch own sides)
