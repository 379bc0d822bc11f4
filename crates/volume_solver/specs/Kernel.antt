-- What the solvers compute, over integers without bounds; a new value that leaves the range of `i64` makes the new state none.
use Rattle.std.specs.Prelude.{ℕ, ℤ, pos, negsuc, ◌^◌, ◌+ℤ◌, ◌-ℤ◌, ◌*ℤ◌, int_le, nat_lt, List, [], ◌∷◌, map, Option, Some, None, if◌then◌else◌}
use Rattle.std.specs.Int.{int_div_euclid}
use Rattle.peano_keys.specs.declared.dim.Dim.{Dim}
use Rattle.peano_keys.specs.declared.dim.Dim.TheVariants.{Two, Three}
use Rattle.peano_keys.specs.declared.state.State.{State}
use Rattle.peano_keys.specs.declared.state.State.TheVariants.{Single, Pair}
use Rattle.peano_keys.specs.declared.side.Side.{Side}
use Rattle.peano_keys.specs.declared.side.Side.TheVariants.{Edge, Same, Coarse}
use Rattle.peano_keys.specs.declared.side.Sides.{Sides}
use Rattle.peano_keys.specs.State.{value_at}
use Rattle.solver_api.specs.Parts.{side_on}
use Rattle.solver_api.specs.Marks.{faces_of}
use Rattle.volume_solver.specs.declared.edge.EdgeRule.{EdgeRule}
use Rattle.volume_solver.specs.declared.edge.EdgeRule.TheVariants.{Copy, Fixed}
use Rattle.volume_solver.specs.declared.laplacian.Laplacian.{Laplacian}
use Rattle.volume_solver.specs.declared.upwind.Upwind.{Upwind}
use Rattle.volume_solver.specs.Ranges.{speed_on}

-- an integer as an `i64`, none where it is none
abbrev pub fitted : ℤ → Option ℤ
fitted (pos n) = if nat_lt n (2 ^ 63) then Some (pos n) else None
fitted (negsuc n) = if nat_lt n (2 ^ 63) then Some (negsuc n) else None

-- the state of one value, where it fits
abbrev pub single_of : Option ℤ → Option State
single_of None = None
single_of (Some u) = Some (Single u)

-- the state of two values, where both fit
abbrev pub pair_of : Option ℤ → Option ℤ → Option State
pair_of (Some u) (Some w) = Some (Pair u w)
pair_of _ _ = None

-- the sum of a list
abbrev pub total : List ℤ → ℤ
total [] = pos 0
total (x ∷ xs) = x +ℤ total xs

-- the state across a face: at the domain's edge the leaf's own, or the fixed one
abbrev pub across : EdgeRule → State → Side → State
across Copy own Edge = own
across (Fixed e) own Edge = e
across rule own (Same n) = n
across rule own (Coarse n) = n

-- how far the first value across a face lies above the leaf's own
abbrev pub rise : EdgeRule → State → Side → ℤ
rise rule own side = value_at (across rule own side) 0 -ℤ value_at own 0

-- the sum of these over all faces
abbrev pub rises : Dim → EdgeRule → State → Sides → ℤ
rises dim rule own sides = total (map (rise rule own) (faces_of dim sides))

-- by how much the first value changes: `a * 9^level / b` times that sum, rounded down
abbrev pub change : Laplacian → State → Sides → ℕ → ℤ
change k own sides level =
    let scale = k.a *ℤ pos (9 ^ level) in
    int_div_euclid (scale *ℤ rises k.dim k.edge own sides) k.b

-- diffusion: the value moves by the change
abbrev pub diffused : Laplacian → State → Sides → ℕ → Option State
diffused k own sides level = single_of (fitted (value_at own 0 +ℤ change k own sides level))

-- a wave's speed, which stands second, moves by the change
abbrev pub new_speed : Laplacian → State → Sides → ℕ → ℤ
new_speed k own sides level = value_at own 1 +ℤ change k own sides level

-- a wave: and its value moves by the new speed
abbrev pub waved : Laplacian → State → Sides → ℕ → Option State
waved k own sides level =
    let speed = new_speed k own sides level in
    pair_of (fitted (value_at own 0 +ℤ speed)) (fitted speed)

-- how far the leaf's value lies above that across the low face, or the value across the high face above the leaf's, whichever the wind comes from
abbrev pub upwind_rise : ℤ → EdgeRule → State → Side → Side → ℤ
upwind_rise speed rule own low high =
    if int_le (pos 0) speed
    then (value_at own 0 -ℤ value_at (across rule own low) 0)
    else (value_at (across rule own high) 0 -ℤ value_at own 0)

-- what the wind carries off on an axis
abbrev pub carried_on : ℕ → Upwind → State → Sides → ℕ → ℤ
carried_on i k own sides level = let speed = speed_on k.wind i in (speed *ℤ pos (3 ^ level))
    *ℤ upwind_rise speed k.edge own (side_on sides.low i) (side_on sides.high i)

-- and on all axes
abbrev pub carried : Dim → Upwind → State → Sides → ℕ → ℤ
carried Two k own sides level = carried_on 0 k own sides level +ℤ carried_on 1 k own sides level
carried Three k own sides level = (carried_on 0 k own sides level +ℤ carried_on 1 k own sides level)
    +ℤ carried_on 2 k own sides level

-- advection: the value loses the `b`th part of that, rounded down
abbrev pub advected : Upwind → State → Sides → ℕ → Option State
advected k own sides level =
    let loss = int_div_euclid (carried k.dim k own sides level) k.b in
    single_of (fitted (value_at own 0 -ℤ loss))
