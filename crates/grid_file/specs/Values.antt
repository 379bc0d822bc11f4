-- What may stand at each key, none where it may not.
use Rattle.std.specs.Prelude.{ℕ, ℤ, pos, Bool, true, false, List, [], ◌∷◌, Option, Some, None, codes, ◌+◌, ◌-◌, ◌^◌, nat_eq, nat_le, unsigned_abs, if◌then◌else◌, slice_index, option_map, option_and_then}
use Rattle.std.specs.Borrow.{Bor}
use Rattle.toml.specs.Data.{Data, Items, as_integer, no_items, item}
use Rattle.toml.specs.View.{view}
use Rattle.toml.specs.declared.value.Value.{Value}
use Rattle.peano_keys.specs.declared.dim.Dim.{Dim}
use Rattle.peano_keys.specs.declared.dim.Dim.TheVariants.{Two, Three}
use Rattle.peano_keys.specs.declared.state.State.{State}
use Rattle.peano_keys.specs.declared.state.State.TheVariants.{Single, Pair}
use Rattle.peano_keys.specs.Cell.{triple}
use Rattle.volume_solver.specs.declared.edge.EdgeRule.{EdgeRule}
use Rattle.volume_solver.specs.declared.edge.EdgeRule.TheVariants.{Copy, Fixed}
use Rattle.grid_file.specs.declared.limits.TheConstants.{MOST_RATE, MOST_STEPS}
use Rattle.grid_file.specs.declared.solver.SolverName.{SolverName}
use Rattle.grid_file.specs.declared.solver.SolverName.TheVariants.{Diffuse, Advect, Wave}
use Rattle.grid_file.specs.Tree.{seen, number_in, number_or, same_text, items_at, string_at}

-- `dim`: 2 or 3
abbrev pub dim_of_number : ℕ → Dim
dim_of_number n = if nat_eq n 2 then Two else Three

-- so read
abbrev pub dimension_in : Option Data → Option Dim
dimension_in d = option_map dim_of_number (number_in 2 3 d)

-- `solver`: one of three names
abbrev pub solver_named : List ℕ → Option SolverName
solver_named s =
    if same_text s (codes "diffuse") then Some Diffuse
    else (if same_text s (codes "advect") then Some Advect
    else (if same_text s (codes "wave") then Some Wave else None))

-- the solver that a text names
abbrev pub solver_in : Option Data → Option SolverName
solver_in d = option_and_then solver_named (string_at d)

-- how many values a state of a solver has
abbrev pub parts_of : SolverName → ℕ
parts_of Diffuse = 1
parts_of Advect = 1
parts_of Wave = 2

-- which solvers take `a`
abbrev pub takes_a : SolverName → Bool
takes_a Advect = false
takes_a _ = true

-- and which take `wind`
abbrev pub takes_wind : SolverName → Bool
takes_wind Advect = true
takes_wind _ = false

-- exactly as many items as there are axes
abbrev pub axes_in : Dim → Items → Option (Data × Data × Option Data)
axes_in Two (item x (item y no_items)) = Some (x, y, None)
axes_in Three (item x (item y (item z no_items))) = Some (x, y, Some z)
axes_in dim _ = None

-- the items that the program has found on the axes, as definitions see them
abbrev pub axes_seen : Bor Value × Bor Value × Option (Bor Value) → Data × Data × Option Data
axes_seen p = (view p.0.now, view p.1.now, seen p.2)

-- a speed: at most a million in either direction
abbrev pub slow : ℤ → Option ℤ
slow z = if nat_le (unsigned_abs z) MOST_RATE then Some z else None

-- so read
abbrev pub speed_in : Data → Option ℤ
speed_in d = option_and_then slow (as_integer d)

-- a speed on each of three axes, where each is one
abbrev pub wind_from : Option ℤ → Option ℤ → Option ℤ → Option (List ℤ)
wind_from (Some x) (Some y) (Some z) = Some (x ∷ y ∷ z ∷ [])
wind_from _ _ _ = None

-- the speed on the third axis, none where there is no such axis
abbrev pub third_speed : Option Data → Option ℤ
third_speed None = Some (pos 0)
third_speed (Some d) = speed_in d

-- a speed on each axis, and none on an unused one
abbrev pub speeds_on : Data × Data × Option Data → Option (List ℤ)
speeds_on p = wind_from (speed_in p.0) (speed_in p.1) (third_speed p.2)

-- exactly as many speeds as there are axes
abbrev pub speeds_in : Dim → Items → Option (List ℤ)
speeds_in dim items = option_and_then speeds_on (axes_in dim items)

-- `wind`: a speed on each axis, none where it is absent
abbrev pub wind_in : Dim → Option Data → Option (List ℤ)
wind_in dim None = Some (pos 0 ∷ pos 0 ∷ pos 0 ∷ [])
wind_in dim (Some d) = option_and_then (speeds_in dim) (items_at (Some d))

-- a coordinate on each of three axes, where each is one
abbrev pub corner_from : Option ℕ → Option ℕ → Option ℕ → Option (List ℕ)
corner_from (Some x) (Some y) (Some z) = Some (triple x y z)
corner_from _ _ _ = None

-- an integer on each axis, from its `low` to `high`; an unused coordinate is 0
abbrev pub corner_on : List ℕ → ℕ → Data × Data × Option Data → Option (List ℕ)
corner_on low high p =
    corner_from (number_in (slice_index low 0) high (Some p.0))
    (number_in (slice_index low 1) high (Some p.1))
    (number_or 0 (slice_index low 2) high p.2)

-- exactly as many coordinates as there are axes
abbrev pub corner_within : Dim → List ℕ → ℕ → Items → Option (List ℕ)
corner_within dim low high items = option_and_then (corner_on low high) (axes_in dim items)

-- `from`: a cell of the level
abbrev pub from_in : Dim → ℕ → Option Data → Option (List ℕ)
from_in dim level d =
    option_and_then (corner_within dim (triple 0 0 0) (3 ^ level - 1)) (items_at d)

-- beyond a corner on each axis
abbrev pub beyond : List ℕ → List ℕ
beyond from = triple (slice_index from 0 + 1) (slice_index from 1 + 1) (slice_index from 2 + 1)

-- `to`: beyond `from` on each axis, and at most the end of the level
abbrev pub to_in : Dim → ℕ → List ℕ → Option Data → Option (List ℕ)
to_in dim level from d =
    option_and_then (corner_within dim (beyond from) (3 ^ level)) (items_at d)

-- a state of one value
abbrev pub single_from : Option ℤ → Option State
single_from x = option_map Single x

-- and of two
abbrev pub pair_from : Option ℤ → Option ℤ → Option State
pair_from (Some x) (Some y) = Some (Pair x y)
pair_from _ _ = None

-- exactly as many integers as a state of the solver has values
abbrev pub values_in : SolverName → Items → Option State
values_in Wave (item x (item y no_items)) = pair_from (as_integer x) (as_integer y)
values_in Wave _ = None
values_in solver (item x no_items) = single_from (as_integer x)
values_in solver _ = None

-- `value` and `edge_value`: a state of the solver
abbrev pub state_in : SolverName → Option Data → Option State
state_in solver d = option_and_then (values_in solver) (items_at d)

-- `edge`: `copy`, also where it is absent, or `fixed`; whether it is the latter
abbrev pub fixed_named : List ℕ → Option Bool
fixed_named s =
    if same_text s (codes "copy") then Some false
    else (if same_text s (codes "fixed") then Some true else None)

-- so read, with its default
abbrev pub fixed_in : Option Data → Option Bool
fixed_in None = Some false
fixed_in (Some d) = option_and_then fixed_named (string_at (Some d))

-- the rule at the domain's edge: a fixed one has a state at `edge_value`, and a copy has none
abbrev pub edge_in : SolverName → Bool → Option Data → Option EdgeRule
edge_in solver true d = option_map Fixed (state_in solver d)
edge_in solver false None = Some Copy
edge_in solver false (Some d) = None

-- `print_every` and `recut_every`: absent, or 1 to 10,000
abbrev pub every_in : Option Data → Option (Option ℕ)
every_in None = Some None
every_in (Some d) = option_map Some (number_in 1 MOST_STEPS (Some d))
