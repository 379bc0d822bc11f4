-- The fills of a file and its boxes to refine: codes 10 and 11.
use Rattle.std.specs.Prelude.{ℕ, pos, List, [], ◌∷◌, ◌++◌, Option, Some, None, unwrap_or}
use Rattle.toml.specs.Data.{Data, Items, Members, as_table, no_items, item}
use Rattle.peano_keys.specs.declared.dim.Dim.{Dim}
use Rattle.peano_keys.specs.declared.state.State.TheVariants.{Single}
use Rattle.peano_keys.specs.Cell.{triple}
use Rattle.spacetree.specs.declared.shape.Fill as fills
use Rattle.spacetree.specs.declared.shape.Zone as zones
use Rattle.grid_file.specs.declared.boxes.CellBox.{CellBox}
use Rattle.grid_file.specs.declared.place.Part.{Part}
use Rattle.grid_file.specs.declared.place.Part.TheVariants.{Fill, Refine}
use Rattle.grid_file.specs.declared.place.KeyName.TheVariants as key
use Rattle.grid_file.specs.declared.solver.SolverName.{SolverName}
use Rattle.grid_file.specs.Faults.{Check}
use Rattle.grid_file.specs.Tree.{number_in, list_in}
use Rattle.grid_file.specs.Values.{from_in, to_in, state_in}
use Rattle.grid_file.specs.Keys.{at_key, key_check, listed, in_each}

-- a list of tables, each read by itself

-- what is read of a table, before what is read of the rest
abbrev pub put_before : {T : Type 0} → (Members → T) → Option Members → List T → List T
put_before read None rest = rest
put_before read (Some t) rest = read t ∷ rest

-- what is read of each table of a list
abbrev pub read_each : {T : Type 0} → (Members → T) → Items → List T
read_each read no_items = []
read_each read (item d rest) = put_before read (as_table d) (read_each read rest)

-- the list as a whole is checked, then each table of it
abbrev pub list_checks : Part → (ℕ → Members → List Check) → Option Data → List Check
list_checks part checks d = key_check part 0 key.Whole (list_in d) ∷ in_each checks 0 (listed d)

-- the keys that a fill and a box to refine share

-- the level
abbrev pub level_in : ℕ → Members → Option ℕ
level_in depth t = number_in 0 depth (at_key key.Level t)

-- the level that the box has, 0 where none is right
abbrev pub level_of : ℕ → Members → ℕ
level_of depth t = unwrap_or (level_in depth t) 0

-- the low corner
abbrev pub lower_in : Dim → ℕ → Members → Option (List ℕ)
lower_in dim level t = from_in dim level (at_key key.From t)

-- the low corner that the box has, all zeros where none is right
abbrev pub lower_of : Dim → ℕ → Members → List ℕ
lower_of dim level t = unwrap_or (lower_in dim level t) (triple 0 0 0)

-- the high corner
abbrev pub upper_in : Dim → ℕ → List ℕ → Members → Option (List ℕ)
upper_in dim level from t = to_in dim level from (at_key key.To t)

-- the high corner that the box has, all zeros where none is right
abbrev pub upper_of : Dim → ℕ → List ℕ → Members → List ℕ
upper_of dim level from t = unwrap_or (upper_in dim level from t) (triple 0 0 0)

-- the box of cells of one level
abbrev pub box_of : Dim → ℕ → Members → CellBox
box_of dim depth t =
    let level = level_of depth t in
    let from = lower_of dim level t in
    record { level = level; from = from; to = upper_of dim level from t }

-- its keys
abbrev pub box_checks : Dim → ℕ → Part → ℕ → Members → List Check
box_checks dim depth part n t =
    let level = level_of depth t in
    let from = lower_of dim level t in
    key_check part n key.Level (level_in depth t)
    ∷ key_check part n key.From (lower_in dim level t)
    ∷ key_check part n key.To (upper_in dim level from t)
    ∷ []

-- code 10: the fills

-- a fill: a box and a state
abbrev pub fill_from : Dim → ℕ → SolverName → Members → fills.Fill
fill_from dim depth solver t =
    let b = box_of dim depth t in
    let value = unwrap_or (state_in solver (at_key key.Value t)) (Single (pos 0)) in
    record { level = b.level; from = b.from; to = b.to; value = value }

-- what is checked of fill number `n`: the keys of its box, then its value
abbrev pub fill_checks : Dim → ℕ → SolverName → ℕ → Members → List Check
fill_checks dim depth solver n t =
    let value = state_in solver (at_key key.Value t) in
    box_checks dim depth Fill n t ++ key_check Fill n key.Value value ∷ []

-- code 11: the boxes to refine

-- a level down to which a box is refined
abbrev pub until_in : ℕ → Members → Option ℕ
until_in depth t = number_in 1 depth (at_key key.Until t)

-- a box to refine: a box and that level
abbrev pub zone_from : Dim → ℕ → Members → zones.Zone
zone_from dim depth t =
    let b = box_of dim depth t in
    record { level = b.level; from = b.from; to = b.to; until = unwrap_or (until_in depth t) 0 }

-- what is checked of box number `n` to refine: its keys as a box, then `until`
abbrev pub zone_checks : Dim → ℕ → ℕ → Members → List Check
zone_checks dim depth n t =
    box_checks dim depth Refine n t ++ key_check Refine n key.Until (until_in depth t) ∷ []
