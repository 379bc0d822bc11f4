-- The grid and the field that a run opens with.
use Rattle.std.specs.Prelude.{◌≡◌, ◌↔◌, ◌⊎◌, ℕ, pos, ◌+◌, ◌*◌, ◌^◌, ◌<◌, ◌≤◌, min, max, Bool, true, ◌&&◌, nat_lt, List, [], ◌∷◌, filter, replicate, slice_index, Any, unwrap_or, Some, None}
use Rattle.std.specs.FinMap as map
use Rattle.peano_keys.specs.declared.dim.Dim.{Dim}
use Rattle.peano_keys.specs.declared.dim.Dim.TheVariants.{Two, Three}
use Rattle.peano_keys.specs.declared.cell.CellKey.{CellKey}
use Rattle.peano_keys.specs.declared.state.State.{State}
use Rattle.peano_keys.specs.declared.state.State.TheVariants.{Single}
use Rattle.peano_keys.specs.Cell.{IsCell, at}
use Rattle.peano_keys.specs.State.{count_of, state_from}
use Rattle.peano_keys.specs.Grid.{Spacetree, is_refined}
use Rattle.peano_keys.specs.Field.{States}
use Rattle.solver_api.specs.Step.{IsLeafOf}
use Rattle.spacetree.specs.declared.shape.Shape.{Shape}
use Rattle.spacetree.specs.declared.shape.Zone.{Zone}
use Rattle.spacetree.specs.declared.shape.Fill.{Fill}

-- whether the inside of a cell of level `l` at `x` meets, on one axis, the interval of cells `from` to `to` of level `k`
abbrev pub overlaps : ℕ → ℕ → ℕ → ℕ → ℕ → Bool
overlaps l x k from to =
    nat_lt (max (x * 3 ^ k) (from * 3 ^ l)) (min ((x + 1) * 3 ^ k) (to * 3 ^ l))

-- so on axis `i` of a cell and a zone
abbrev pub overlaps_on : ℕ → Zone → CellKey → Bool
overlaps_on i z c = overlaps c.level (at c i) z.level (slice_index z.from i) (slice_index z.to i)

-- whether the inside of a cell meets the box of a zone: on each axis in use
abbrev pub meets : Dim → Zone → CellKey → Bool
meets Two z c = overlaps_on 0 z c && overlaps_on 1 z c
meets Three z c = overlaps_on 0 z c && overlaps_on 1 z c && overlaps_on 2 z c

-- whether a zone refines a cell: one of a level below its own last one whose inside meets its box
abbrev pub zone_refines : Dim → CellKey → Zone → Bool
zone_refines dim c z = nat_lt c.level z.until && meets dim z c

-- a zone refines a cell
abbrev pub ZoneRefines : Dim → CellKey → Zone → Type 0
ZoneRefines dim c z = zone_refines dim c z ≡ true

-- a cell is refined in the opening grid: its level is below the base, or a zone refines it
pub record OpensRefined (shape : Shape) (c : CellKey) : Type 0 where
  pub cell : IsCell shape.dim c
  pub cause : (c.level < shape.base) ⊎ Any (ZoneRefines shape.dim c) shape.zones

-- the opening grid of a shape
pub record Opens (shape : Shape) (t : Spacetree) : Type 0 where
  pub dim : t.dim ≡ shape.dim
  pub refined : (c : CellKey) → (is_refined t c ≡ true) ↔ OpensRefined shape c

-- the centre of a cell of level `l` at `x` lies, on one axis, between the cells `from` and `to` of level `k`
abbrev pub is_between : ℕ → ℕ → ℕ → ℕ → ℕ → Bool
is_between l x k from to = nat_lt (from * 2 * 3 ^ l) ((2 * x + 1) * 3 ^ k)
    && nat_lt ((2 * x + 1) * 3 ^ k) (to * 2 * 3 ^ l)

-- so on axis 2, which a plane has none of
abbrev pub is_between_third : Dim → ℕ → ℕ → ℕ → ℕ → ℕ → Bool
is_between_third Two l x k from to = true
is_between_third Three l x k from to = is_between l x k from to

-- whether a leaf lies in the box of a fill: its centre is in the box
abbrev pub lies_in : Dim → CellKey → Fill → Bool
lies_in dim c b = is_between c.level (at c 0) b.level (slice_index b.from 0) (slice_index b.to 0)
    && is_between c.level (at c 1) b.level (slice_index b.from 1) (slice_index b.to 1)
    && is_between_third dim c.level (at c 2) b.level (slice_index b.from 2) (slice_index b.to 2)

-- the value of the last of some fills, and another state where there is none
abbrev pub last_value : State → List Fill → State
last_value none [] = none
last_value none (b ∷ more) = last_value b.value more

-- the state of so many zeros
abbrev pub zeros : ℕ → State
zeros parts = unwrap_or (state_from (replicate parts (pos 0))) (Single (pos 0))

-- the state that a leaf opens with: that of the last fill in which it lies, or zeros
abbrev pub opening_state : Dim → List Fill → ℕ → CellKey → State
opening_state dim fills parts c = last_value (zeros parts) (filter (lies_in dim c) fills)

-- the opening field of a grid: each leaf has its opening state, and no other cell has one
pub record OpensField (t : Spacetree) (fills : List Fill) (parts : ℕ) (f : States) : Type 0 where
  pub leaves : (c : CellKey) → IsLeafOf t c → map.get f c ≡ Some (opening_state t.dim fills parts c)
  pub others : (c : CellKey) → ¬ IsLeafOf t c → map.get f c ≡ None

-- the box of a fill is one that the engine serves: cells of a level up to 12, from before to on each axis
pub record IsBox (b : Fill) : Type 0 where
  pub level : b.level ≤ 12
  pub first : slice_index b.to 0 ≤ 3 ^ b.level
  pub first_order : slice_index b.from 0 ≤ slice_index b.to 0
  pub second : slice_index b.to 1 ≤ 3 ^ b.level
  pub second_order : slice_index b.from 1 ≤ slice_index b.to 1
  pub third : slice_index b.to 2 ≤ 3 ^ b.level
  pub third_order : slice_index b.from 2 ≤ slice_index b.to 2

-- and its state has so many values
pub record IsFill (parts : ℕ) (b : Fill) : Type 0 where
  pub box : IsBox b
  pub count : count_of b.value ≡ parts
