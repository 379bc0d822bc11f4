-- What an adaptation sweep does to the slots of a cell.
use Rattle.std.specs.Prelude.{◌≡◌, ◌⊎◌, ℕ, ◌<◌, ◌≤◌, Bool, true, false, Option, Some, None, length}
use Rattle.peano_keys.specs.declared.dim.Dim.{Dim}
use Rattle.peano_keys.specs.declared.state.State.{State}
use Rattle.peano_keys.specs.Dim.{corners}
use Rattle.peano_keys.specs.Vertex.{home_of, slot_from}
use Rattle.peano_records.specs.declared.slot.Status.{Status}
use Rattle.peano_records.specs.declared.view.Corner.{Corner}
use Rattle.peano_records.specs.declared.view.Corner.TheVariants.{Vertex, Hanging, Beyond}
use Rattle.peano_records.specs.declared.view.CellView.{CellView}
use Rattle.peano_records.specs.Slots.{slot_at, with_slot}
use Rattle.peano_records.specs.AtRest.{status_of}
use Rattle.peano_records.specs.Tells.{corner_at, slot_tells}
use Rattle.curve_cuts.specs.Cuts.{Cuts}
use Rattle.tree_automaton.specs.Views.{value_at_home}
use Rattle.adapt_sweep.specs.Own.{IsOwn}

-- whether a slot of a corner tells that its cell is refined in the new grid; one that is not stored tells of none
abbrev pub corner_tells : ℕ → Corner → Bool
corner_tells k (Vertex s) = slot_tells true (slot_at s k)
corner_tells k (Hanging v) = false
corner_tells k Beyond = false

-- whether a view tells that its cell is refined in the new grid: by the home corner, and never a cell that is new
abbrev pub refined_by : Dim → Option Bool → CellView → Bool
refined_by dim None v = false
refined_by dim (Some was) v =
    corner_tells (slot_from dim (home_of dim v.key)) (corner_at v (home_of dim v.key))

-- whether the cell of a view is refined in the new grid
abbrev pub refined_next : Dim → CellView → Bool
refined_next dim v = refined_by dim v.was v

-- the value that a cell takes over: its own at the home corner, or where it is new the one that it carries from its parent
abbrev pub value_by : Dim → Option Bool → CellView → State
value_by dim None v = v.carried
value_by dim (Some was) v = value_at_home dim v

-- the value that the cell of a view takes over
abbrev pub value_next : Dim → CellView → State
value_next dim v = value_by dim v.was v

-- a corner with status and value written into one slot, where it is a vertex
abbrev pub written : ℕ → Status → State → Corner → Corner
written k status value (Vertex s) =
    Vertex (with_slot s k (record (slot_at s k) { status = status; value = value }))
written k status value (Hanging v) = Hanging v
written k status value Beyond = Beyond

-- at each corner of a view the cell's slot takes the status in the new grid and the value; nothing else is changed
pub record IsAdaptedView (dim : Dim) (v w : CellView) : Type 0 where
  pub each : (n : ℕ) → n < corners dim
      → corner_at w n
      ≡ written (slot_from dim n) (status_of (refined_next dim v)) (value_next dim v)
      (corner_at v n)
  pub past : (n : ℕ) → corners dim ≤ n → corner_at w n ≡ corner_at v n
  pub size : length w.corners ≡ length v.corners
  pub others : w ≡ record v { corners = w.corners }

-- so where the tree owns the cell; of the view of another tree's cell nothing is changed
abbrev pub Adapts : Cuts → ℕ → CellView → CellView → Type 0
Adapts k t v w = (IsOwn k t v.key × IsAdaptedView k.dim v w) ⊎ ((¬ IsOwn k t v.key) × (w ≡ v))
