-- What views and vertex records hold in a sweep.
use Rattle.std.specs.Prelude.{◌≡◌, ◌⊎◌, ℕ, ◌<◌, ◌≤◌, Bool, true, false, Option, Some, None, length, List, [], ◌∷◌, All, ◌+◌, pos}
use Rattle.std.specs.Borrow.{Bor}
use Rattle.std.specs.Option.{option_map}
use Rattle.peano_keys.specs.declared.dim.Dim.{Dim}
use Rattle.peano_keys.specs.declared.cell.CellKey.{CellKey}
use Rattle.peano_keys.specs.declared.vertex.VertexKey.{VertexKey}
use Rattle.peano_keys.specs.declared.side.Sides.{Sides}
use Rattle.peano_keys.specs.declared.side.Side.TheVariants.{Edge}
use Rattle.peano_keys.specs.declared.state.State.{State}
use Rattle.peano_keys.specs.declared.state.State.TheVariants.{Single}
use Rattle.peano_keys.specs.Dim.{corners}
use Rattle.peano_keys.specs.Cell.{parent_of}
use Rattle.peano_keys.specs.Vertex.{corner_of, home_of, slot_from}
use Rattle.peano_keys.specs.Grid.{IsStored}
use Rattle.peano_keys.specs.Field.{value_of, sides_of}
use Rattle.peano_records.specs.declared.view.CellView.{CellView}
use Rattle.peano_records.specs.declared.view.Corner.{Corner}
use Rattle.peano_records.specs.declared.view.Corner.TheVariants.{Vertex, Hanging, Beyond}
use Rattle.peano_records.specs.Slots.{VertexRecord, fresh, slot_at}
use Rattle.peano_records.specs.AtRest.{SaysOfCells, SaysOutside, HoldsCell}
use Rattle.peano_records.specs.Tells.{corner_at}
use Rattle.hanging_nodes.specs.Views.{HasSlots, IsStoredBefore}
use Rattle.tree_automaton.specs.declared.kinds.Serves.{Serves}
use Rattle.tree_automaton.specs.declared.kinds.Serves.TheVariants.{Raising, Adapting, Plain}
use Rattle.sweep_visits.specs.Plan.{dim_of, is_cell_in}
use Rattle.tree_automaton.specs.Sweep.{TreeSweep, flag_in, tells_new}

-- what is lent, where something is
abbrev pub seen : {T : Type 0} → Option (Bor T) → Option T
seen lent = option_map (λ x. x.now) lent

-- in a plain sweep each slot has its cell's status and value
abbrev pub HasValues : Serves → TreeSweep → VertexRecord → Type 0
HasValues Raising p s = Unit {0}
HasValues Adapting p s = Unit {0}
HasValues Plain p s = SaysOfCells (dim_of p.plan) s (HoldsCell p.plan.new p.field)

-- a record of a kept vertex: its slots tell the grids, positions outside say so, and in a plain sweep there are values
pub record VertexFits (p : TreeSweep) (s : VertexRecord) : Type 0 where
  pub eight : length s.slots ≡ 8
  pub slots : HasSlots (dim_of p.plan) p.plan.old p.plan.new (tells_new p.serves) s.key s
  pub outside : SaysOutside (dim_of p.plan) s
  pub values : HasValues p.serves p s

-- a corner is a vertex exactly where it is kept, and has its own key
abbrev pub CornerFits : TreeSweep → VertexKey → Corner → Type 0
CornerFits p w (Vertex s) = (s.key ≡ w) × VertexFits p s
CornerFits p w (Hanging k) = (k ≡ w) × (¬ IsStoredBefore p.plan.old w) × (¬ IsStored p.plan.new w)
CornerFits p w Beyond = ⊥

-- a vertex that was made just now
pub record IsMade (p : TreeSweep) (w : VertexKey) (s : VertexRecord) : Type 0 where
  pub fresh : s ≡ fresh (dim_of p.plan) w
  pub stored : IsStored p.plan.new w
  pub first : ¬ IsStoredBefore p.plan.old w

-- a corner as a cell is entered: a vertex that was made is new
abbrev pub CornerGiven : TreeSweep → VertexKey → Corner → Type 0
CornerGiven p w (Vertex s) = (s.key ≡ w) × (VertexFits p s ⊎ IsMade p w s)
CornerGiven p w (Hanging k) = (k ≡ w) × (¬ IsStoredBefore p.plan.old w) × (¬ IsStored p.plan.new w)
CornerGiven p w Beyond = ⊥

-- sides and the carried value are known in plain sweeps
abbrev pub KnowsField : Serves → TreeSweep → CellKey → CellView → Type 0
KnowsField Raising p c v = Unit {0}
KnowsField Adapting p c v = Unit {0}
KnowsField Plain p c v = (v.sides ≡ sides_of p.plan.new p.field c)
    × (0 < c.level → v.carried ≡ value_of p.plan.new p.field (parent_of c))

-- what is right of a view whatever its vertices hold, once `will` is set
pub record IsViewOf (p : TreeSweep) (c : CellKey) (v : CellView) : Type 0 where
  pub key : v.key ≡ c
  pub was : v.was ≡ flag_in p.plan.old c
  pub will : v.will ≡ flag_in (Some p.plan.new) c
  pub eight : length v.corners ≡ 8
  pub beyond : (n : ℕ) → corners (dim_of p.plan) ≤ n → corner_at v n ≡ Beyond
  pub field : KnowsField p.serves p c v

-- a view of a cell as the visitor's `enter` finds it
pub record ViewGiven (p : TreeSweep) (c : CellKey) (v : CellView) : Type 0 where
  pub view : IsViewOf p c v
  pub each : (n : ℕ) → n < corners (dim_of p.plan) → CornerGiven p (corner_of c n) (corner_at v n)
  pub task : is_cell_in p.plan.old c ≡ true → v.task ≡ p.task c

-- a view of a cell from then on
pub record ViewFits (p : TreeSweep) (c : CellKey) (v : CellView) : Type 0 where
  pub view : IsViewOf p c v
  pub each : (n : ℕ) → n < corners (dim_of p.plan) → CornerFits p (corner_of c n) (corner_at v n)

-- the view of the parent is there below the root alone
abbrev pub ParentFits : TreeSweep → CellKey → Option CellView → Type 0
ParentFits p c None = c.level ≡ 0
ParentFits p c (Some v) = (0 < c.level) × ViewFits p (parent_of c) v

-- the sides of a cell that is alone
abbrev pub edges_all : Sides
edges_all = record { low = Edge ∷ Edge ∷ Edge ∷ []; high = Edge ∷ Edge ∷ Edge ∷ [] }

-- the value in a cell's slot of a corner
abbrev pub value_in : Dim → ℕ → Corner → State
value_in dim n (Vertex s) = (slot_at s (slot_from dim n)).value
value_in dim n (Hanging k) = Single (pos 0)
value_in dim n Beyond = Single (pos 0)

-- the value of a view's own cell, by the slot at its home corner
abbrev pub value_at_home : Dim → CellView → State
value_at_home dim v = value_in dim (home_of dim v.key) (corner_at v (home_of dim v.key))

-- a view into which cells of a dimension can be entered, one after another
pub record IsPlace (dim : Dim) (v : CellView) : Type 0 where
  pub eight : length v.corners ≡ 8
  pub beyond : (n : ℕ) → corners dim ≤ n → corner_at v n ≡ Beyond

-- such views, one for each level from one on
pub record HavePlaces (dim : Dim) (level : ℕ) (views : List CellView) : Type 0 where
  pub enough : 13 ≤ level + length views
  pub each : All (IsPlace dim) views

-- below the root a cell carries the value in its parent's slot at the parent's home corner
abbrev pub CarriesFrom : Dim → Option CellView → State → Type 0
CarriesFrom dim None carried = Unit {0}
CarriesFrom dim (Some parent) carried = carried ≡ value_at_home dim parent

-- whether a flag says that a cell is refined
abbrev pub says : Option Bool → Bool
says None = false
says (Some refined) = refined
