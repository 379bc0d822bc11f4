-- How trees start, in the beginning and after they are cut anew.
use Rattle.std.specs.Prelude.{◌≡◌, ℕ, ◌<◌, ◌≤◌, List, length, slice_index_or, Result, IfOk}
use Rattle.peano_keys.specs.declared.cell.CellKey.{CellKey}
use Rattle.peano_keys.specs.Grid.{Spacetree, IsGrid}
use Rattle.peano_keys.specs.Field.{States, value_of}
use Rattle.peano_curve.specs.declared.order.Direction.TheVariants.{Backward}
use Rattle.curve_cuts.specs.Cuts.{Cuts, IsCutGrid, range_of}
use Rattle.curve_cuts.specs.Keys.{CutPoints, AreEqualCuts, cuts_of}
use Rattle.curve_cuts.specs.Leaves.{AreLeaves}
use Rattle.vertex_stacks.specs.Notes.{Note}
use Rattle.vertex_stacks.specs.Tales.{no_tale, with_note}
use Rattle.tree_automaton.specs.TreeLists.{TreeLists}
use Rattle.tree_automaton.specs.AtRest.{HasLists, plain_plan}
use Rattle.step_phases.specs.Sweeps.{IsRaised}
use Rattle.swept_slots.specs.Copies.{copies}
use Rattle.step_world.specs.Notes.{note_raised, by_trees}
use Rattle.step_driver.specs.declared.beside.Swept.{Swept}
use Rattle.step_driver.specs.Stores.{store_of, AllStandFor}
use Rattle.step_driver.specs.Notes.{sizes_of}

-- the keys of so many trees with equal shares of a grid's leaves, in the order of the curve
abbrev pub AreEqualKeys : ℕ → Spacetree → ℕ → CutPoints → Type 0
AreEqualKeys depth g trees keys = (leaves : List CellKey) × AreLeaves g.dim depth g leaves
    × AreEqualCuts g.dim depth leaves trees keys

-- there are such keys for each grid, which is one for their trees
abbrev pub EqualKeysExist : Type 0
EqualKeysExist = (depth : ℕ) (g : Spacetree) (trees : ℕ) → depth ≤ 12 → IsGrid depth g → 1 ≤ trees
    → trees ≤ 64 → (keys : CutPoints) × AreEqualKeys depth g trees keys × IsCutGrid (cuts_of keys) g

-- a tree raised from a grid and a field: the lists of a store at rest, copies that are raised, and one note
pub record IsRaisedStore (k : Cuts) (g : Spacetree) (f : States) (step t : ℕ)
    (s : TreeLists) : Type 0 where
  pub lists : HasLists (plain_plan k.depth (range_of k t) Backward g) t s
  pub slots : IsRaised k g (value_of g f) t (copies s.lanes.input)
  pub tale : s.lanes.tale ≡ with_note no_tale (note_raised (sizes_of k) step g t)

-- with its note
pub record IsRaisedWith (k : Cuts) (g : Spacetree) (f : States) (step t : ℕ)
    (r : Swept Unit) : Type 0 where
  pub store : IsRaisedStore k g f step t r.store
  pub noted : r.note ≡ note_raised (sizes_of k) step g t

-- each tree is raised, unless it was refused memory
pub record MayBeRaised {E : Type 0} (k : Cuts) (g : Spacetree) (f : States) (step : ℕ)
    (given : List (Result (Swept Unit) E)) : Type 0 where
  pub count : length given ≡ k.trees
  pub each : (t : ℕ) (e : Result (Swept Unit) E) → t < k.trees
      → IfOk (slice_index_or given t e) (IsRaisedWith k g f step t)

-- the first trees are raised, and so they note
pub record AreRaised (k : Cuts) (g : Spacetree) (f : States) (step trees : ℕ)
    (stores : List TreeLists) (notes : List Note) : Type 0 where
  pub count : length stores ≡ trees
  pub each : (t : ℕ) → t < trees → IsRaisedStore k g f step t (store_of stores t)
  pub noted : notes ≡ by_trees trees (note_raised (sizes_of k) step g)

-- all trees, raised and exchanged, stand for the grid and the field, each with the tale of its one note
pub record AreStarted (k : Cuts) (g : Spacetree) (f : States) (step : ℕ) (stores : List TreeLists)
    (notes : List Note) : Type 0 where
  pub stand : AllStandFor k Backward g f stores
  pub tales : (t : ℕ) → t < k.trees
      → (store_of stores t).lanes.tale ≡ with_note no_tale (note_raised (sizes_of k) step g t)
  pub noted : notes ≡ by_trees k.trees (note_raised (sizes_of k) step g)
