-- What contracts see of a world, and the grid and the field that it is at.
use Rattle.std.specs.Prelude.{◌≡◌, ℕ, ◌≤◌, Bool, true, List, Option}
use Rattle.peano_keys.specs.Grid.{Spacetree}
use Rattle.peano_keys.specs.Field.{States}
use Rattle.peano_curve.specs.declared.order.Direction.{Direction}
use Rattle.spacetree.specs.declared.limits.TheConstants.{MOST_CELLS}
use Rattle.spacetree.specs.Counts.{cells_of}
use Rattle.spacetree.specs.Fields.{IsFieldOn}
use Rattle.curve_cuts.specs.Cuts.{Cuts, IsCutGrid}
use Rattle.curve_cuts.specs.Keys.{CutPoints, cuts_of}
use Rattle.vertex_stacks.specs.Notes.{Note}
use Rattle.tree_automaton.specs.TreeLists.{TreeLists}
use Rattle.boundary_streams.specs.Trees.{copies_of}
use Rattle.step_world.specs.Worlds.{StandFor}
use Rattle.step_driver.specs.Stores.{AllStandFor, store_of}
use Rattle.step_driver.specs.Notes.{HaveTales}

-- a world: its solver, after how many steps its trees are cut anew, if they are, the keys and the stores of its trees, how many cells its grid has, its step, the notes of all sweeps, and whether it is live
pub record Seen (S : Type 0) : Type 0 where
  pub solver : S
  pub recut : Option ℕ
  pub keys : CutPoints
  pub stores : List TreeLists
  pub cells : ℕ
  pub step : ℕ
  pub notes : List Note
  pub live : Bool

-- The trees of some cuts, at most 64, are at a grid and a field whose states have so many values: the store of each tree stands for them, in what lies in it and in what
-- each slot says, and all are read in one direction; the tale of each is that of its tree's notes since it was raised; and the grid has so many cells, at most 200,000.
pub record AreAt (parts : ℕ) (k : Cuts) (stores : List TreeLists) (notes : List Note) (cells : ℕ)
    (g : Spacetree) (f : States) : Type 0 where
  pub few : k.trees ≤ 64
  pub fits : IsCutGrid k g
  pub field : IsFieldOn parts g f
  pub dir : Direction
  pub stand : AllStandFor k dir g f stores
  pub tales : HaveTales k.trees stores notes
  pub counted : cells ≡ cells_of g
  pub room : cells_of g ≤ MOST_CELLS

-- a live world is at a grid and a field after so many steps
pub record IsAt {S : Type 0} (parts : ℕ) (w : Seen S) (g : Spacetree) (f : States)
    (step : ℕ) : Type 0 where
  pub live : w.live ≡ true
  pub step_is : w.step ≡ step
  pub trees : AreAt parts (cuts_of w.keys) w.stores w.notes w.cells g f

-- a world is at one grid and one field, after one number of steps
abbrev pub WorldIsAtOne : Type 0 → Type 0
WorldIsAtOne S = (parts : ℕ) (w : Seen S) (g h : Spacetree) (f e : States) (m n : ℕ)
    → IsAt parts w g f m → IsAt parts w h e n → (g ≡ h) × (f ≡ e) × (m ≡ n)

-- the copies of its trees stand for that grid and field
abbrev pub WorldStands : Type 0 → Type 0
WorldStands S = (parts : ℕ) (w : Seen S) (g : Spacetree) (f : States) (step : ℕ)
    → IsAt parts w g f step → StandFor (cuts_of w.keys) (copies_of (store_of w.stores)) g f
