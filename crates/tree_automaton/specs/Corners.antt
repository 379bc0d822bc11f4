-- What taking and giving corners asks of a store, and what it gives.
use Rattle.std.specs.Prelude.{◌≡◌, ℕ, ◌<◌, ◌≤◌, ◌&&◌, not, None, Some, Bool, true, false, List, [], ◌∷◌, ◌++◌, Option, slice_index_or}
use Rattle.peano_keys.specs.declared.cell.CellKey.{CellKey}
use Rattle.peano_keys.specs.Dim.{corners}
use Rattle.peano_keys.specs.Vertex.{corner_of}
use Rattle.peano_records.specs.declared.stored.Stored.{Stored}
use Rattle.peano_records.specs.declared.view.CellView.{CellView}
use Rattle.peano_records.specs.declared.view.Corner.{Corner}
use Rattle.peano_records.specs.declared.view.Corner.TheVariants.{Vertex, Beyond}
use Rattle.peano_records.specs.Tells.{corner_at}
use Rattle.sweep_visits.specs.Plan.{SweepPlan, dim_of, is_cell_in}
use Rattle.sweep_visits.specs.Visits.{Visit, enter, leave}
use Rattle.sweep_visits.specs.Moves.{Move, corner_in, corner_out}
use Rattle.sweep_visits.specs.Moments.{arrivals_below, departures_from}
use Rattle.tree_automaton.specs.declared.decide.Course.{Course}
use Rattle.tree_automaton.specs.TreeLists.{TreeLists, page_count}
use Rattle.tree_automaton.specs.Sweep.{flag_in, is_owned}
use Rattle.tree_automaton.specs.Story.{Call, IsAmong, Story}
use Rattle.tree_automaton.specs.Moments.{HoldsVertices, HoldsCells}
use Rattle.tree_automaton.specs.Decisions.{Decides}
use Rattle.tree_automaton.specs.Views.{CornerFits}
use Rattle.tree_automaton.specs.Visits.{CornerTaken}

-- what taking a corner asks: its move comes next
pub record CornerAsks (m : Story) (made more : List Move) (course : Course)
    (parent : Option CellView) (c : CellKey) (n : ℕ) (s : TreeLists) : Type 0 where
  pub decides : Decides m.sweep course parent c
  pub dim : s.lanes.dim ≡ course.dim
  pub holds : HoldsVertices m made (corner_in m.sweep.plan c (corner_of c n) ++ more) s.lanes

-- a corner was taken
pub record CornerGives (m : Story) (made more : List Move) (c : CellKey) (n : ℕ) (t : TreeLists)
    (corner : Corner) : Type 0 where
  pub holds : HoldsVertices m (made ++ corner_in m.sweep.plan c (corner_of c n)) more t.lanes
  pub corner_is : CornerTaken m c (corner_of c n) corner

-- what taking all corners asks
pub record CornersAsk (m : Story) (made more : List Move) (course : Course)
    (parent : Option CellView) (c : CellKey) (s : TreeLists) : Type 0 where
  pub decides : Decides m.sweep course parent c
  pub dim : s.lanes.dim ≡ course.dim
  pub holds : HoldsVertices m made
      (arrivals_below m.sweep.plan c (corners course.dim) ++ more) s.lanes

-- the corners from a number on were taken, and those below it come next
pub record CornersGive (m : Story) (more : List Move) (course : Course) (c : CellKey) (n : ℕ)
    (t : TreeLists) (cs : List Corner) : Type 0 where
  pub made : List Move
  pub holds : HoldsVertices m made (arrivals_below m.sweep.plan c n ++ more) t.lanes
  pub each : (k : ℕ) → n ≤ k → k < corners course.dim
      → CornerTaken m c (corner_of c k) (slice_index_or cs k Beyond)

-- a vertex is one with which a cell was left at a corner
pub record IsLeftWith (m : Story) (c : CellKey) (n : ℕ) (s : Stored) : Type 0 where
  pub call : Call
  pub among : IsAmong call m.calls
  pub visit : call.visit ≡ leave c
  pub corner : corner_at call.made n ≡ Vertex s

-- what giving a corner asks: its move comes next
pub record GiveAsks (m : Story) (made more : List Move) (course : Course) (parent : Option CellView)
    (c : CellKey) (n : ℕ) (corner : Corner) (s : TreeLists) : Type 0 where
  pub decides : Decides m.sweep course parent c
  pub dim : s.lanes.dim ≡ course.dim
  pub holds : HoldsVertices m made (corner_out m.sweep.plan c (corner_of c n) ++ more) s.lanes
  pub fits : CornerFits m.sweep (corner_of c n) corner
  pub told : (v : Stored) → corner ≡ Vertex v → IsLeftWith m c n v

-- what giving all corners asks
pub record GiveAllAsks (m : Story) (made more : List Move) (course : Course)
    (parent : Option CellView) (c : CellKey) (cs : List Corner) (s : TreeLists) : Type 0 where
  pub decides : Decides m.sweep course parent c
  pub dim : s.lanes.dim ≡ course.dim
  pub holds : HoldsVertices m made
      (departures_from m.sweep.plan c 0 (corners course.dim) ++ more) s.lanes
  pub fits : (n : ℕ) → n < corners course.dim
      → CornerFits m.sweep (corner_of c n) (slice_index_or cs n Beyond)
  pub told : (n : ℕ) (v : Stored) → n < corners course.dim → slice_index_or cs n Beyond ≡ Vertex v
      → IsLeftWith m c n v

-- the corners below a number were given, and as many from there on come next
pub record GivenBelow (m : Story) (more : List Move) (c : CellKey) (n rest : ℕ)
    (t : TreeLists) : Type 0 where
  pub made : List Move
  pub holds : HoldsVertices m made (departures_from m.sweep.plan c n rest ++ more) t.lanes

-- what reading a cell's record asks: the cell is entered next
pub record ReadAsks (m : Story) (made more : List Visit) (course : Course)
    (parent : Option CellView) (c : CellKey) (s : TreeLists) : Type 0 where
  pub decides : Decides m.sweep course parent c
  pub holds : HoldsCells m made (enter c ∷ more) s

-- a cell's record was read
pub record ReadGives (m : Story) (made more : List Visit) (c : CellKey) (t : TreeLists)
    (was : Option Bool) (task : ℕ) : Type 0 where
  pub holds : HoldsCells m (made ++ enter c ∷ []) more t
  pub was_is : was ≡ flag_in m.sweep.plan.old c
  pub task_is : is_cell_in m.sweep.plan.old c ≡ true → task ≡ m.sweep.task c

-- corners of a cell are those that were taken
abbrev pub AreTaken : Story → CellKey → List Corner → Type 0
AreTaken m c cs = (n : ℕ) → n < corners (dim_of m.sweep.plan)
    → CornerTaken m c (corner_of c n) (slice_index_or cs n Beyond)

-- places from a number on hold no corner
abbrev pub AreBeyond : ℕ → List Corner → Type 0
AreBeyond count cs = (n : ℕ) → count ≤ n → slice_index_or cs n Beyond ≡ Beyond

-- the vertices alone move
pub record MovesVertices (s t : TreeLists) : Type 0 where
  pub lists : t ≡ record s { lanes = t.lanes }
  pub dim : t.lanes.dim ≡ s.lanes.dim
  pub tale : t.lanes.tale ≡ s.lanes.tale
  pub pages : page_count s.lanes ≤ page_count t.lanes

-- a corner was given
abbrev pub GiveGives : Story → List Move → List Move → CellKey → ℕ → TreeLists → Type 0
GiveGives m made more c n t =
    HoldsVertices m (made ++ corner_out m.sweep.plan c (corner_of c n)) more t.lanes

-- a cell is left as a leaf of the new grid that the tree owns
abbrev pub is_leaf_left : SweepPlan → CellKey → Option Bool → Bool
is_leaf_left p c None = false
is_leaf_left p c (Some refined) = not refined && is_owned p c
