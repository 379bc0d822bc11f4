-- A store at a moment of a sweep, between the visits that were made and those to come.
use Rattle.std.specs.Prelude.{◌≡◌, ℕ, Bool, List, [], ◌∷◌, ◌++◌, Option, Some, None, map, flat_map, length, count_by}
use Rattle.peano_keys.specs.Grid.{is_refined}
use Rattle.peano_records.specs.declared.view.CellRecord.{CellRecord}
use Rattle.peano_records.specs.declared.view.CellView.{CellView}
use Rattle.vertex_stacks.specs.Lists.{SweepLists, lane_at}
use Rattle.vertex_stacks.specs.Tales.{capped}
use Rattle.sweep_visits.specs.Plan.{dim_of}
use Rattle.sweep_visits.specs.Visits.{Visit, enter, leave, visits_of}
use Rattle.sweep_visits.specs.Moves.{Move, moves_of, taken_by, put_by}
use Rattle.sweep_visits.specs.Moments.{passings_on, moves_by}
use Rattle.sweep_streams.specs.Counts.{pushed_by}
use Rattle.sweep_streams.specs.Records.{read_at, written_at}
use Rattle.tree_automaton.specs.TreeLists.{TreeLists}
use Rattle.tree_automaton.specs.Sweep.{TreeSweep, record_in, is_owned_leaf}
use Rattle.tree_automaton.specs.Story.{Call, Story, IsOfInput, IsOfOutput, IsOnLane, Matched}

-- Between the moves that were made and those to come: the input has the vertices that are still to be taken, the output those that were put, and each lane
-- the passings that were pushed and not popped, each with the record by which it was last left.
pub record HoldsVertices (m : Story) (made more : List Move) (l : SweepLists) : Type 0 where
  pub moves : moves_of m.sweep.plan ≡ made ++ more
  pub input : Matched (IsOfInput m) (taken_by more) l.input
  pub output : Matched (IsOfOutput m) (put_by made) l.output
  pub six : length l.lanes ≡ 6
  pub lanes : (k : ℕ) → Matched (IsOnLane m) (passings_on made k) (lane_at l k)
  pub taken : l.taken ≡ capped (length (taken_by made))
  pub put : l.put ≡ capped (length (put_by made))
  pub pushed : l.pushed ≡ capped (length (pushed_by made))
  pub tale : l.tale ≡ m.tale

-- whether a cell record says that its cell is refined
abbrev pub flag_of : CellRecord → Bool
flag_of r = r.refined

-- the record that a view leaves in the cell stream, where its cell is one of the new grid
abbrev pub record_by : Option Bool → ℕ → List CellRecord
record_by None task = []
record_by (Some refined) task = record { refined = refined; task = task } ∷ []

-- the record that a call leaves
abbrev pub record_of : Visit → CellView → List CellRecord
record_of (enter c) v = []
record_of (leave c) v = record_by v.will v.task

-- the records that calls leave, in order
abbrev pub records_of : List Call → List CellRecord
records_of [] = []
records_of (call ∷ calls) = record_of call.visit call.made ++ records_of calls

-- the cell streams: the records of the cells of the old grid that are still to be entered, and those of the cells of the new grid that were left, with the tasks of their views
pub record HoldsCells (m : Story) (made more : List Visit) (s : TreeLists) : Type 0 where
  pub cells : s.cells ≡ map (record_in m.sweep) (flat_map (read_at m.sweep.plan) more)
  pub flags : map flag_of s.written
      ≡ map (is_refined m.sweep.plan.new) (flat_map (written_at m.sweep.plan) made)
  pub written : s.written ≡ records_of m.calls
  pub counted : s.counted
      ≡ capped (count_by (is_owned_leaf m.sweep.plan) (flat_map (written_at m.sweep.plan) made))

-- the store at a moment of a sweep
pub record IsDuring (m : Story) (made more : List Visit) (s : TreeLists) : Type 0 where
  pub visits : visits_of m.sweep.plan ≡ made ++ more
  pub vertices : HoldsVertices m (moves_by m.sweep.plan made) (moves_by m.sweep.plan more) s.lanes
  pub records : HoldsCells m made more s

-- a store is of a sweep's tree and direction
pub record IsStoreOf (p : TreeSweep) (s : TreeLists) : Type 0 where
  pub dim : s.lanes.dim ≡ dim_of p.plan
  pub depth : s.depth ≡ p.plan.depth
  pub range : s.range ≡ p.plan.range
  pub dir : s.dir ≡ p.plan.dir
  pub tree : s.tree ≡ p.tree
