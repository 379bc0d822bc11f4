-- The sweeps of all trees that gather rows, to show them or to cut the trees anew, and what a world shows.
use Rattle.std.specs.Prelude.{◌≡◌, ℕ, ◌<◌, false, List, ◌++◌, length, slice_index_or, Some, Result, Ok, Err}
use Rattle.std.specs.FinMap as fin
use Rattle.peano_keys.specs.Grid.{Spacetree}
use Rattle.peano_keys.specs.Field.{States}
use Rattle.peano_curve.specs.declared.order.Direction.{Direction}
use Rattle.curve_cuts.specs.Cuts.{Cuts, IsCutGrid}
use Rattle.curve_cuts.specs.Keys.{cuts_of}
use Rattle.spacetree.specs.declared.row.Row.{Row}
use Rattle.spacetree.specs.Fields.{rows_of}
use Rattle.field_report.specs.declared.traffic.Traffic.{Traffic}
use Rattle.vertex_stacks.specs.declared.kind.Kind.{Kind}
use Rattle.vertex_stacks.specs.declared.kind.Kind.TheVariants.{Show}
use Rattle.vertex_stacks.specs.Notes.{Note}
use Rattle.vertex_stacks.specs.Tales.{with_note}
use Rattle.sweep_visits.specs.Runs.{turned_round}
use Rattle.tree_automaton.specs.TreeLists.{TreeLists}
use Rattle.step_world.specs.Notes.{note_over, by_trees}
use Rattle.step_sweeps.specs.Sweeps.{StandsOn}
use Rattle.showing_sweep.specs.declared.shown.Shown.{Shown as ShownTree}
use Rattle.showing_sweep.specs.Counts.{ListsAll}
use Rattle.showing_sweep.specs.Shown.{IsRowOf, IsTraffic, AreAmounts}
use Rattle.showing_sweep.specs.Laws.{amounts_in}
use Rattle.showing_sweep.specs.Sweeps.{IsShownTree}
use Rattle.step_driver.specs.declared.showing.Shown.{Shown}
use Rattle.step_driver.specs.Notes.{sizes_of, AddsFirst}
use Rattle.step_driver.specs.declared.beside.Swept.{Swept}
use Rattle.step_driver.specs.Stores.{ChangesEach}
use Rattle.step_driver.specs.Worlds.{AreAt, Seen, IsAt}

-- what the sweep of one tree gives, whatever its store stood for
abbrev pub ShowsTree : Cuts → ℕ → Kind → TreeLists → Swept ShownTree → Type 0
ShowsTree k step kind x r = (parts : ℕ) (dir : Direction) (g : Spacetree) (f : States)
    → StandsOn k parts dir g f x → IsShownTree k parts dir g f step kind x r.store r.note r.found

-- what such a sweep makes of the store of a tree: it stands for the same grid and field, read the other way, and the tale has one note more
pub record IsShownStore (k : Cuts) (parts : ℕ) (dir : Direction) (g : Spacetree) (f : States)
    (step : ℕ) (kind : Kind) (t : ℕ) (before after : TreeLists) : Type 0 where
  pub number : after.tree ≡ t
  pub stands : StandsOn k parts (turned_round dir) g f after
  pub tale : after.lanes.tale
      ≡ with_note before.lanes.tale (note_over (sizes_of k) step kind g t)

-- the row of a leaf that one of the first trees owns, with its state
abbrev pub IsRowOfFirst : Cuts → Spacetree → States → ℕ → Row → Type 0
IsRowOfFirst k g f m row = (t : ℕ) × (t < m) × IsRowOf k g f t row

-- the traffic of the first trees, by number
pub record AreTraffic (k : Cuts) (g : Spacetree) (m : ℕ) (list : List Traffic) : Type 0 where
  pub count : length list ≡ m
  pub each : (t : ℕ) (d : Traffic) → t < m → IsTraffic k g t (slice_index_or list t d)

-- the notes of the first trees, the rows of their leaves, each once, and their traffic
pub record GatheredFirst (k : Cuts) (g : Spacetree) (f : States) (step : ℕ) (kind : Kind) (m : ℕ)
    (old new : List Note) (row_list : List Row) (traffic_list : List Traffic) : Type 0 where
  pub noted : new ≡ old ++ by_trees m (note_over (sizes_of k) step kind g)
  pub rows : ListsAll (IsRowOfFirst k g f m) row_list
  pub traffic : AreTraffic k g m traffic_list

-- the stores of all trees were swept; their notes, the rows of all leaves and the traffic of each
pub record AreShown (k : Cuts) (parts : ℕ) (dir : Direction) (g : Spacetree) (f : States) (step : ℕ)
    (kind : Kind) (before after : List TreeLists) (old new : List Note)
    (shown : Shown) : Type 0 where
  pub trees : ChangesEach (IsShownStore k parts dir g f step kind) k.trees before after
  pub gathered : GatheredFirst k g f step kind k.trees old new shown.rows.items shown.traffic.items

-- rows are those of a field, each once, in some order
abbrev pub AreRowsOf : States → List Row → Type 0
AreRowsOf f rows = ListsAll (λ (row : Row). fin.get f row.key ≡ Some row.value) rows

-- the traffic of a tree, each number as it is
pub record TellsTraffic (k : Cuts) (g : Spacetree) (t : ℕ) (x : Traffic) : Type 0 where
  pub tree : x.tree ≡ t
  pub amounts : AreAmounts k g t (amounts_in x)

-- of each tree, by number
pub record TellTraffic (k : Cuts) (g : Spacetree) (list : List Traffic) : Type 0 where
  pub count : length list ≡ k.trees
  pub each : (t : ℕ) (d : Traffic) → t < k.trees → TellsTraffic k g t (slice_index_or list t d)

-- there is no other such list
abbrev pub OneTraffic : Type 0
OneTraffic = (k : Cuts) (g : Spacetree) (first second : List Traffic) → TellTraffic k g first
    → TellTraffic k g second → first ≡ second

-- and there is one
abbrev pub TrafficExists : Type 0
TrafficExists = (k : Cuts) (g : Spacetree) → IsCutGrid k g
    → (list : List Traffic) × TellTraffic k g list

-- The rows of all trees were gathered, which are at a grid and a field: the rows of the field in key order, and the traffic of each tree. They are still there.
pub record ShowTrees (parts : ℕ) (k : Cuts) (g : Spacetree) (f : States) (step : ℕ) (kind : Kind)
    (cells : ℕ) (stores : List TreeLists) (old new : List Note) (shown : Shown) : Type 0 where
  pub step_is : shown.step ≡ step
  pub rows : shown.rows.items ≡ rows_of f
  pub traffic : TellTraffic k g shown.traffic.items
  pub at : AreAt parts k stores new cells g f
  pub noted : new ≡ old ++ by_trees k.trees (note_over (sizes_of k) step kind g)

-- A world was shown: the rows of the field in key order, and the traffic of each tree. It is at the same grid and field.
pub record IsShown {S : Type 0} (parts : ℕ) (g : Spacetree) (f : States) (before after : Seen S)
    (shown : Shown) : Type 0 where
  pub step_is : shown.step ≡ before.step
  pub rows : shown.rows.items ≡ rows_of f
  pub traffic : TellTraffic (cuts_of before.keys) g shown.traffic.items
  pub at : IsAt parts after g f before.step
  pub noted : after.notes
      ≡ before.notes
      ++ by_trees (cuts_of before.keys).trees
      (note_over (sizes_of (cuts_of before.keys)) before.step Show g)

-- or memory was wanting: it is no longer live
pub record IsNotShown {S : Type 0} (g : Spacetree) (before after : Seen S) : Type 0 where
  pub live : after.live ≡ false
  pub noted : AddsFirst before.notes after.notes
      (by_trees (cuts_of before.keys).trees
      (note_over (sizes_of (cuts_of before.keys)) before.step Show g))

-- one of both, by the answer
abbrev pub ShowsWorld : {S E : Type 0} → ℕ → Spacetree → States → Seen S → Seen S → Result Shown E
    → Type 0
ShowsWorld parts g f before after (Ok shown) = IsShown parts g f before after shown
ShowsWorld parts g f before after (Err e) = IsNotShown g before after
