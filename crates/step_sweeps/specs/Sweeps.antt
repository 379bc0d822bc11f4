-- What the sweeps of a step make of a tree's store.
use Rattle.std.specs.Prelude.{◌≡◌, ◌↔◌, ◌&&◌, ℕ, pos, ◌<◌, Bool, true, List, map, slice_index_or, All, Some}
use Rattle.std.specs.Int.{w64}
use Rattle.std.specs.Int.RustNames.{FitsSigned}
use Rattle.peano_keys.specs.declared.cell.CellKey.{CellKey}
use Rattle.peano_keys.specs.Grid.{Spacetree, is_leaf, is_refined}
use Rattle.peano_keys.specs.Sums.{cell_weight}
use Rattle.peano_keys.specs.Field.{States, state_at, value_of, component_of}
use Rattle.peano_keys.specs.Next.{Splits, Merges, IsNextGrid}
use Rattle.peano_curve.specs.declared.order.Direction.{Direction}
use Rattle.spacetree.specs.Fields.{IsFieldOn}
use Rattle.curve_cuts.specs.Cuts.{Cuts, IsCutGrid, Owns, range_of}
use Rattle.curve_cuts.specs.Enclave.{IsSkeleton, IsEnclave}
use Rattle.peano_records.specs.declared.slot.Slot.{Slot}
use Rattle.peano_records.specs.declared.partials.Partial.{Partial}
use Rattle.solver_api.specs.Step.{IsLeafOf, new_state}
use Rattle.vertex_stacks.specs.declared.kind.Kind.TheVariants.{Primary as primary, Secondary as secondary}
use Rattle.vertex_stacks.specs.Notes.{Note}
use Rattle.vertex_stacks.specs.Tales.{capped}
use Rattle.sweep_visits.specs.Runs.{turned_round}
use Rattle.tree_automaton.specs.TreeLists.{TreeLists}
use Rattle.tree_automaton.specs.Noted.{IsNoted}
use Rattle.tree_automaton.specs.AtRest.{HasLists, StandsFor, plain_plan}
use Rattle.step_phases.specs.Stores.{TreeSays}
use Rattle.step_phases.specs.Change.{Change}
use Rattle.step_phases.specs.Phases.{HasNext, AfterFirst}
use Rattle.step_phases.specs.Sweeps.{IsSwept, PrimaryChanges, IsIntentOf}
use Rattle.spacetree.specs.Counts.{CountsCells, EachOnce}
use Rattle.spacetree.specs.Leaves.{is_among}
use Rattle.mean_values.specs.NextSums.{TellsMerges}
use Rattle.mean_values.specs.Steps.{HasFloors}
use Rattle.tree_sums.specs.Trees.{owned_by, IsSharedCell}
use Rattle.tree_sums.specs.Partials.{tree_partial}
use Rattle.step_world.specs.Failing.{FailsAmong}
use Rattle.swept_slots.specs.Copies.{copies}
use Rattle.step_sweeps.specs.declared.tally.Tally.{Tally}
use Rattle.step_sweeps.specs.Kernels.{Kernel, IsChangeBy}

-- a store of one of the trees of some cuts stands for a grid and a field whose states have so many values
pub record StandsOn (k : Cuts) (parts : ℕ) (dir : Direction) (g : Spacetree) (f : States)
    (s : TreeLists) : Type 0 where
  pub grid : IsCutGrid k g
  pub field : IsFieldOn parts g f
  pub tree : s.tree < k.trees
  pub stands : StandsFor k.depth (range_of k s.tree) s.tree dir g f s

-- for some grid and field
abbrev pub CanStep : Cuts → ℕ → TreeLists → Type 0
CanStep k parts s = (dir : Direction) × (g : Spacetree) × (f : States) × StandsOn k parts dir g f s

-- A primary sweep leaves a store that stands for the same grid and field, to be read the other way. In the copies of the tree each leaf that it owns has its mark,
-- and each skeleton leaf its new value where it has one, whatever else a change by the kernel is; the least skeleton leaf that has none is told.
pub record IsPrimarySwept (kernel : Kernel) (k : Cuts) (dir : Direction) (g : Spacetree)
    (f : States) (step : ℕ) (s t : TreeLists) (note : Note) (tally : Tally) : Type 0 where
  pub tree : t.tree ≡ s.tree
  pub stands : StandsOn k kernel.parts (turned_round dir) g f t
  pub slots : (w : Change) → IsChangeBy kernel g f w
      → IsSwept k g s.tree (PrimaryChanges k w s.tree) (copies s.lanes.input) (copies t.lanes.input)
  pub failing : FailsAmong (IsSkeleton k g s.tree) (new_state kernel.updated g f) tally.failing
  pub noted : IsNoted
      (plain_plan k.depth
      (range_of k s.tree) dir g) primary step s.tree s.lanes.tale t.lanes.tale note

-- a change that a secondary sweep can finish over a field: the values are the field's, and the new grid is the next one
pub record IsToFinish (w : Change) (f : States) : Type 0 where
  pub values : (c : CellKey) → w.value c ≡ value_of w.old f c
  pub grid : IsNextGrid w.old w.mark w.new

-- a store of one of the trees of some cuts that has the marks of all leaves and the new values of the skeleton leaves, in a change by a kernel over a field
-- whose states have its number of values: its copies say what is so after the first exchange
pub record IsMarked (kernel : Kernel) (k : Cuts) (dir : Direction) (w : Change) (f : States)
    (s : TreeLists) : Type 0 where
  pub grid : IsCutGrid k w.old
  pub field : IsFieldOn kernel.parts w.old f
  pub by : IsChangeBy kernel w.old f w
  pub change : IsToFinish w f
  pub tree : s.tree < k.trees
  pub lists : HasLists (plain_plan k.depth (range_of k s.tree) dir w.old) s.tree s
  pub says : TreeSays k w.old s.tree (AfterFirst k w) (copies s.lanes.input)

-- for some change and field
abbrev pub CanFinish : Kernel → Cuts → TreeLists → Type 0
CanFinish kernel k s = (dir : Direction) × (w : Change) × (f : States) × IsMarked kernel k dir w f s

-- so many cells that a tree owns are of a kind; the number stands at the last value of a count once it is there
pub record CountsOwn (k : Cuts) (t : ℕ) (P : CellKey → Type 0) (n : ℕ) : Type 0 where
  pub count : ℕ
  pub counts : CountsCells (λ c. Owns k t c × P c) count
  pub told : n ≡ capped count

-- a tally of the cells that a tree owns: the least enclave leaf that has no new value, how many leaves split and how many refined cells merge
pub record IsTallied (k : Cuts) (w : Change) (t : ℕ) (tally : Tally) : Type 0 where
  pub failing : FailsAmong (IsEnclave k w.old t) w.next tally.failing
  pub splits : CountsOwn k t (Splits w.old w.mark) tally.splits
  pub merges : CountsOwn k t (Merges w.old w.mark) tally.merges

-- a field of the new states of a change: each leaf of the old grid has one, with so many values
pub record AreNewStatesOf (w : Change) (parts : ℕ) (states : States) : Type 0 where
  pub field : IsFieldOn parts w.old states
  pub leaves : (c : CellKey) → IsLeafOf w.old c → w.next c ≡ Some (state_at states c)

-- the new states of the leaves that a tree owns have values of 64 bits alone
abbrev pub HaveWords : Cuts → Spacetree → States → ℕ → Type 0
HaveWords k g states t = (c : CellKey) → Owns k t c → IsLeafOf g c
    → (i : ℕ) → FitsSigned w64 (component_of states i c)

-- what a tree has of a shared cell: of each component its partial sum, and where the tree owns the cell whether it merges
pub record IsPartialOf (k : Cuts) (g : Spacetree) (merging : CellKey → Bool) (states : States)
    (t : ℕ) (p : Partial) : Type 0 where
  pub sums : (i : ℕ) → i < 4 → slice_index_or p.sums i (pos 0)
      ≡ tree_partial k g merging (component_of states i) t p.key
  pub merges : p.merges ≡ (owned_by k t p.key && merging p.key)

-- the cells of some partials
abbrev pub keys_of : List Partial → List CellKey
keys_of ps = map (λ p. p.key) ps

-- the partials of a tree: one of each shared cell that it holds
pub record ArePartialsOf (k : Cuts) (g : Spacetree) (merging : CellKey → Bool) (states : States)
    (t : ℕ) (ps : List Partial) : Type 0 where
  pub once : EachOnce (keys_of ps)
  pub cells : (c : CellKey) → (is_among (keys_of ps) c ≡ true) ↔ IsSharedCell k g t c
  pub each : All (IsPartialOf k g merging states t) ps

-- a secondary sweep with the new states of all leaves: in the slots of a tree's own cells leaves have their new states, and refined cells the floors of the tree's partial sums
pub record SummedChanges (k : Cuts) (parts : ℕ) (w : Change) (merging : CellKey → Bool)
    (states : States) (t : ℕ) (c : CellKey) (old new : Slot) : Type 0 where
  pub status : new.status ≡ old.status
  pub value : new.value ≡ old.value
  pub mark : new.mark ≡ old.mark
  pub leaf : Owns k t c → is_leaf w.old c ≡ true → HasNext w c new
  pub refined : Owns k t c → is_refined w.old c ≡ true
      → HasFloors parts (cell_weight k.depth w.old.dim c)
      (λ i. tree_partial k w.old merging (component_of states i) t c) new.next
  pub intent : Owns k t c → IsIntentOf w.old w.mark c new.intent

-- what such a sweep of a tree's store leaves, and the partials that it hands out
pub record IsSummed (k : Cuts) (parts : ℕ) (w : Change) (merging : CellKey → Bool)
    (states : States) (s t : TreeLists) (partials : List Partial) : Type 0 where
  pub slots : IsSwept k w.old s.tree (SummedChanges k parts w merging states s.tree)
      (copies s.lanes.input) (copies t.lanes.input)
  pub handed : ArePartialsOf k w.old merging states s.tree partials
  pub words : HaveWords k w.old states s.tree

-- A secondary sweep leaves a store with the same lists, to be read the other way. The least enclave leaf that has no new value is told, and the cells that split
-- and merge are counted. Where each leaf has a new state, the tree's own cells have their new states and sums, and the partials are those of the tree.
pub record IsSecondarySwept (k : Cuts) (parts : ℕ) (dir : Direction) (w : Change) (step : ℕ)
    (s t : TreeLists) (note : Note) (tally : Tally) (partials : List Partial) : Type 0 where
  pub lists : HasLists (plain_plan k.depth (range_of k s.tree) (turned_round dir) w.old) s.tree t
  pub tallied : IsTallied k w s.tree tally
  pub noted : IsNoted
      (plain_plan k.depth
      (range_of k s.tree) dir w.old) secondary step s.tree s.lanes.tale t.lanes.tale note
  pub summed : (states : States) (merging : CellKey → Bool) → AreNewStatesOf w parts states
      → TellsMerges w.old w.mark merging → IsSummed k parts w merging states s t partials
