-- Laws of the partials of all trees.
use Rattle.std.specs.Prelude.{◌≡◌, ℕ, ◌<◌, Bool, true, Some, List, length}
use Rattle.std.specs.Int.{w64}
use Rattle.std.specs.Int.RustNames.{FitsSigned}
use Rattle.peano_keys.specs.declared.cell.CellKey.{CellKey}
use Rattle.peano_keys.specs.declared.vertex.VertexKey.{VertexKey}
use Rattle.peano_keys.specs.declared.side.Mark.{Mark}
use Rattle.peano_keys.specs.Dim.{corners}
use Rattle.peano_keys.specs.State.{count_of}
use Rattle.peano_keys.specs.Vertex.{adjacent_of}
use Rattle.peano_keys.specs.Grid.{Spacetree, is_refined}
use Rattle.peano_keys.specs.Field.{States, component_of}
use Rattle.peano_records.specs.Slots.{slot_at}
use Rattle.curve_cuts.specs.Cuts.{Cuts, IsCutGrid, Owns, HasVertex}
use Rattle.step_phases.specs.Sweeps.{IsSwept}
use Rattle.step_phases.specs.Stores.{Store}
use Rattle.swept_slots.specs.Copies.{copies}
use Rattle.sweep_visits.specs.Plan.{SweepPlan}
use Rattle.tree_automaton.specs.TreeLists.{TreeLists}
use Rattle.tree_automaton.specs.AtRest.{HasLists}
use Rattle.boundary_streams.specs.Trees.{HoldsVertices}
use Rattle.mean_values.specs.NextSums.{TellsMerges}
use Rattle.tree_sums.specs.Trees.{shared_by, shared_cell}
use Rattle.tree_sums.specs.Totals.{ListsSharedMerging, corrected_total}
use Rattle.tree_sums.specs.Changes.{MeanStep, AddedChanges}
use Rattle.peano_records.specs.declared.partials.Partial.{Partial}
use Rattle.shared_sums.specs.Totals.{merging_in, corrected_in}
use Rattle.shared_sums.specs.Adding.{partials_in, CanAdd, TakesMeans}
use Rattle.step_sweeps.specs.Sweeps.{ArePartialsOf}

-- the partials of all trees over a grid, for the new states of its leaves and its merging cells
pub record AreAllPartials (k : Cuts) (g : Spacetree) (marks : CellKey → Mark)
    (merging : CellKey → Bool) (states : States) (all : List (List Partial)) : Type 0 where
  pub grid : IsCutGrid k g
  pub tells : TellsMerges g marks merging
  pub count : length all ≡ k.trees
  pub each : (t : ℕ) → t < k.trees → ArePartialsOf k g merging states t (partials_in all t)

-- they name each shared cell that merges, once
abbrev pub PartialsListMerging : Type 0
PartialsListMerging = (k : Cuts) (g : Spacetree) (marks : CellKey → Mark)
    (merging : CellKey → Bool) (states : States) (all : List (List Partial))
    → AreAllPartials k g marks merging states all
    → ListsSharedMerging merging (shared_by k) (merging_in all)

-- and with these cells their totals are the corrected totals of shared cells
abbrev pub PartialsMakeTotals : Type 0
PartialsMakeTotals = (k : Cuts) (g : Spacetree) (marks : CellKey → Mark)
    (merging : CellKey → Bool) (states : States) (all : List (List Partial))
    → AreAllPartials k g marks merging states all → (i : ℕ) → i < 4 → (c : CellKey)
    → shared_cell k g c ≡ true
    → corrected_in k.depth k.dim all i c
    ≡ corrected_total k g merging (component_of states i) (merging_in all) c

-- where all values are numbers of 64 bits they can be added
abbrev pub PartialsCanBeAdded : Type 0
PartialsCanBeAdded = (k : Cuts) (g : Spacetree) (marks : CellKey → Mark)
    (merging : CellKey → Bool) (states : States) (all : List (List Partial))
    → AreAllPartials k g marks merging states all
    → ((c : CellKey) (i : ℕ) → FitsSigned w64 (component_of states i c))
    → (t : ℕ) → CanAdd k all t

-- the slots of the refined cells of a tree's own have new states of so many values
abbrev pub HaveValues : Cuts → Spacetree → ℕ → ℕ → Store → Type 0
HaveValues k g parts t store = (v : VertexKey) (n : ℕ) (c : CellKey) → HasVertex k g t v
    → n < corners k.dim → adjacent_of k.dim v n ≡ Some c → Owns k t c → is_refined g c ≡ true
    → count_of (slot_at (store v) n).next ≡ parts

-- then each tree takes the floors of its corrected totals
abbrev pub SumsAreAdded : Type 0
SumsAreAdded = (k : Cuts) (s : MeanStep) (marks : CellKey → Mark) (all : List (List Partial))
    (t : ℕ) (before after : TreeLists)
    → AreAllPartials k s.old marks s.merging s.states all → s.cells ≡ merging_in all
    → HoldsVertices k s.old t before
    → HaveValues k s.old s.parts t (copies before.lanes.input)
    → TakesMeans k all before after
    → IsSwept k s.old t (AddedChanges k s t) (copies before.lanes.input) (copies after.lanes.input)

-- and keeps what a sweep reads
abbrev pub SumsKeepLists : Type 0
SumsKeepLists = (k : Cuts) (all : List (List Partial)) (p : SweepPlan) (number : ℕ)
    (old new : TreeLists) → TakesMeans k all old new → HasLists p number old → HasLists p number new
