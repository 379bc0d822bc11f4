-- Laws of what sweeps leave in slots.
use Rattle.std.specs.Prelude.{◌≡◌, ℕ, ◌<◌, Bool, true, Some, map}
use Rattle.peano_keys.specs.declared.cell.CellKey.{CellKey}
use Rattle.peano_keys.specs.declared.vertex.VertexKey.{VertexKey}
use Rattle.peano_keys.specs.Grid.{Spacetree}
use Rattle.peano_keys.specs.Field.{States, value_of}
use Rattle.peano_curve.specs.declared.order.Direction.{Direction}
use Rattle.peano_records.specs.declared.slot.Slot.{Slot}
use Rattle.peano_records.specs.declared.view.CellView.{CellView}
use Rattle.curve_cuts.specs.Cuts.{Cuts, HasVertex, IsCutGrid, range_of}
use Rattle.vertex_stacks.specs.declared.kind.Kind.{Kind}
use Rattle.vertex_stacks.specs.Notes.{Note}
use Rattle.sweep_visits.specs.Moves.{moves_of, taken_by}
use Rattle.tree_automaton.specs.TreeLists.{TreeLists}
use Rattle.tree_automaton.specs.Sweep.{TreeSweep, IsTreeSweep}
use Rattle.tree_automaton.specs.Story.{with_calls}
use Rattle.tree_automaton.specs.Sweeps.{SweepGives, begun, key_of}
use Rattle.tree_automaton.specs.AtRest.{HasLists, StandsFor, StandsBefore, plain_plan}
use Rattle.step_phases.specs.Stores.{TreeSays}
use Rattle.step_phases.specs.Change.{Change}
use Rattle.step_phases.specs.Phases.{AtRest, AfterSecond}
use Rattle.step_phases.specs.Sweeps.{IsSwept}
use Rattle.swept_slots.specs.Copies.{copies, IsCopy}
use Rattle.swept_slots.specs.Changes.{EachVisitChanges, IfHeld, IsSweepOf, IsSweptVertex}

-- a sweep of a tree, from one store to another
pub record IsSweptTree {A : Type 0} (entered left : A → CellView → CellView → A → Type 0) (k : Cuts)
    (t : ℕ) (p : TreeSweep) (step : ℕ) (kind : Kind) (before after : TreeLists) (x y : A)
    (note : Note) : Type 0 where
  pub sweep : IsTreeSweep p
  pub tree : IsSweepOf k t p.plan
  pub keys : map key_of before.lanes.input ≡ taken_by (moves_of p.plan)
  pub gives : SweepGives entered left p step kind before.lanes.input before.lanes.tale after x y
      note

-- Where the two calls at each cell change the slots of that cell alone, as a test allows, the sweep changes so, once, the slots of each cell that the tree holds, and no other slot.
abbrev pub HeldCellsChange : {A : Type 0} → (A → CellView → CellView → A → Type 0)
    → (A → CellView → CellView → A → Type 0) → Type 0
HeldCellsChange entered left = (k : Cuts) (t : ℕ) (p : TreeSweep) (step : ℕ) (kind : Kind)
    (before after : TreeLists) (x y : _) (note : Note) (test : CellKey → Slot → Slot → Bool)
    → (tree : IsSweptTree entered left k t p step kind before after x y note)
    → EachVisitChanges (with_calls (begun p before.lanes.input before.lanes.tale) tree.gives.calls)
    (λ c s u. test c s u ≡ true)
    → (v : VertexKey) → HasVertex k p.plan.new t v
    → IsSweptVertex k p.plan
    (IfHeld k t (λ c s u. test c s u ≡ true)) before.lanes.input after.lanes.input v

-- In a sweep that changes no grid this leads from the copies before it to those after it.
abbrev pub PlainCellsChange : {A : Type 0} → (A → CellView → CellView → A → Type 0)
    → (A → CellView → CellView → A → Type 0) → Type 0
PlainCellsChange entered left = (k : Cuts) (t : ℕ) (p : TreeSweep) (step : ℕ) (kind : Kind)
    (before after : TreeLists) (x y : _) (note : Note) (test : CellKey → Slot → Slot → Bool)
    → (tree : IsSweptTree entered left k t p step kind before after x y note)
    → p.plan.old ≡ Some p.plan.new
    → EachVisitChanges (with_calls (begun p before.lanes.input before.lanes.tale) tree.gives.calls)
    (λ c s u. test c s u ≡ true)
    → IsSwept k p.plan.new t (IfHeld k t (λ c s u. test c s u ≡ true)) (copies before.lanes.input)
    (copies after.lanes.input)

-- Each vertex that a tree has in a grid has its copy in a store that has the lists of the grid,
abbrev pub StoreHasCopies : Type 0
StoreHasCopies = (k : Cuts) (g : Spacetree) (t number : ℕ) (dir : Direction) (s : TreeLists)
    → IsCutGrid k g → HasLists (plain_plan k.depth (range_of k t) dir g) number s
    → (v : VertexKey) → HasVertex k g t v → IsCopy s.lanes.input v

-- so where the store stands for the grid and a field, its copies say so,
abbrev pub RestIsSaid : Type 0
RestIsSaid = (k : Cuts) (g : Spacetree) (f : States) (t number : ℕ) (dir : Direction)
    (s : TreeLists)
    → IsCutGrid k g → StandsFor k.depth (range_of k t) number dir g f s
    → TreeSays k g t (AtRest g (value_of g f)) (copies s.lanes.input)

-- and where they say so, it stands for them;
abbrev pub SaidIsRest : Type 0
SaidIsRest = (k : Cuts) (g : Spacetree) (f : States) (t number : ℕ) (dir : Direction)
    (s : TreeLists)
    → IsCutGrid k g → t < k.trees → HasLists (plain_plan k.depth (range_of k t) dir g) number s
    → TreeSays k g t (AtRest g (value_of g f)) (copies s.lanes.input)
    → StandsFor k.depth (range_of k t) number dir g f s

-- where they say what is so after the second exchange, it stands before an adaptation.
abbrev pub SaidIsBefore : Type 0
SaidIsBefore = (k : Cuts) (w : Change) (t number : ℕ) (dir : Direction) (s : TreeLists)
    → IsCutGrid k w.old → t < k.trees
    → HasLists (plain_plan k.depth (range_of k t) dir w.old) number s
    → TreeSays k w.old t (AfterSecond w) (copies s.lanes.input)
    → StandsBefore k.depth (range_of k t) number dir w.old w.new s
