-- What a sweep leaves in the slots of a tree's cells, by what its calls do at one cell.
use Rattle.std.specs.Prelude.{◌≡◌, ◌≢◌, ℕ, ◌<◌, ◌≤◌, List, Some}
use Rattle.peano_keys.specs.declared.cell.CellKey.{CellKey}
use Rattle.peano_keys.specs.declared.vertex.VertexKey.{VertexKey}
use Rattle.peano_keys.specs.declared.dim.Dim.{Dim}
use Rattle.peano_keys.specs.Dim.{corners}
use Rattle.peano_keys.specs.Vertex.{adjacent_of}
use Rattle.peano_records.specs.declared.slot.Slot.{Slot}
use Rattle.peano_records.specs.declared.stored.Stored.{Stored}
use Rattle.peano_records.specs.Slots.{VertexRecord, slot_at, fresh}
use Rattle.hanging_nodes.specs.Views.{IsStoredBefore}
use Rattle.curve_cuts.specs.Cuts.{Cuts, Held, range_of}
use Rattle.sweep_visits.specs.Plan.{SweepPlan, dim_of}
use Rattle.tree_automaton.specs.Story.{Story}
use Rattle.tree_automaton.specs.Journeys.{CellChanged}
use Rattle.step_phases.specs.Sweeps.{IsSweptRecord}
use Rattle.swept_slots.specs.Copies.{copies}

-- of a record the slot of one cell was changed as asked, and no other slot
pub record ChangesOneCell (dim : Dim) (c : CellKey) (E : Slot → Slot → Type 0)
    (s t : VertexRecord) : Type 0 where
  pub own : (n : ℕ) → n < corners dim → adjacent_of dim s.key n ≡ Some c
      → E (slot_at s n) (slot_at t n)
  pub others : (n : ℕ) → n < corners dim → adjacent_of dim s.key n ≢ Some c
      → slot_at t n ≡ slot_at s n
  pub unused : (n : ℕ) → corners dim ≤ n → n < 8 → slot_at t n ≡ slot_at s n

-- so do the two calls at each cell of a sweep, of each vertex round it
abbrev pub EachVisitChanges : Story → (CellKey → Slot → Slot → Type 0) → Type 0
EachVisitChanges m E = (c : CellKey) (n : ℕ) (s t : Stored) → n < corners (dim_of m.sweep.plan) →
    CellChanged m c n s t → ChangesOneCell (dim_of m.sweep.plan) c (E c) s t

-- the slot of a cell that the tree holds is changed as asked, and that of any other cell stays
pub record IfHeld (k : Cuts) (t : ℕ) (E : CellKey → Slot → Slot → Type 0) (c : CellKey)
    (old new : Slot) : Type 0 where
  pub held : Held k t c → E c old new
  pub away : ¬ Held k t c → new ≡ old

-- a sweep over one of the trees of some cuts
pub record IsSweepOf (k : Cuts) (t : ℕ) (p : SweepPlan) : Type 0 where
  pub dim : dim_of p ≡ k.dim
  pub depth : p.depth ≡ k.depth
  pub range : p.range ≡ range_of k t

-- a vertex after a sweep: made from its record of the input where the old grid stores it, else from a new one
pub record IsSweptVertex (k : Cuts) (p : SweepPlan) (E : CellKey → Slot → Slot → Type 0)
    (start end : List Stored) (v : VertexKey) : Type 0 where
  pub kept : IsStoredBefore p.old v → IsSweptRecord k E v (copies start v) (copies end v)
  pub made : ¬ IsStoredBefore p.old v → IsSweptRecord k E v (fresh k.dim v) (copies end v)
