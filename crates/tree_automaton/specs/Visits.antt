-- What the visit of a cell asks of a store, and what it gives.
use Rattle.std.specs.Prelude.{◌≡◌, ℕ, ◌+◌, ◌<◌, ◌≤◌, Bool, true, false, List, Option, Some, None, length, [], ◌∷◌, ◌++◌}
use Rattle.peano_keys.specs.declared.cell.CellKey.{CellKey}
use Rattle.peano_keys.specs.declared.vertex.VertexKey.{VertexKey}
use Rattle.peano_keys.specs.Dim.{corners}
use Rattle.peano_keys.specs.Vertex.{corner_of}
use Rattle.peano_records.specs.declared.stored.Stored.{Stored}
use Rattle.peano_records.specs.declared.view.CellView.{CellView}
use Rattle.peano_records.specs.declared.view.Corner.{Corner}
use Rattle.peano_records.specs.declared.view.Corner.TheVariants.{Vertex, Hanging, Beyond}
use Rattle.peano_records.specs.Slots.{fresh}
use Rattle.peano_records.specs.Tells.{corner_at}
use Rattle.vertex_stacks.specs.declared.kind.Kind.{Kind}
use Rattle.sweep_visits.specs.Plan.{dim_of, is_cell_in, is_kept, is_stored_in}
use Rattle.sweep_visits.specs.Visits.{Visit, enter, leave}
use Rattle.sweep_visits.specs.Runs.{previous_in_run}
use Rattle.sweep_visits.specs.Moves.{passing}
use Rattle.tree_automaton.specs.declared.kinds.Serves.{Serves}
use Rattle.tree_automaton.specs.declared.kinds.Serves.TheVariants.{Raising, Adapting, Plain}
use Rattle.tree_automaton.specs.TreeLists.{TreeLists, page_count}
use Rattle.tree_automaton.specs.Sweep.{TreeSweep, IsTreeSweep, flag_in, served_by}
use Rattle.tree_automaton.specs.Story.{Call, Story, IsOnLane, IsOfInput, with_calls}
use Rattle.tree_automaton.specs.Moments.{IsDuring, IsStoreOf}
use Rattle.tree_automaton.specs.Views.{KnowsField, ViewFits, ParentFits}

-- a store is of a sweep, and the parent's view fits it
pub record IsBefore (p : TreeSweep) (parent : Option CellView) (c : CellKey) (kind : Kind)
    (s : TreeLists) : Type 0 where
  pub served : served_by kind ≡ p.serves
  pub sweep : IsTreeSweep p
  pub of : IsStoreOf p s
  pub above : ParentFits p c parent

-- what `enter` asks: the next visit of the sweep is the enter of this cell
pub record EnterAsks (m : Story) (made more : List Visit) (parent : Option CellView) (c : CellKey)
    (kind : Kind) (s : TreeLists) : Type 0 where
  pub before : IsBefore m.sweep parent c kind s
  pub during : IsDuring m made (enter c ∷ more) s

-- the record of a kept corner as its cell is entered: as the cell before in its run left it; at the first cell as it was in the input, or new
abbrev pub ComesFrom : Story → CellKey → VertexKey → Option CellKey → Bool → Stored → Type 0
ComesFrom m c w (Some q) stored s = IsOnLane m (passing w c) s
ComesFrom m c w None true s = IsOfInput m w s
ComesFrom m c w None false s = s ≡ fresh (dim_of m.sweep.plan) w

-- a corner as it was taken: a vertex exactly where it is kept
abbrev pub CornerTaken : Story → CellKey → VertexKey → Corner → Type 0
CornerTaken m c w (Vertex s) = (is_kept m.sweep.plan w ≡ true)
    × ComesFrom m c w (previous_in_run m.sweep.plan w c) (is_stored_in m.sweep.plan.old w) s
CornerTaken m c w (Hanging k) = (is_kept m.sweep.plan w ≡ false) × (k ≡ w)
CornerTaken m c w Beyond = ⊥

-- `will` as `enter` gives it
abbrev pub FirstWill : Serves → TreeSweep → CellKey → Option Bool → Type 0
FirstWill Raising p c will = will ≡ None
FirstWill Adapting p c will = will ≡ None
FirstWill Plain p c will = will ≡ flag_in (Some p.plan.new) c

-- `will` from `was`
abbrev pub will_first : Serves → Option Bool → Option Bool
will_first Raising was = None
will_first Adapting was = None
will_first Plain was = was

-- the view that `enter` gives
pub record ViewTaken (m : Story) (c : CellKey) (v : CellView) : Type 0 where
  pub key : v.key ≡ c
  pub was : v.was ≡ flag_in m.sweep.plan.old c
  pub will : FirstWill m.sweep.serves m.sweep c v.will
  pub eight : length v.corners ≡ 8
  pub each : (n : ℕ) → n < corners (dim_of m.sweep.plan)
      → CornerTaken m c (corner_of c n) (corner_at v n)
  pub beyond : (n : ℕ) → corners (dim_of m.sweep.plan) ≤ n → corner_at v n ≡ Beyond
  pub field : KnowsField m.sweep.serves m.sweep c v
  pub task : is_cell_in m.sweep.plan.old c ≡ true → v.task ≡ m.sweep.task c

-- what `enter` gives: the store at the next moment
pub record EnterGives (m : Story) (made more : List Visit) (c : CellKey) (t : TreeLists)
    (v : CellView) : Type 0 where
  pub during : IsDuring m (made ++ enter c ∷ []) more t
  pub view : ViewTaken m c v

-- what `leave` asks: the next visit of the sweep is the leave of this cell, and the view is the cell's
pub record LeaveAsks (m : Story) (made more : List Visit) (parent : Option CellView) (c : CellKey)
    (view : CellView) (kind : Kind) (s : TreeLists) : Type 0 where
  pub before : IsBefore m.sweep parent c kind s
  pub during : IsDuring m made (leave c ∷ more) s
  pub fits : ViewFits m.sweep c view

-- the call at a leave that ends with a view
abbrev pub left_with : CellKey → CellView → CellView → Call
left_with c given made = record { visit = leave c; given = given; made = made }

-- what `leave` gives: the store at the next moment; the view's vertices are those of the call at this leave
abbrev pub LeaveGives : Story → List Visit → List Visit → CellKey → CellView → TreeLists → Type 0
LeaveGives m made more c view t = (given : CellView)
    → IsDuring (with_calls m (left_with c given view ∷ [])) (made ++ leave c ∷ []) more t

-- how many corners are vertices
abbrev pub vertex_part : Corner → ℕ
vertex_part (Vertex s) = 1
vertex_part (Hanging k) = 0
vertex_part Beyond = 0

-- how many of some corners are vertices
abbrev pub vertices_in : List Corner → ℕ
vertices_in [] = 0
vertices_in (k ∷ ks) = vertex_part k + vertices_in ks

-- a store stays of its tree, keeps its tale and its numbers at rest, and has no fewer pages
pub record IsSameTree (s t : TreeLists) : Type 0 where
  pub dim : t.lanes.dim ≡ s.lanes.dim
  pub depth : t.depth ≡ s.depth
  pub range : t.range ≡ s.range
  pub dir : t.dir ≡ s.dir
  pub tree : t.tree ≡ s.tree
  pub tale : t.lanes.tale ≡ s.lanes.tale
  pub stored : t.stored ≡ s.stored
  pub leaves : t.leaves ≡ s.leaves
  pub pages : page_count s.lanes ≤ page_count t.lanes
