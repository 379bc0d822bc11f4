-- A sweep of a tree: its plan over keys, and what the automaton adds to it.
use Rattle.std.specs.Prelude.{◌≡◌, ℕ, ◌≤◌, ◌-◌, ◌&&◌, Bool, true, false, not, nat_le, nat_lt, List, Option, Some, None, if◌then◌else◌}
use Rattle.peano_keys.specs.declared.cell.CellKey.{CellKey}
use Rattle.peano_keys.specs.Grid.{Spacetree, IsGrid, is_refined}
use Rattle.peano_keys.specs.Field.{States}
use Rattle.peano_curve.specs.Order.{centre_of}
use Rattle.peano_records.specs.declared.view.CellRecord.{CellRecord}
use Rattle.hanging_nodes.specs.Views.{AreGrids}
use Rattle.vertex_stacks.specs.declared.kind.Kind.{Kind}
use Rattle.vertex_stacks.specs.declared.kind.Kind.TheVariants as kind
use Rattle.sweep_visits.specs.Plan.{SweepPlan, dim_of, is_cell_in, is_refined_in, is_visited, is_opened}
use Rattle.sweep_visits.specs.Visits.{Visit, visits_at}
use Rattle.tree_automaton.specs.declared.kinds.Serves.{Serves}
use Rattle.tree_automaton.specs.declared.kinds.Serves.TheVariants.{Raising, Adapting, Plain}

-- which kinds it is of, its plan, the tree's number, the field, where there is one, and the task of each cell of the old grid
pub record TreeSweep : Type 0 where
  pub serves : Serves
  pub plan : SweepPlan
  pub tree : ℕ
  pub field : States
  pub task : CellKey → ℕ

-- which visitors serve a kind
abbrev pub served_by : Kind → Serves
served_by kind.Raise = Raising
served_by kind.Show = Plain
served_by kind.Primary = Plain
served_by kind.Secondary = Plain
served_by kind.Recut = Plain
served_by kind.Adapt = Adapting

-- whether slots tell of the new grid besides the old one
abbrev pub tells_new : Serves → Bool
tells_new Raising = true
tells_new Adapting = true
tells_new Plain = false

-- the grids are those of the kind: no old grid, an old and a new one, or one grid
abbrev pub GridsServe : Serves → SweepPlan → Type 0
GridsServe Raising p = p.old ≡ None
GridsServe Adapting p = (t : Spacetree) × (p.old ≡ Some t)
GridsServe Plain p = p.old ≡ Some p.new

-- both grids are of the depth, and the new one is the old one or made from it by marks
pub record IsTreeSweep (p : TreeSweep) : Type 0 where
  pub deep : p.plan.depth ≤ 12
  pub grids : AreGrids p.plan.depth (dim_of p.plan) p.plan.old p.plan.new (tells_new p.serves)
  pub new_grid : IsGrid p.plan.depth p.plan.new
  pub serve : GridsServe p.serves p.plan

-- whether a cell is refined, none where it is no cell of the grid
abbrev pub flag_in : Option Spacetree → CellKey → Option Bool
flag_in t c = if is_cell_in t c then Some (is_refined_in t c) else None

-- what the cell stream has of a cell of the old grid
abbrev pub record_in : TreeSweep → CellKey → CellRecord
record_in p c = record { refined = is_refined_in p.plan.old c; task = p.task c }

-- the tree owns a cell whose centre lies in its range
abbrev pub is_owned : SweepPlan → CellKey → Bool
is_owned p c = nat_le p.range.lo (centre_of (dim_of p) c p.depth)
    && nat_lt (centre_of (dim_of p) c p.depth) p.range.hi

-- a leaf of the new grid that the tree owns
abbrev pub is_owned_leaf : SweepPlan → CellKey → Bool
is_owned_leaf p c = not (is_refined p.new c) && is_owned p c

-- the visits of a cell and of all below it
unfoldable pub cell_visits : SweepPlan → CellKey → List Visit
cell_visits p c = visits_at (dim_of p) p.dir (is_visited p) (is_opened p) (p.depth - c.level) c
