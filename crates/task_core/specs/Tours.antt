-- How the stops of a tree are found, cell by cell and corner by corner.
use Rattle.std.specs.Prelude.{◌≡◌, ◌⊎◌, ℕ, ◌<◌, true, false, List, ◌++◌, IsSomeAnd}
use Rattle.peano_keys.specs.declared.cell.CellKey.{CellKey}
use Rattle.peano_keys.specs.declared.vertex.VertexKey.{VertexKey}
use Rattle.peano_keys.specs.Vertex.{adjacent_of}
use Rattle.peano_keys.specs.Grid.{Spacetree, has_cell, is_refined, IsGrid}
use Rattle.peano_keys.specs.Field.{States}
use Rattle.curve_cuts.specs.Cuts.{Cuts, IsCutGrid}
use Rattle.curve_cuts.specs.Keys.{cuts_of}
use Rattle.spacetree.specs.Fields.{IsFieldOn}
use Rattle.sweep_visits.specs.Plan.{SweepPlan}
use Rattle.sweep_visits.specs.Visits.{Visit}
use Rattle.task_core.specs.declared.stop.Stop.{Stop}
use Rattle.task_core.specs.declared.visits.Tour.{Tour}
use Rattle.task_core.specs.Opening.{Each}
use Rattle.task_core.specs.Work.{IsServedStop}
use Rattle.task_core.specs.Visits.{plan_of, AreStops}

-- the trees of a tour, and the sweep that it follows
abbrev pub cuts_in : Tour → Cuts
cuts_in r = cuts_of r.keys.now

-- the sweep that a tour follows, as a plan
abbrev pub plan_in : Tour → SweepPlan
plan_in r = plan_of (cuts_in r) r.grid.now r.tree r.dir

-- a tour of one of the trees of a grid
pub record IsTour (r : Tour) : Type 0 where
  pub grid : IsCutGrid (cuts_in r) r.grid.now
  pub tree : r.tree < (cuts_in r).trees

-- in a field whose states have `n` values, all of these are leaves for a solver of as many
abbrev pub ServedIn : Spacetree → States → List Stop → Type 0
ServedIn g f ss = (n : ℕ) → IsFieldOn n g f → Each (IsServedStop n) ss

-- stops were added that stand for visits
pub record Adds (k : Cuts) (g : Spacetree) (f : States) (t : ℕ) (vs : List Visit)
    (old new : List Stop) : Type 0 where
  pub stops : List Stop
  pub are : AreStops k g f t vs stops
  pub served : ServedIn g f stops
  pub added : new ≡ old ++ stops

-- a tour went on: to its stops those were added that stand for some visits of its tree
abbrev pub Tours : Tour → List Visit → List Stop → List Stop → Type 0
Tours r vs old new = Adds (cuts_in r) r.grid.now r.field.now r.tree vs old new

-- a position round a vertex shows a border: the grid has no cell there, or a refined one
abbrev pub IsBroken : Spacetree → VertexKey → ℕ → Type 0
IsBroken g v n =
    IsSomeAnd (adjacent_of g.dim v n) (λ q. (has_cell g q ≡ false) ⊎ (is_refined g q ≡ true))
