-- What an adaptation sweep makes of a store that stands before it.
use Rattle.std.specs.Prelude.{ℕ, ◌<◌, Some}
use Rattle.peano_curve.specs.declared.order.Direction.{Direction}
use Rattle.peano_curve.specs.declared.range.Range.{Range}
use Rattle.peano_keys.specs.Grid.{Spacetree}
use Rattle.hanging_nodes.specs.Views.{AreOldAndNew}
use Rattle.curve_cuts.specs.Cuts.{Cuts, IsCutGrid, range_of}
use Rattle.vertex_stacks.specs.declared.kind.Kind.TheVariants as kind
use Rattle.vertex_stacks.specs.Notes.{Note}
use Rattle.sweep_visits.specs.Plan.{SweepPlan}
use Rattle.sweep_visits.specs.Runs.{turned_round}
use Rattle.tree_automaton.specs.TreeLists.{TreeLists}
use Rattle.tree_automaton.specs.AtRest.{HasLists, StandsBefore, plain_plan}
use Rattle.step_phases.specs.Change.{Change}
use Rattle.step_phases.specs.Sweeps.{IsAdapted}
use Rattle.swept_slots.specs.Copies.{copies}
use Rattle.tree_automaton.specs.Noted.{IsNoted}

-- a store of one of the trees of some cuts, which stands before the adaptation that a change makes
pub record CanBeAdapted (k : Cuts) (w : Change) (s : TreeLists) : Type 0 where
  pub old_grid : IsCutGrid k w.old
  pub new_grid : IsCutGrid k w.new
  pub step : AreOldAndNew k.depth k.dim w.old w.new
  pub tree : s.tree < k.trees
  pub before : StandsBefore k.depth (range_of k s.tree) s.tree s.dir w.old w.new s

-- the plan of a sweep that leads from one grid to another
abbrev pub adapting_plan : ℕ → Range → Direction → Spacetree → Spacetree → SweepPlan
adapting_plan depth range dir old new =
    record { depth = depth; range = range; dir = dir; old = Some old; new = new }

-- An adapted store has the lists of a store at rest of the new grid, to be read the other way, and its copies of the vertices are adapted.
pub record IsAdaptedTree (k : Cuts) (w : Change) (step : ℕ) (s t : TreeLists)
    (note : Note) : Type 0 where
  pub lists : HasLists (plain_plan k.depth (range_of k s.tree) (turned_round s.dir) w.new) s.tree t
  pub slots : IsAdapted k w s.tree (copies s.lanes.input) (copies t.lanes.input)
  pub noted : IsNoted
      (adapting_plan k.depth
      (range_of k s.tree) s.dir w.old w.new) kind.Adapt step s.tree s.lanes.tale t.lanes.tale
      note
