-- What the decision on a corner knows and answers.
use Rattle.std.specs.Prelude.{◌≡◌, ◌*◌, ◌<◌, true, false, Option, Some, None}
use Rattle.peano_keys.specs.declared.dim.Dim.{Dim}
use Rattle.peano_keys.specs.declared.cell.CellKey.{CellKey}
use Rattle.peano_keys.specs.declared.vertex.VertexKey.{VertexKey}
use Rattle.peano_keys.specs.Dim.{axes}
use Rattle.peano_records.specs.declared.view.CellView.{CellView}
use Rattle.sweep_visits.specs.Plan.{SweepPlan, dim_of, is_visited, is_kept, is_stored, is_stored_in}
use Rattle.sweep_visits.specs.Runs.{next_in_run, previous_in_run, lane_between}
use Rattle.tree_automaton.specs.declared.decide.Course.{Course}
use Rattle.tree_automaton.specs.declared.decide.Entry.{Entry}
use Rattle.tree_automaton.specs.declared.decide.Entry.TheVariants as entry
use Rattle.tree_automaton.specs.declared.decide.Exit.{Exit}
use Rattle.tree_automaton.specs.declared.decide.Exit.TheVariants as exit
use Rattle.tree_automaton.specs.Sweep.{TreeSweep, IsTreeSweep}
use Rattle.tree_automaton.specs.Views.{ParentFits}

-- a course is that of a sweep
pub record IsCourse (p : TreeSweep) (course : Course) : Type 0 where
  pub dim : dim_of p.plan ≡ course.dim
  pub depth : p.plan.depth ≡ course.depth
  pub range : p.plan.range ≡ course.range
  pub dir : p.plan.dir ≡ course.dir
  pub serves : p.serves ≡ course.serves

-- what decides: a visited cell, and its parent's view
pub record Decides (p : TreeSweep) (course : Course) (parent : Option CellView)
    (c : CellKey) : Type 0 where
  pub sweep : IsTreeSweep p
  pub is : IsCourse p course
  pub above : ParentFits p c parent
  pub there : is_visited p.plan c ≡ true

-- where a corner comes from: the lane from the cell before it in the run; at the first cell the input, where the old grid stores it, or nowhere, where it is made; a corner that is not kept hangs
abbrev pub EntryIs : SweepPlan → CellKey → VertexKey → Entry → Type 0
EntryIs p c v (entry.Lane k) = (is_kept p v ≡ true)
    × ((q : CellKey) × (previous_in_run p v c ≡ Some q) × (k ≡ lane_between v c q))
EntryIs p c v entry.Input = (is_kept p v ≡ true) × (previous_in_run p v c ≡ None)
    × (is_stored_in p.old v ≡ true)
EntryIs p c v entry.Made = (is_kept p v ≡ true) × (previous_in_run p v c ≡ None)
    × (is_stored_in p.old v ≡ false)
EntryIs p c v entry.Hanging = is_kept p v ≡ false

-- where a kept corner goes: the lane to the next cell of the run; at the last cell the output, where the new grid stores it, or nowhere, where it is given up
abbrev pub ExitIs : SweepPlan → CellKey → VertexKey → Exit → Type 0
ExitIs p c v (exit.Lane k) = (q : CellKey) × (next_in_run p v c ≡ Some q) × (k ≡ lane_between v c q)
ExitIs p c v exit.Output = (next_in_run p v c ≡ None) × (is_stored p.new v ≡ true)
ExitIs p c v exit.GivenUp = (next_in_run p v c ≡ None) × (is_stored p.new v ≡ false)

-- a lane is one of the dimension's
abbrev pub IsLaneIn : Dim → Entry → Type 0
IsLaneIn dim (entry.Lane k) = k < 2 * axes dim
IsLaneIn dim entry.Input = Unit {0}
IsLaneIn dim entry.Made = Unit {0}
IsLaneIn dim entry.Hanging = Unit {0}

-- a corner that goes to a lane goes to one of the lanes of its dimension
abbrev pub IsLaneOut : Dim → Exit → Type 0
IsLaneOut dim (exit.Lane k) = k < 2 * axes dim
IsLaneOut dim exit.Output = Unit {0}
IsLaneOut dim exit.GivenUp = Unit {0}
