-- What a raising sweep makes of an empty store.
use Rattle.std.specs.Prelude.{◌≡◌, ℕ, ◌<◌}
use Rattle.peano_keys.specs.Grid.{Spacetree}
use Rattle.peano_keys.specs.Field.{States, value_of}
use Rattle.peano_curve.specs.declared.order.Direction.TheVariants.{Forward, Backward}
use Rattle.peano_records.specs.declared.view.CellView.{CellView}
use Rattle.curve_cuts.specs.Cuts.{Cuts, IsCutGrid, range_of}
use Rattle.vertex_stacks.specs.declared.kind.Kind.TheVariants as kind
use Rattle.vertex_stacks.specs.Notes.{Note}
use Rattle.tree_automaton.specs.TreeLists.{TreeLists}
use Rattle.tree_automaton.specs.AtRest.{HasLists, IsEmpty, plain_plan, raising_plan}
use Rattle.step_phases.specs.Sweeps.{IsRaised}
use Rattle.swept_slots.specs.Copies.{copies}
use Rattle.adapt_sweep.specs.declared.raise.Raise.{Raise}
use Rattle.adapt_sweep.specs.Raises.{source_of, IsRaisedView}
use Rattle.tree_automaton.specs.Noted.{IsNoted}

-- what the calls of the visitor do
abbrev pub Raises : Raise → CellView → CellView → Raise → Type 0
Raises r v w s = (s ≡ r) × IsRaisedView (source_of r) v w

-- a leave of the raising sweep changes nothing
abbrev pub LeavesAsIs : Raise → CellView → CellView → Raise → Type 0
LeavesAsIs r v w s = (s ≡ r) × (w ≡ v)

-- an empty store of one of the trees of some cuts, and a grid for these
pub record CanBeRaised (k : Cuts) (g : Spacetree) (s : TreeLists) : Type 0 where
  pub grid : IsCutGrid k g
  pub tree : s.tree < k.trees
  pub empty : IsEmpty k.depth (range_of k s.tree) s.tree g.dim s

-- What a raising sweep gives, from the store before it: the lists of a store at rest, to be read backward; the tree's copies are new ones that
-- have the status of each cell, whoever owns it, and the value of each that the tree owns; and the note.
pub record IsRaisedTree (k : Cuts) (g : Spacetree) (f : States) (step : ℕ) (s t : TreeLists)
    (note : Note) : Type 0 where
  pub lists : HasLists (plain_plan k.depth (range_of k s.tree) Backward g) s.tree t
  pub slots : IsRaised k g (value_of g f) s.tree (copies t.lanes.input)
  pub noted : IsNoted
      (raising_plan k.depth
      (range_of k s.tree) Forward g) kind.Raise step s.tree s.lanes.tale t.lanes.tale note
