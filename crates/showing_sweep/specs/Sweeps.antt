-- What a sweep that gathers rows makes of a tree's store, and what it shows.
use Rattle.std.specs.Prelude.{◌≡◌, ℕ}
use Rattle.peano_keys.specs.Grid.{Spacetree}
use Rattle.peano_keys.specs.Field.{States}
use Rattle.peano_curve.specs.declared.order.Direction.{Direction}
use Rattle.curve_cuts.specs.Cuts.{Cuts, range_of}
use Rattle.vertex_stacks.specs.declared.kind.Kind.{Kind}
use Rattle.vertex_stacks.specs.declared.kind.Kind.TheVariants.{Show, Recut}
use Rattle.vertex_stacks.specs.Notes.{Note}
use Rattle.sweep_visits.specs.Runs.{turned_round}
use Rattle.tree_automaton.specs.Noted.{IsNoted}
use Rattle.tree_automaton.specs.TreeLists.{TreeLists}
use Rattle.tree_automaton.specs.AtRest.{plain_plan}
use Rattle.step_sweeps.specs.Sweeps.{CanStep, StandsOn}
use Rattle.showing_sweep.specs.declared.shown.Shown.{Shown}
use Rattle.showing_sweep.specs.Counts.{ListsAll}
use Rattle.showing_sweep.specs.Shown.{IsRowOf, IsTraffic}

-- a store of one of the trees of some cuts that stands for some grid and field
abbrev pub CanShow : Cuts → TreeLists → Type 0
CanShow k s = (parts : ℕ) × CanStep k parts s

-- a kind of sweep that gathers rows: to show them, or before the trees are cut anew
abbrev pub IsGathering : Kind → Type 0
IsGathering Show = Unit {0}
IsGathering Recut = Unit {0}
IsGathering _ = ⊥

-- the note of such a sweep has what its tree's traffic tells
pub record NoteTells (note : Note) (stored pushes : ℕ) : Type 0 where
  pub taken : note.taken ≡ stored
  pub put : note.put ≡ stored
  pub pushed : note.pushed ≡ pushes

-- A sweep that gathers rows leaves a store that stands for the same grid and field, to be read the other way. The rows are those of the leaves that the tree owns, each once, with their states;
-- the traffic is the tree's; the note tells what the sweep moved.
pub record IsShownTree (k : Cuts) (parts : ℕ) (dir : Direction) (g : Spacetree) (f : States)
    (step : ℕ) (kind : Kind) (s t : TreeLists) (note : Note) (shown : Shown) : Type 0 where
  pub tree : t.tree ≡ s.tree
  pub stands : StandsOn k parts (turned_round dir) g f t
  pub rows : ListsAll (IsRowOf k g f s.tree) shown.rows.items
  pub traffic : IsTraffic k g s.tree shown.traffic
  pub noted : IsNoted
      (plain_plan k.depth
      (range_of k s.tree) dir g) kind step s.tree s.lanes.tale t.lanes.tale note
  pub moved : NoteTells note shown.traffic.stored shown.traffic.pushes
