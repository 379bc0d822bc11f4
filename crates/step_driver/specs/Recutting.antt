-- Trees that are cut anew.
use Rattle.std.specs.Prelude.{◌≡◌, ℕ, ◌≤◌, List, ◌++◌}
use Rattle.peano_keys.specs.declared.dim.Dim.{Dim}
use Rattle.peano_keys.specs.Grid.{Spacetree, IsGrid}
use Rattle.peano_keys.specs.Field.{States}
use Rattle.spacetree.specs.declared.limits.TheConstants.{MOST_CELLS}
use Rattle.spacetree.specs.declared.row.Row.{Row}
use Rattle.spacetree.specs.Counts.{cells_of}
use Rattle.spacetree.specs.Fields.{HasLeaves, rows_of}
use Rattle.curve_cuts.specs.Keys.{CutPoints, cuts_of}
use Rattle.vertex_stacks.specs.declared.kind.Kind.TheVariants.{Recut}
use Rattle.vertex_stacks.specs.Notes.{Note}
use Rattle.tree_automaton.specs.TreeLists.{TreeLists}
use Rattle.step_world.specs.Notes.{note_over, note_raised, by_trees}
use Rattle.step_driver.specs.declared.recutting.Gathered.{Gathered}
use Rattle.step_driver.specs.declared.recutting.NewTrees.{NewTrees}
use Rattle.step_driver.specs.Notes.{sizes_of, AddsFirst}
use Rattle.step_driver.specs.Starts.{AreEqualKeys}
use Rattle.step_driver.specs.Worlds.{AreAt}

-- rows are those of a field on a grid of a dimension and a depth with at most 200,000 cells, in key order
pub record AreRowsIn (dim : Dim) (depth : ℕ) (g : Spacetree) (f : States)
    (rows : List Row) : Type 0 where
  pub axes : g.dim ≡ dim
  pub grid : IsGrid depth g
  pub room : cells_of g ≤ MOST_CELLS
  pub leaves : HasLeaves g f
  pub rows_are : rows ≡ rows_of f

-- the grid and the field that rows are of
abbrev pub IsGathered : Dim → ℕ → List Row → Gathered → Type 0
IsGathered dim depth rows x = (g : Spacetree) (f : States) → AreRowsIn dim depth g f rows
    → (x.grid ≡ g) × (x.field ≡ f)

-- the notes of trees that are cut anew: of the sweeps that gather the rows, and of the raising of the new trees
abbrev pub cut_notes : CutPoints → CutPoints → ℕ → Spacetree → List Note
cut_notes old new step g =
    by_trees (cuts_of old).trees (note_over (sizes_of (cuts_of old)) step Recut g)
    ++ by_trees (cuts_of old).trees (note_raised (sizes_of (cuts_of new)) step g)

-- as many trees with equal shares of a grid, after those of some keys
abbrev pub AreSharesAfter : CutPoints → Spacetree → CutPoints → Type 0
AreSharesAfter old g new = AreEqualKeys old.depth g (cuts_of old).trees new

-- All trees were cut anew, which are at a grid and a field: there are as many with equal shares, at the same grid and field, and they have noted it.
pub record AreCutAnew (parts : ℕ) (keys : CutPoints) (g : Spacetree) (f : States) (step cells : ℕ)
    (old new : List Note) (trees : NewTrees) : Type 0 where
  pub shares : AreSharesAfter keys g trees.keys
  pub at : AreAt parts (cuts_of trees.keys) trees.stores.items new cells g f
  pub noted : new ≡ old ++ cut_notes keys trees.keys step g

-- memory was wanting as trees were cut anew: the first of their notes were added
pub record AreNotCut (keys : CutPoints) (g : Spacetree) (step : ℕ)
    (old new : List Note) : Type 0 where
  pub cut : CutPoints
  pub shares : AreSharesAfter keys g cut
  pub noted : AddsFirst old new (cut_notes keys cut step g)
