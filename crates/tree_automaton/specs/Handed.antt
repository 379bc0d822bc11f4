-- What a visit is handed down beside its parent's view.
use Rattle.std.specs.Prelude.{◌≡◌, ℕ, Bool, true, not, length, Option, Some, None}
use Rattle.peano_keys.specs.declared.dim.Dim.{Dim}
use Rattle.peano_keys.specs.declared.cell.CellKey.{CellKey}
use Rattle.peano_keys.specs.Grid.{Spacetree}
use Rattle.peano_records.specs.declared.view.CellView.{CellView}
use Rattle.hanging_nodes.specs.Views.{AreGrids, Shows}
use Rattle.handed_down.specs.declared.surroundings.Surroundings.{Surroundings}
use Rattle.handed_down.specs.Across.{Surround}
use Rattle.handed_down.specs.declared.stored.ChildVertices.{ChildVertices}
use Rattle.handed_down.specs.Stored.{told_of, TellsAll}
use Rattle.tree_automaton.specs.declared.kinds.Serves.{Serves}
use Rattle.tree_automaton.specs.declared.kinds.Serves.TheVariants.{Raising, Adapting, Plain}
use Rattle.tree_automaton.specs.declared.decide.Course.{Course}
use Rattle.tree_automaton.specs.TreeLists.{TreeLists}

-- what a cell knows of the cells round it is right in a sweep
abbrev pub IsRound : Course → CellKey → Surroundings → Type 0
IsRound course c round = Surround course.dir course.dim course.range course.depth c round

-- and it is right in the tree of a store
abbrev pub IsRoundIn : TreeLists → CellKey → Surroundings → Type 0
IsRoundIn s c round = Surround s.dir s.lanes.dim s.range s.depth c round

-- whether a sweep asks the old grid, or with `after` the new one: a raising sweep has a new one alone, and in a plain sweep the old one is the new one too
abbrev pub asks_for : Serves → Bool → Bool
asks_for Raising after = after
asks_for Adapting after = true
asks_for Plain after = not after

-- whatever grids a view shows, it is told of each vertex of its cell's children whether it is stored in the old one, or with `after` in the new one
abbrev pub Tells : Dim → Bool → CellView → ChildVertices → Type 0
Tells dim after v told = (depth : ℕ) (old : Option Spacetree) (new : Spacetree)
    → AreGrids depth dim old new after → Shows dim old new after v
    → TellsAll dim after old new v.key told

-- what is told of the children of a view's cell, in the grids that a sweep asks
pub record IsTold (dim : Dim) (serves : Serves) (v : CellView) (told : ChildVertices) : Type 0 where
  pub shape : (after : Bool) → length (told_of told after) ≡ 64
  pub each : (after : Bool) → asks_for serves after ≡ true → Tells dim after v told

-- where it is told of the parent's children, it is told right
abbrev pub IsToldAbove : Dim → Serves → Option CellView → Option ChildVertices → Type 0
IsToldAbove dim serves parent None = Unit {0}
IsToldAbove dim serves None (Some told) = ⊥
IsToldAbove dim serves (Some v) (Some told) = IsTold dim serves v told
