-- Trees over a grid, between two sweeps.
use Rattle.std.specs.Prelude.{◌<◌, All}
use Rattle.peano_keys.specs.declared.cell.CellKey.{CellKey}
use Rattle.peano_keys.specs.declared.side.Mark.{Mark}
use Rattle.peano_keys.specs.Grid.{Spacetree}
use Rattle.peano_keys.specs.Next.{IsNextGrid}
use Rattle.peano_records.specs.AtRest.{IsBeforeAdapting}
use Rattle.curve_cuts.specs.Cuts.{Cuts, IsCutGrid, range_of}
use Rattle.tree_automaton.specs.TreeLists.{TreeLists}
use Rattle.tree_automaton.specs.AtRest.{HasLists, plain_plan}

-- a store of one of the trees of some cuts, which has the lists of a grid for these
pub record IsTreeOver (k : Cuts) (g : Spacetree) (s : TreeLists) : Type 0 where
  pub grid : IsCutGrid k g
  pub tree : s.tree < k.trees
  pub lists : HasLists (plain_plan k.depth (range_of k s.tree) s.dir g) s.tree s

-- one whose slots have the intents by which the next grid is made
pub record IsTreeBefore (k : Cuts) (g next : Spacetree) (s : TreeLists) : Type 0 where
  pub over : IsTreeOver k g s
  pub slots : All (IsBeforeAdapting g next) s.lanes.input

-- a grid and the next one by some marks
abbrev pub LeadsTo : Spacetree → Spacetree → Type 0
LeadsTo g next = (marks : CellKey → Mark) × IsNextGrid g marks next
