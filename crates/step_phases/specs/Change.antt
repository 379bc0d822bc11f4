-- What one step makes of the cells of a grid, as slots tell it.
use Rattle.std.specs.Prelude.{◌≡◌, true, Option, Some, if◌then◌else◌}
use Rattle.peano_keys.specs.declared.cell.CellKey.{CellKey}
use Rattle.peano_keys.specs.declared.state.State.{State}
use Rattle.peano_keys.specs.declared.side.Mark.{Mark}
use Rattle.peano_keys.specs.Cell.{IsCell, parent_of}
use Rattle.peano_keys.specs.Grid.{Spacetree, has_cell}
use Rattle.peano_keys.specs.Next.{IsNextGrid}

-- the old grid with the values of its cells, the marks of its leaves and the new values of its cells; the new grid with the values of its cells
pub record Change : Type 0 where
  pub old : Spacetree
  pub new : Spacetree
  pub value : CellKey → State
  pub mark : CellKey → Mark
  pub next : CellKey → Option State
  pub last : CellKey → State

-- the cell of the old grid from which a cell of the new one takes its value: itself, or the leaf that was split
abbrev pub carrier : Spacetree → CellKey → CellKey
carrier old c = if has_cell old c then c else parent_of c

-- what a change owes to the exchanges and sweeps, and nothing else: the new grid follows the marks, and each of its cells has the new value of the cell that it comes from
pub record IsChange (w : Change) : Type 0 where
  pub grid : IsNextGrid w.old w.mark w.new
  pub values : (c : CellKey) → IsCell w.old.dim c → has_cell w.new c ≡ true
      → w.next (carrier w.old c) ≡ Some (w.last c)

-- a state is the one that is there, where one is
abbrev pub Gives : Option State → State → Type 0
Gives o s = (v : State) → o ≡ Some v → s ≡ v
