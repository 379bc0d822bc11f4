-- Laws of views that show marks.
use Rattle.std.specs.Prelude.{◌≡◌, ℕ}
use Rattle.peano_keys.specs.declared.cell.CellKey.{CellKey}
use Rattle.peano_keys.specs.declared.side.Mark.{Mark}
use Rattle.peano_keys.specs.Cell.{IsCell}
use Rattle.peano_keys.specs.Grid.{Spacetree, IsGrid}
use Rattle.peano_records.specs.declared.view.CellView.{CellView}
use Rattle.adapt_marks.specs.Views.{ShowsMarks}

-- for each grid, all marks and each cell of the domain there is a view of the cell that shows them
abbrev pub MarkedViewsExist : Type 0
MarkedViewsExist = (depth : ℕ) (g : Spacetree) (marks : CellKey → Mark) (c : CellKey)
    → IsGrid depth g → IsCell g.dim c → (view : CellView) × (view.key ≡ c) × ShowsMarks g marks view
