-- Each shape opens a grid of its depth, and fills open a field on each grid.
use Rattle.std.proofs.Common.{inl, inr, ◌<◌, refl, sym, subst, Any}
use Rattle.peano_keys.specs.declared.dim.Dim.{Dim}
use Rattle.peano_keys.specs.declared.cell.CellKey.{CellKey}
use Rattle.peano_keys.specs.Cell.{IsCell, parent_of}
use Rattle.solver_api.specs.Step.{IsLeafOf}
use Rattle.spacetree.specs.declared.shape.Shape.{Shape}
use Rattle.spacetree.specs.declared.shape.Zone.{Zone}
use Rattle.spacetree.specs.Opening.{OpensRefined, ZoneRefines, zone_refines, opening_state}
use Rattle.spacetree.specs.Laws.{EachShapeOpens, OpeningIsGrid, FillsOpen}
use Rattle.spacetree.proofs.Collected.{collect, tabulate}
use Rattle.spacetree.proofs.Leaves.{leaf_there}
use Rattle.spacetree.proofs.AllCells.{all_cells, listed, cells_to, listed_to}
use Rattle.spacetree.proofs.Openings.{opens_above, parent_opens}
use Rattle.spacetree.proofs.Told.{Told, below, cell_told, true_told, leaf_told, either_told, any_told}

zone_told : (dim : Dim) (c : CellKey) (z : Zone) → Told (ZoneRefines dim c z)
zone_told dim c z = true_told (zone_refines dim c z)

opens_told : (shape : Shape) (c : CellKey) → Told (OpensRefined shape c)
opens_told shape c = elim (cell_told shape.dim c) [
  | inr apart ↦ inr (λ h. apart h.cell)
  | inl cell ↦ elim (either_told (c.level < shape.base) (Any (ZoneRefines shape.dim c) shape.zones) (below c.level shape.base) (any_told (ZoneRefines shape.dim c) (zone_told shape.dim c) shape.zones)) [
    | inr apart ↦ inr (λ h. apart h.cause)
    | inl cause ↦ inl record { cell = cell; cause = cause }
  ]
]

pub each_shape_opens : EachShapeOpens
each_shape_opens shape =
    let s = collect (OpensRefined shape) (opens_told shape) (cells_to shape.dim 12) in (
      record { dim = shape.dim; refined = s.0 },
      record { dim = refl; refined = λ c. ((λ h. ((s.1 c).0 h).1), (λ h. (s.1 c).1 (listed_to shape.dim 12 c h.cell h.cell.level, h))) },
    )

pub opening_is_grid : OpeningIsGrid
opening_is_grid shape t is opens = record {
  cells = λ c e. subst (λ (d : Dim). IsCell d c) (sym opens.dim) ((opens.refined c).0 e).cell;
  levels = λ c e. opens_above shape c is ((opens.refined c).0 e);
  parents = λ c e deep. (opens.refined (parent_of c)).1 (parent_opens shape c deep ((opens.refined c).0 e));
}

pub fills_open : FillsOpen
fills_open t fills parts =
    let m = tabulate (IsLeafOf t) (leaf_told t) (opening_state t.dim fills parts) (all_cells t) in
    (m.0, record { leaves = λ c leaf. m.1.has c (listed t c leaf.cell (leaf_there t c leaf)) leaf; others = m.1.none })
