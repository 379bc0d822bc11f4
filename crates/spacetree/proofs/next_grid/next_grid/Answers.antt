use Rattle.std.proofs.Common.{◌≡◌, arith, ap, ◌∙◌, refl, subst, sym}
use Rattle.std.specs.FinSet as set
use Rattle.peano_keys.specs.declared.dim.Dim.{Dim}
use Rattle.peano_keys.specs.Grid.{Cells, Spacetree}
use Rattle.peano_keys.specs.Next.{IsNextGrid}
use Rattle.spacetree.specs.Counts.{IsServedGrid, cells_for}
use Rattle.spacetree.proofs.NextGrids.{next_is_grid}
use Rattle.spacetree.proofs.next_grid.next_grid.Goals as goal

pub returns-then-cells-gt-MOST_CELLS-clause-err : goal.returns-then-cells-gt-MOST_CELLS-clause-err
returns-then-cells-gt-MOST_CELLS-clause-err c marks marked =
    let cells : Cells = c.in_ok-refined.refined in (
      refl,
      record {
        next = (
          record { dim = c.args.grid.now.dim; refined = cells },
          c.in_ok-refined.ensures.next marks marked,
          ap (λ (d : Dim). cells_for d (set.len cells)) (sym c.dim.ensures) ∙ sym c.cells_with-cells.ensures,
        );
        crowded = c.if-cells-gt-MOST_CELLS.true;
      },
    )

pub returns-clause-ok : goal.returns-clause-ok
returns-clause-ok c marks marked =
    let cells : Cells = c.in_ok-refined.refined in
    let is : c.of.result ≡ record { dim = c.args.grid.now.dim; refined = cells } = c.of.ensures ∙ ap (λ (d : Dim). record { dim = d; refined = cells }) c.dim-2.ensures in
    subst (λ (t : Spacetree). IsNextGrid c.args.grid.now marks t) (sym is) (c.in_ok-refined.ensures.next marks marked)

pub of-requires : goal.of-requires
of-requires c =
    let cells : Cells = c.in_ok-refined.refined in
    let marks = c.requires.marks in
    let next : Spacetree = record { dim = c.args.grid.now.dim; refined = cells } in
    let count = ap (λ (d : Dim). cells_for d (set.len cells)) (sym c.dim.ensures) ∙ sym c.cells_with-cells.ensures in
    let served : IsServedGrid next = record {
      grid = next_is_grid 12 c.args.grid.now next marks.marks c.requires.grid (c.in_ok-refined.ensures.next marks.marks marks.marked) marks.above;
      room = omega (arith, count, c.if-cells-gt-MOST_CELLS.false);
    } in
    subst (λ (d : Dim). IsServedGrid (record { dim = d; refined = cells })) (sym c.dim-2.ensures) served
