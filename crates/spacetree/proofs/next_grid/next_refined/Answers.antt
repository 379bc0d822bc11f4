use Rattle.std.proofs.Common.{arith, ◌≡◌, List, ap, ◌∙◌, get_or, length, take, sym, subst}
use Rattle.std.proofs.lemmas.List.{take_all}
use Rattle.std.specs.FinSet as set
use Rattle.peano_keys.specs.declared.cell.CellKey.{CellKey}
use Rattle.peano_keys.specs.declared.dim.Dim.{Dim}
use Rattle.peano_keys.specs.Cell.{IsCell}
use Rattle.peano_keys.specs.Grid.{Cells}
use Rattle.spacetree.specs.Marked.{HasChildren, IsAddedWhere}
use Rattle.spacetree.proofs.CellSets.{listed_at, nowhere}
use Rattle.spacetree.proofs.NextGrids.{next_from_sets}
use Rattle.spacetree.proofs.Sifts.{Sifts, sifts_none, sifts_more, len_by_added, listed_count}
use Rattle.spacetree.proofs.next_grid.next_refined.Goals as goal

pub loop-parent-init : goal.loop-parent-init
loop-parent-init c = record {
  sifts = sifts_none (λ q. HasChildren c.args.grid.now.dim c.args.coarsen.now q → ⊥) c.args.refine.now c.in_ok-refined.refined c.in_ok-refined.ensures;
  count = omega (arith, ap set.len c.in_ok-refined.ensures);
}

pub keep-requires-clause-cell : goal.keep-requires-clause-cell
keep-requires-clause-cell c =
    let cells = c.as_slice-parent-items.result.now in
    let p : CellKey = get_or cells c.loop-parent.parent-index nowhere in
    subst (λ (d : Dim). IsCell d p) (sym c.dim-dim.ensures)
    (c.requires.cells p (listed_at c.args.grid.now.refined c.in_ok-parents.parents.items cells c.loop-parent.parent-index c.in_ok-parents.ensures.cells c.as_slice-parent-items.ensures.value c.loop-parent-test.true))

pub keep-requires-clause-room : goal.keep-requires-clause-room
keep-requires-clause-room c =
    let cells = c.as_slice-parent-items.result.now in
    c.requires.levels (get_or cells c.loop-parent.parent-index nowhere)
    (listed_at c.args.grid.now.refined c.in_ok-parents.parents.items cells c.loop-parent.parent-index c.in_ok-parents.ensures.cells c.as_slice-parent-items.ensures.value c.loop-parent-test.true)

pub loop-parent-preserved : goal.loop-parent-preserved
loop-parent-preserved c =
    let cells = c.as_slice-parent-items.result.now in
    let i = c.loop-parent.parent-index in
    let p : CellKey = get_or cells i nowhere in
    let old : Cells = c.loop-parent.refined in
    let new : Cells = c.keep.new.refined in
    let coarsen : Cells = c.args.coarsen.now in
    let added : IsAddedWhere (HasChildren c.args.grid.now.dim coarsen p → ⊥) p old new = subst (λ (d : Dim). IsAddedWhere (HasChildren d coarsen p → ⊥) p old new) c.dim-dim.ensures c.in_ok-keep.ensures in
    record {
      sifts = sifts_more (λ q. HasChildren c.args.grid.now.dim coarsen q → ⊥) cells i nowhere c.args.refine.now old new c.loop-parent-test.true c.loop-parent.invariant.sifts added;
      count = omega (arith, len_by_added (HasChildren c.args.grid.now.dim coarsen p → ⊥) p old new added, c.loop-parent.invariant.count);
    }

pub returns-clause-next : goal.returns-clause-next
returns-clause-next c marks marked =
    let all : take c.loop-parent.parent-index c.as_slice-parent-items.result.now ≡ c.in_ok-parents.parents.items = take_all c.loop-parent.parent-index c.as_slice-parent-items.result.now c.loop-parent-test.false ∙ c.as_slice-parent-items.ensures.value in
    next_from_sets c.args.grid.now marks c.args.refine.now c.args.coarsen.now c.loop-parent.refined c.in_ok-parents.parents.items c.requires c.in_ok-parents.ensures.cells marked
    (subst (λ (l : List CellKey). Sifts (λ q. HasChildren c.args.grid.now.dim c.args.coarsen.now q → ⊥) l c.args.refine.now c.loop-parent.refined) all c.loop-parent.invariant.sifts)

pub returns-clause-count : goal.returns-clause-count
returns-clause-count c =
    omega (arith, listed_count c.args.grid.now.refined c.in_ok-parents.parents.items c.in_ok-parents.ensures.cells, c.as_slice-parent-items.ensures.len, c.loop-parent.invariant.count, c.loop-parent.auto.parent-index-end, ap (λ (l : List CellKey). length l) c.as_slice-parent-items.ensures.value)
