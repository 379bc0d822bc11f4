use Rattle.std.proofs.Common.{arith, ap, ◌∙◌, sym, subst}
use Rattle.std.specs.FinSet as set
use Rattle.peano_keys.specs.declared.dim.Dim.TheVariants.{Three}
use Rattle.peano_keys.specs.declared.cell.CellKey.{CellKey}
use Rattle.peano_keys.specs.Grid.{Cells}
use Rattle.spacetree.specs.LeafLists.{IsLeastWith}
use Rattle.spacetree.proofs.JoinedCells.{parent_added}
use Rattle.spacetree.proofs.leaf_list.+add_above.Goals as goal

pub add_above-requires : goal.add_above-requires
add_above-requires t c =
    let level = ap (λ (q : CellKey). q.level) c.parent-above.ensures.value in
    (omega (arith, level, c.if-cell-eq0.false), c.parent-above.ensures.cell Three c.requires)

pub returns : goal.returns
returns t c =
    let old : Cells = c.args.refined.now in
    let middle : Cells = c.add_above.new.refined in
    let is = c.parent-above.ensures.value in
    subst (IsLeastWith old c.args.cell) (ap (set.insert middle) (sym is) ∙ sym c.in_ok-insert.ensures.ok)
    (parent_added old middle c.args.cell (omega (arith, c.if-cell-eq0.false)) (subst (λ (p : CellKey). IsLeastWith old p middle) is c.in_ok-add_above.ensures))
