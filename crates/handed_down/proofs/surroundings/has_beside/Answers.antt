use Rattle.std.proofs.Common.{sym, subst}
use Rattle.peano_keys.specs.declared.cell.CellKey.{CellKey}
use Rattle.peano_curve.specs.declared.range.Range.{Range}
use Rattle.peano_curve.specs.Order.{interval_of}
use Rattle.handed_down.specs.Across.{HasAll}
use Rattle.handed_down.proofs.Beside.{one_beside}
use Rattle.handed_down.proofs.surroundings.has_beside.Goals as goal

pub returns-in-Some : goal.returns-in-Some
returns-in-Some c =
    let b = c.in-Some.ensures in (
      λ t q cell s. subst (λ (k : CellKey). HasAll c.args.range.now (interval_of c.args.dim k c.args.depth)) (one_beside c.args.dim c.args.cell c.in-Some.other q c.args.j b.0 b.1 cell s) (subst (λ (i : Range). HasAll c.args.range.now i) c.interval.ensures.value (c.has_all.ensures.0 t)),
      λ h. c.has_all.ensures.1 (subst (λ (i : Range). HasAll c.args.range.now i) (sym c.interval.ensures.value) (h c.in-Some.other b.0 b.1)),
    )
