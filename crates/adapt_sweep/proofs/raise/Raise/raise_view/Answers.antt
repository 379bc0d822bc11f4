use Rattle.std.proofs.Common.{◌<◌, length, subst, arith}
use Rattle.std.proofs.lemmas.List.{get_or_default}
use Rattle.peano_records.specs.declared.view.Corner.{Corner}
use Rattle.peano_records.specs.declared.view.Corner.TheVariants.{Beyond}
use Rattle.adapt_sweep.specs.Raises.{source_of, IsRaisedCorner}
use Rattle.adapt_sweep.proofs.Corners.{next_corner, all_raised}
use Rattle.adapt_sweep.proofs.raise.Raise.raise_view.Goals as goal

pub loop-n-preserved : goal.loop-n-preserved
loop-n-preserved c =
    let r = source_of c.args.self.now in
    let below : c.loop-n.n < length c.loop-n.cell.corners = omega (arith, c.loop-n-test.true, c.loop-n.invariant.size, c.requires.eight) in
    next_corner (λ j. IsRaisedCorner r) c.loop-n.n c.args.cell.now c.loop-n.cell c.raise_corner.new.corner below
    (subst (λ (k : Corner). IsRaisedCorner r k c.raise_corner.new.corner) (get_or_default c.loop-n.cell.corners c.loop-n.n c.index-cell-n.result Beyond below) c.raise_corner.ensures) c.loop-n.invariant

pub returns : goal.returns
returns c = all_raised (source_of c.args.self.now) c.loop-n.n c.args.cell.now c.loop-n.cell (omega arith) c.loop-n.invariant
