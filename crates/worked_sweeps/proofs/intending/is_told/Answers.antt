use Rattle.std.proofs.Common.{◌<◌, subst, arith}
use Rattle.peano_keys.specs.declared.dim.Dim.{Dim}
use Rattle.peano_keys.specs.Dim.{corners}
use Rattle.peano_keys.specs.Vertex.{adjacent_of}
use Rattle.worked_sweeps.specs.Told.{IsPositionTold}
use Rattle.worked_sweeps.proofs.Told.{told_position}
use Rattle.worked_sweeps.proofs.intending.is_told.Goals as goal

pub returns : goal.returns
returns c told =
    let below : c.args.n < corners c.dim-dim.result = omega (arith, c.position_count.ensures, c.if-n-position_count.false) in
    let position : IsPositionTold c.args.grid.now c.args.next.now (adjacent_of c.dim-dim.result c.args.vertex c.args.n) c.args.slot = subst (λ o. IsPositionTold c.args.grid.now c.args.next.now o c.args.slot) c.adjacent.ensures.value (c.is_position_told.ensures told) in
    told_position c.args.grid.now c.args.next.now c.args.vertex c.args.n c.args.slot
    (subst (λ (d : Dim). c.args.n < corners d) c.dim-dim.ensures below)
    (subst (λ (d : Dim). IsPositionTold c.args.grid.now c.args.next.now (adjacent_of d c.args.vertex c.args.n) c.args.slot) c.dim-dim.ensures position)
