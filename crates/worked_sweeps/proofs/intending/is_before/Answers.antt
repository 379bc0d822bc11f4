use Rattle.std.proofs.Common.{◌≤◌, arith}
use Rattle.worked_sweeps.proofs.Told.{none_told, one_more_told, all_told}
use Rattle.worked_sweeps.proofs.intending.is_before.Goals as goal

pub loop-n-init : goal.loop-n-init
loop-n-init c = none_told c.args.grid.now c.args.next.now c.key_at-vertex.result c.args.store.now c.args.k

pub loop-n-preserved : goal.loop-n-preserved
loop-n-preserved c = one_more_told c.args.grid.now c.args.next.now c.key_at-vertex.result c.args.store.now c.args.k c.loop-n.n c.slot_at.result c.slot_at.ensures.slot c.slot_at.ensures.eight (c.is_told.ensures c.if-not-is_told.false) c.loop-n.invariant

pub returns : goal.returns
returns c told =
    let all : 8 ≤ c.loop-n.n = omega arith in
    all_told c.args.grid.now c.args.next.now c.key_at-vertex.result c.args.store.now c.args.k c.loop-n.n all c.key_at-vertex.ensures c.loop-n.invariant
