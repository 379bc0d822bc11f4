use Rattle.std.proofs.Common.{◌≤◌, length, arith}
use Rattle.worked_sweeps.proofs.Told.{none_before, one_more_before, all_before}
use Rattle.worked_sweeps.proofs.intending.are_before.Goals as goal

pub loop-k-init : goal.loop-k-init
loop-k-init c = none_before c.args.grid.now c.args.next.now c.args.store.now

pub loop-k-preserved : goal.loop-k-preserved
loop-k-preserved c = one_more_before c.args.grid.now c.args.next.now c.args.store.now c.loop-k.k (c.is_before.ensures c.if-not-is_before.false) c.loop-k.invariant

pub returns : goal.returns
returns c told =
    let all : length c.args.store.now.lanes.input ≤ c.loop-k.k = omega (arith, c.input_count-k-end.ensures) in
    all_before c.args.grid.now c.args.next.now c.args.store.now c.loop-k.k all c.loop-k.invariant
