use Rattle.std.proofs.Common.{◌≤◌, length, arith}
use Rattle.curve_cuts.specs.Keys.{cuts_of}
use Rattle.boundary_streams.specs.Trees.{IsKeyOf}
use Rattle.worked_exchanges.proofs.FirstKeys.{none_first, one_more, all_are}
use Rattle.worked_exchanges.proofs.tests.expect_keys.Goals as goal

pub loop-k-init : goal.loop-k-init
loop-k-init g c = none_first (IsKeyOf (cuts_of c.args.keys.now)) c.args.store.now.lanes.input

pub loop-k-preserved : goal.loop-k-preserved
loop-k-preserved g c = one_more (IsKeyOf (cuts_of c.args.keys.now)) c.args.store.now.lanes.input c.loop-k.k c.key_at-vertex.result c.key_at-vertex.ensures c.expect_key.ensures c.loop-k.invariant

pub returns : goal.returns
returns g c =
    let all : length c.args.store.now.lanes.input ≤ c.loop-k.k = omega (arith, c.input_count-k-end.ensures) in
    all_are (IsKeyOf (cuts_of c.args.keys.now)) c.args.store.now.lanes.input c.loop-k.k all c.loop-k.invariant
