use Rattle.std.proofs.Common.{◌≤◌, ◌<◌, map, length, arith}
use Rattle.curve_cuts.specs.Keys.{cuts_of}
use Rattle.boundary_streams.specs.Sendings.{items_of}
use Rattle.boundary_streams.proofs.Sends.{collected_at, collected_all}
use Rattle.boundary_streams.proofs.collecting.collect.Goals as goal

pub loop-k-preserved : goal.loop-k-preserved
loop-k-preserved c =
    let inside : c.loop-k.k < length c.args.store.now.lanes.input = omega (arith, c.input_count-k-end.ensures) in
    collected_at (cuts_of c.args.keys.now) c.args.store.now.tree c.args.store.now.lanes.input (map items_of c.loop-k.parcels.items) (map items_of c.send_at.new.lists.items) c.loop-k.k inside c.in_ok-send_at.ensures c.loop-k.invariant

pub returns : goal.returns
returns c =
    let all : length c.args.store.now.lanes.input ≤ c.loop-k.k = omega (arith, c.input_count-k-end.ensures) in
    collected_all (cuts_of c.args.keys.now) c.args.store.now (record { sender = c.tree.result; parcels = map items_of c.loop-k.parcels.items }) c.loop-k.k all c.tree.ensures c.loop-k.invariant
