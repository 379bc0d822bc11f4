use Rattle.std.proofs.Common.{◌<◌, ◌≤◌, length, arith}
use Rattle.shared_sums.proofs.Progress.{one_more_record, all_records, vertices_stay}
use Rattle.shared_sums.proofs.adding.add_all.Goals as goal

pub loop-k-preserved : goal.loop-k-preserved
loop-k-preserved c =
    let inside : c.loop-k.k < length c.args.store.now.lanes.input = omega (arith, c.input_count-k-end.ensures) in
    one_more_record c.args.dim c.args.list.now c.args.store.now c.loop-k.store c.add_record.new.store c.loop-k.k inside c.loop-k.invariant c.add_record.ensures

pub add_record-requires-clause-vertices : goal.add_record-requires-clause-vertices
add_record-requires-clause-vertices c = vertices_stay c.args.dim c.args.list.now c.args.store.now c.loop-k.store c.loop-k.k c.loop-k.invariant c.requires.vertices

pub returns : goal.returns
returns c =
    let all : length c.args.store.now.lanes.input ≤ c.loop-k.k = omega (arith, c.input_count-k-end.ensures) in
    all_records c.args.dim c.args.list.now c.args.store.now c.loop-k.store c.loop-k.k all c.loop-k.invariant
