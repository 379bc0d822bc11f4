use Rattle.std.proofs.Common.{◌<◌, length, arith, ◌∙◌, length-set}
use Rattle.vertex_stacks.proofs.Sound.{room_kept, room_spreads, lanes_kept}
use Rattle.vertex_stacks.proofs.lanes.reach_all.Goals as goal

pub returns-in_err-reserve-clause-items : goal.returns-in_err-reserve-clause-items
returns-in_err-reserve-clause-items c =
    let h : c.loop-i.i < length c.loop-i.piles = omega (arith, c.loop-i.invariant.count, c.loop-i-test.true) in
    lanes_kept c.loop-i.piles c.loop-i.i c.reserve.new.self c.index-piles-i.result h c.reserve.ensures.items ∙ c.loop-i.invariant.items

pub returns-in_err-reserve-clause-kept : goal.returns-in_err-reserve-clause-kept
returns-in_err-reserve-clause-kept c = λ had all.
    let h : c.loop-i.i < length c.loop-i.piles = omega (arith, c.loop-i.invariant.count, c.loop-i-test.true) in
    room_kept had c.loop-i.piles c.loop-i.i c.reserve.new.self c.index-piles-i.result h c.reserve.ensures.grows (c.loop-i.invariant.kept had all)

pub loop-i-preserved : goal.loop-i-preserved
loop-i-preserved c =
    let h : c.loop-i.i < length c.loop-i.piles = omega (arith, c.loop-i.invariant.count, c.loop-i-test.true) in
    record {
      count = length-set c.loop-i.piles c.loop-i.i c.reserve.new.self ∙ c.loop-i.invariant.count;
      items = lanes_kept c.loop-i.piles c.loop-i.i c.reserve.new.self c.index-piles-i.result h c.reserve.ensures.items ∙ c.loop-i.invariant.items;
      kept = λ had all. room_kept had c.loop-i.piles c.loop-i.i c.reserve.new.self c.index-piles-i.result h c.reserve.ensures.grows (c.loop-i.invariant.kept had all);
      done = room_spreads c.args.pages c.loop-i.piles c.loop-i.i c.reserve.new.self h c.in_ok-reserve.ensures.ok c.loop-i.invariant.done;
    }
