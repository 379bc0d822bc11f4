use Rattle.std.proofs.Common.{◌≡◌, suc, ◌+◌, arith, sym, subst}
use Rattle.std.specs.Prelude.{None}
use Rattle.boundary_streams.specs.Records.{IsRecordExchanged}
use Rattle.boundary_streams.proofs.Written.{one_more, all_written, first_stays}
use Rattle.boundary_streams.proofs.merging.finish_record.Goals as goal

pub loop-n-preserved : goal.loop-n-preserved
loop-n-preserved c =
    let e : c.loop-n.n + 1 ≡ suc c.loop-n.n = omega arith in
    one_more c.args.phase c.args.k (λ n. None) c.args.store.now c.requires.place c.loop-n.n (c.loop-n.n + 1) c.loop-n.store c.exchange_slot.new.store e c.loop-n.invariant c.exchange_slot.ensures

pub returns : goal.returns
returns c =
    let e : c.loop-n.n ≡ 8 = omega arith in
    all_written c.args.phase c.args.k (λ n. None) c.args.store.now c.requires.place c.loop-n.store c.loop-n.n e c.loop-n.invariant

pub returns-then-is_first : goal.returns-then-is_first
returns-then-is_first c = subst (λ p. IsRecordExchanged p c.args.k (λ n. None) c.args.store.now c.args.store.now) (sym (c.is_first.ensures c.if-is_first.true)) (first_stays c.args.k c.args.store.now c.requires.place)
