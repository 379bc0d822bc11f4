use Rattle.std.proofs.Common.{ℕ, ◌<◌, length, sym, subst, arith, ◌+◌, take, map}
use Rattle.curve_cuts.specs.Keys.{cuts_of}
use Rattle.tree_automaton.specs.Sweeps.{key_of}
use Rattle.showing_sweep.specs.Counts.{AreSoMany, Counts}
use Rattle.showing_sweep.specs.Sent.{IsOther, IsPairOf}
use Rattle.showing_sweep.proofs.Sends.{stream_more, stream_all}
use Rattle.showing_sweep.proofs.sent.sent_from.Goals as goal

pub loop-k-preserved : goal.loop-k-preserved
loop-k-preserved c = λ once.
    let k = cuts_of c.args.keys.now in
    let input = c.args.store.now.lanes.input in
    let inside : c.loop-k.k < length c.args.store.now.lanes.input = omega (arith, c.input_count-k-end.ensures) in
    let more : AreSoMany (IsOther (cuts_of c.args.keys.now) c.args.store.now.tree c.key_at.result) c.others.result = subst (λ (t : ℕ). AreSoMany (IsOther (cuts_of c.args.keys.now) t c.key_at.result) c.others.result) c.tree-tree.ensures c.others.ensures in
    subst (Counts (IsPairOf k c.args.store.now.tree (take (c.loop-k.k + 1) (map key_of input)))) (sym c.saturating_add-sent.ensures)
    (stream_more k c.args.store.now.tree input c.loop-k.k c.key_at.result c.loop-k.sent c.others.result inside c.key_at.ensures once (c.loop-k.invariant once) more)

pub returns : goal.returns
returns c = λ once. stream_all (cuts_of c.args.keys.now) c.args.store.now.tree c.args.store.now.lanes.input c.loop-k.k c.loop-k.sent (omega (arith, c.input_count-k-end.ensures)) (c.loop-k.invariant once)
