use Rattle.std.proofs.Common.{◌≤◌, ◌+◌, sym, subst, ◌∙◌, arith}
use Rattle.std.proofs.lemmas.Bool.{false≢true}
use Rattle.curve_cuts.specs.Cuts.{Cuts}
use Rattle.curve_cuts.specs.Keys.{cuts_of}
use Rattle.showing_sweep.proofs.Sends.{OthersBelow, one_below, not_below, all_below}
use Rattle.showing_sweep.proofs.sent.others.Goals as goal
use Rattle.showing_sweep.proofs.sent.others.Goals.{then-is_other, else-is_other}

pub loop-other-preserved : goal.loop-other-preserved
loop-other-preserved c =
    let k = cuts_of c.args.keys.now in
    elim c.if-is_other.branch [
      | then-is_other w ↦ subst (OthersBelow k c.args.tree c.args.vertex (c.loop-other.other + 1)) (sym w.count-is) (one_below k c.args.tree c.args.vertex c.loop-other.other c.loop-other.count (c.is_other.ensures.0 w.if-is_other.true) c.loop-other.invariant)
      | else-is_other w ↦ subst (OthersBelow k c.args.tree c.args.vertex (c.loop-other.other + 1)) (sym w.count-is) (not_below k c.args.tree c.args.vertex c.loop-other.other c.loop-other.count (λ h. false≢true (sym w.if-is_other.false ∙ c.is_other.ensures.1 h)) c.loop-other.invariant)
    ]

pub returns : goal.returns
returns c =
    let k : Cuts = cuts_of c.args.keys.now in
    let end : k.trees ≤ c.loop-other.other = omega (arith, c.trees-other-end.ensures.value) in
    all_below k c.args.tree c.args.vertex c.loop-other.other c.loop-other.count end c.loop-other.invariant
