use Rattle.std.proofs.Common.{◌<◌, ◌≤◌, sym, refl, subst, ◌∙◌, arith, below_more}
use Rattle.std.proofs.lemmas.Bool.{false≢true}
use Rattle.peano_keys.specs.Dim.{corners}
use Rattle.curve_cuts.specs.Keys.{cuts_of}
use Rattle.showing_sweep.specs.Sent.{HoldsRound}
use Rattle.showing_sweep.proofs.Sends.{corner_if, corner_round}
use Rattle.showing_sweep.proofs.sent.has_corner.Goals as goal

pub returns-then-holds_round : goal.returns-then-holds_round
returns-then-holds_round c =
    let below : c.loop-n.n < corners c.args.keys.now.dim = subst (λ d. c.loop-n.n < corners d) c.dim.ensures (omega (arith, c.positions-n-end.ensures)) in
    (λ _. corner_if (cuts_of c.args.keys.now) c.args.tree c.args.vertex c.loop-n.n c.requires.vertex c.requires.tree below (c.holds_round.ensures.0 c.if-holds_round.true), λ _. refl)

pub loop-n-preserved : goal.loop-n-preserved
loop-n-preserved c = below_more (λ m. ¬ HoldsRound (cuts_of c.args.keys.now) c.args.tree c.args.vertex m) c.loop-n.n c.loop-n.invariant (λ f. false≢true (sym c.if-holds_round.false ∙ c.holds_round.ensures.1 f))

pub returns : goal.returns
returns c =
    let end : corners c.args.keys.now.dim ≤ c.loop-n.n = subst (λ d. corners d ≤ c.loop-n.n) c.dim.ensures (omega (arith, c.positions-n-end.ensures)) in
    (λ h. absurd (false≢true h), λ h. let f = corner_round (cuts_of c.args.keys.now) c.args.tree c.args.vertex c.requires.vertex h in absurd (c.loop-n.invariant f.0 (omega (arith, f.1, end)) f.2))
