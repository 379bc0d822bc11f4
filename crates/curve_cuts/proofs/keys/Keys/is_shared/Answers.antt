use Rattle.std.proofs.Common.{◌<◌, ◌≤◌, arith, sym, refl, ◌∙◌, below_more}
use Rattle.std.proofs.lemmas.Bool.{false≢true}
use Rattle.peano_keys.specs.Dim.{corners}
use Rattle.curve_cuts.specs.Cuts.{AreCuts}
use Rattle.curve_cuts.specs.Foreign.{IsForeign}
use Rattle.curve_cuts.specs.Keys.{cuts_of}
use Rattle.curve_cuts.proofs.Shared.{shared_from_foreign, foreign_from_shared}
use Rattle.curve_cuts.proofs.keys.Keys.is_shared.Goals as goal

pub returns-then-is_foreign : goal.returns-then-is_foreign
returns-then-is_foreign c =
    let cuts : AreCuts (cuts_of c.args.self.now) = rw (← c.self.view_is) c.self.invariant.cuts in
    let below : c.loop-n.n < corners c.args.self.now.dim = rw (← c.self.view_is) (omega (arith, c.position_count-n-end.ensures)) in
    (λ _. shared_from_foreign (cuts_of c.args.self.now) c.args.tree c.args.vertex cuts c.requires.tree c.requires.vertex c.requires.level (c.loop-n.n, below, c.is_foreign.ensures.0 c.if-is_foreign.true), λ _. refl)

pub loop-n-preserved : goal.loop-n-preserved
loop-n-preserved c = below_more (λ m. ¬ IsForeign (cuts_of c.args.self.now) c.args.tree c.args.vertex m) c.loop-n.n c.loop-n.invariant (λ f. false≢true (sym c.if-is_foreign.false ∙ c.is_foreign.ensures.1 f))

pub returns : goal.returns
returns c =
    let cuts : AreCuts (cuts_of c.args.self.now) = rw (← c.self.view_is) c.self.invariant.cuts in
    let end : corners c.args.self.now.dim ≤ c.loop-n.n = rw (← c.self.view_is) (omega (arith, c.position_count-n-end.ensures)) in
    (λ h. absurd (false≢true h), λ h. let f = foreign_from_shared (cuts_of c.args.self.now) c.args.tree c.args.vertex cuts c.requires.tree c.requires.vertex c.requires.level h in absurd (c.loop-n.invariant f.0 (omega (arith, f.1, end)) f.2))
