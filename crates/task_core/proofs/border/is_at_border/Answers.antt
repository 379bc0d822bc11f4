use Rattle.std.proofs.Common.{◌<◌, ◌≤◌, refl, sym, subst, ◌∙◌, arith, below_more}
use Rattle.std.proofs.lemmas.Bool.{false≢true}
use Rattle.peano_keys.specs.Dim.{corners}
use Rattle.curve_cuts.specs.Keys.{cuts_of}
use Rattle.task_core.specs.Tours.{IsBroken}
use Rattle.task_core.proofs.Borders.{broken_is, none_broken}
use Rattle.task_core.proofs.border.is_at_border.Goals as goal

pub returns-then-is_broken : goal.returns-then-is_broken
returns-then-is_broken c =
    let below : c.loop-n.n < corners c.args.grid.now.dim = subst (λ d. c.loop-n.n < corners d) c.dim.ensures (omega (arith, c.loop-n-test.true, c.corner_count-n-end.ensures.value)) in
    (λ _. broken_is (cuts_of c.args.keys.now) c.args.grid.now c.args.tree c.args.vertex c.requires.corner c.loop-n.n c.requires.vertex below (c.is_broken.ensures.0 c.if-is_broken.true), λ _. refl)

pub loop-n-preserved : goal.loop-n-preserved
loop-n-preserved c = below_more (λ m. ¬ IsBroken c.args.grid.now c.args.vertex m) c.loop-n.n c.loop-n.invariant (λ h. false≢true (sym c.if-is_broken.false ∙ c.is_broken.ensures.1 h))

pub returns : goal.returns
returns c =
    let end : corners c.args.grid.now.dim ≤ c.loop-n.n = subst (λ d. corners d ≤ c.loop-n.n) c.dim.ensures (omega (arith, c.loop-n-test.false, c.corner_count-n-end.ensures.value)) in (
      λ h. absurd (false≢true h),
      λ border. absurd (none_broken (cuts_of c.args.keys.now) c.args.grid.now c.args.tree c.args.vertex c.requires.corner (λ shared. false≢true (sym c.if-is_shared.false ∙ c.is_shared.ensures.1 shared)) (λ m below. c.loop-n.invariant m (omega (arith, below, end))) border),
    )
