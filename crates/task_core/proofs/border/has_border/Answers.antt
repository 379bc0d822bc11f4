use Rattle.std.proofs.Common.{◌≤◌, sym, subst, ◌∙◌, arith, below_more}
use Rattle.std.proofs.lemmas.Bool.{false≢true}
use Rattle.peano_keys.specs.Dim.{corners}
use Rattle.peano_keys.specs.Vertex.{corner_of}
use Rattle.curve_cuts.specs.Keys.{cuts_of}
use Rattle.curve_cuts.specs.Enclave.{IsAtBorder}
use Rattle.task_core.proofs.border.has_border.Goals as goal

pub loop-n-preserved : goal.loop-n-preserved
loop-n-preserved c = below_more (λ m. ¬ IsAtBorder (cuts_of c.args.keys.now) c.args.grid.now c.args.tree (corner_of c.args.cell m)) c.loop-n.n c.loop-n.invariant
    (λ border. false≢true (sym c.if-is_at_border.false ∙ c.is_at_border.ensures.1 (subst (IsAtBorder (cuts_of c.args.keys.now) c.args.grid.now c.args.tree) (sym c.corner.ensures.value) border)))

pub returns : goal.returns
returns c =
    let end : corners c.args.keys.now.dim ≤ c.loop-n.n = subst (λ d. corners d ≤ c.loop-n.n) (c.dim-dim.ensures ∙ c.requires.grid.dim) (omega (arith, c.loop-n-test.false, c.corner_count-n-end.ensures)) in (
      λ h. absurd (false≢true h),
      λ border. absurd (c.loop-n.invariant border.0 (let below = border.1 in omega (arith, below, end)) border.2),
    )
