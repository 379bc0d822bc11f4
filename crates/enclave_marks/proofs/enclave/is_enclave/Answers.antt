use Rattle.std.proofs.Common.{ℕ, ◌<◌, ◌≤◌, refl, sym, subst, ◌∙◌, arith, below_more}
use Rattle.std.proofs.lemmas.Bool.{false≢true}
use Rattle.peano_keys.specs.Dim.{corners}
use Rattle.peano_keys.specs.Vertex.{IsVertex, corner_of}
use Rattle.peano_records.specs.Tells.{corner_at}
use Rattle.curve_cuts.specs.Keys.{cuts_of}
use Rattle.enclave_marks.specs.Corners.{ShowsBorder}
use Rattle.enclave_marks.proofs.Border.{enclave_if, no_enclave, skeleton_if, no_skeleton}
use Rattle.enclave_marks.proofs.enclave.is_enclave.Goals as goal

pub returns-then-shows_border : goal.returns-then-shows_border
returns-then-shows_border c =
    let below : c.loop-n.n < corners c.args.keys.now.dim = subst (λ d. c.loop-n.n < corners d) c.dim-dim.ensures (omega (arith, c.corner_count-n-end.ensures.value)) in
    let vertex : IsVertex c.args.keys.now.dim (corner_of c.args.view.now.key c.loop-n.n) = subst (IsVertex c.args.keys.now.dim) c.corner.ensures.value (subst (λ d. IsVertex d c.corner.result) c.dim-dim.ensures c.corner.ensures.vertex) in
    let border : ShowsBorder (cuts_of c.args.keys.now) c.args.tree (corner_of c.args.view.now.key c.loop-n.n) (corner_at c.args.view.now c.loop-n.n) = subst (ShowsBorder (cuts_of c.args.keys.now) c.args.tree (corner_of c.args.view.now.key c.loop-n.n)) c.corner_in.ensures (subst (λ w. ShowsBorder (cuts_of c.args.keys.now) c.args.tree w c.corner_in.result.now) c.corner.ensures.value (c.shows_border.ensures.0 c.if-shows_border.true)) in
    record {
      enclave = λ g same shows owns. (
        (λ h. absurd (false≢true h)),
        (λ enclave. absurd (no_enclave (cuts_of c.args.keys.now) g c.args.tree c.args.view.now same shows owns c.loop-n.n below vertex border enclave)),
      );
      skeleton = λ g same shows owns. ((λ h. skeleton_if (cuts_of c.args.keys.now) g c.args.tree c.args.view.now same shows owns c.loop-n.n below vertex border), (λ skeleton. refl));
    }

pub loop-n-preserved : goal.loop-n-preserved
loop-n-preserved c =
    below_more (λ m. ¬ ShowsBorder (cuts_of c.args.keys.now) c.args.tree (corner_of c.args.view.now.key m) (corner_at c.args.view.now m)) c.loop-n.n c.loop-n.invariant
    (λ border. false≢true (sym c.if-shows_border.false ∙ c.shows_border.ensures.1
    (subst (λ w. ShowsBorder (cuts_of c.args.keys.now) c.args.tree w c.corner_in.result.now) (sym c.corner.ensures.value)
    (subst (ShowsBorder (cuts_of c.args.keys.now) c.args.tree (corner_of c.args.view.now.key c.loop-n.n)) (sym c.corner_in.ensures) border))))

pub returns : goal.returns
returns c =
    let end : corners c.args.keys.now.dim ≤ c.loop-n.n = subst (λ d. corners d ≤ c.loop-n.n) c.dim-dim.ensures (omega (arith, c.corner_count-n-end.ensures.value)) in
    let none : (n : ℕ) → n < corners c.args.keys.now.dim → ¬ ShowsBorder (cuts_of c.args.keys.now) c.args.tree (corner_of c.args.view.now.key n) (corner_at c.args.view.now n) = λ n below. c.loop-n.invariant n (omega (arith, below, end)) in
    record {
      enclave = λ g same shows owns. ((λ h. enclave_if (cuts_of c.args.keys.now) g c.args.tree c.args.view.now same shows owns none), (λ enclave. refl));
      skeleton = λ g same shows owns. ((λ h. absurd (false≢true (sym h))), (λ skeleton. absurd (no_skeleton (cuts_of c.args.keys.now) g c.args.tree c.args.view.now same shows owns none skeleton)));
    }
