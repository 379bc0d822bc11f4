use Rattle.std.proofs.Common.{◌≡◌, ◌∙◌, ap, sym, refl, subst, arith}
use Rattle.std.proofs.lemmas.Bool.{false≢true}
use Rattle.peano_keys.specs.Dim.{corners}
use Rattle.peano_records.specs.Tells.{corner_at}
use Rattle.adapt_marks.specs.Views.{dim_shown}
use Rattle.adapt_marks.specs.Decisions.{CornerCoarsens}
use Rattle.adapt_marks.proofs.Decided.{merges_if, only_if_merges}
use Rattle.adapt_marks.proofs.marks.merges.Goals as goal

pub returns-then-not-corner_coarsens : goal.returns-then-not-corner_coarsens
returns-then-not-corner_coarsens c = λ g marks centre shows. (
  λ h. absurd (false≢true h),
  λ m.
      let counted : c.corner_count-count.result ≡ corners (dim_shown c.args.centre.now) = c.corner_count-count.ensures.value ∙ ap corners c.dim_of.ensures in
      let here : CornerCoarsens c.corner_count-count.result (corner_at c.args.centre.now c.loop-n.n) = only_if_merges g marks c.args.centre.now centre shows c.corner_count-count.result counted m c.loop-n.n (omega arith) in
      c.if-not-corner_coarsens.ensures.1 (subst (CornerCoarsens c.corner_count-count.result) (sym c.corner_in.ensures) here),
)

pub returns : goal.returns
returns c = λ g marks centre shows.
    let counted : c.corner_count-count.result ≡ corners (dim_shown c.args.centre.now) = c.corner_count-count.ensures.value ∙ ap corners c.dim_of.ensures in (
      λ h. merges_if g marks c.args.centre.now centre shows c.corner_count-count.result counted (λ n below. c.loop-n.invariant n (omega (arith, below))),
      λ m. refl,
    )
