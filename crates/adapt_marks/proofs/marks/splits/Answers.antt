use Rattle.std.proofs.Common.{◌≡◌, ◌∙◌, ap, sym, subst}
use Rattle.std.proofs.lemmas.Bool.{false≢true}
use Rattle.peano_keys.specs.Vertex.{home_of, slot_from}
use Rattle.peano_keys.specs.declared.side.Mark.TheVariants.{Refine}
use Rattle.adapt_marks.specs.Views.{dim_shown}
use Rattle.adapt_marks.specs.Decisions.{IsLeafMarked}
use Rattle.adapt_marks.proofs.Decided.{splits_if, only_if_splits, never_splits}
use Rattle.adapt_marks.proofs.marks.splits.Goals as goal

pub returns-in-Vertex : goal.returns-in-Vertex
returns-in-Vertex c = λ g marks shows.
    let home : c.home_corner-home.result ≡ home_of (dim_shown c.args.leaf.now) c.args.leaf.now.key = c.home_corner-home.ensures.value ∙ ap (λ d. home_of d c.args.leaf.now.key) c.dim_of-dim.ensures in
    let slot : c.slot_of.result ≡ slot_from (dim_shown c.args.leaf.now) c.home_corner-home.result = c.slot_of.ensures.value ∙ ap (λ d. slot_from d c.home_corner-home.result) c.dim_of-dim.ensures in
    let is = sym c.corner_in.ensures ∙ c.in-Vertex.is in (
      λ h. splits_if g marks c.args.leaf.now shows c.home_corner-home.result home c.in-Vertex.stored is c.slot_of.result slot (subst (IsLeafMarked Refine) c.slot.ensures.value (c.is_leaf_marked.ensures.0 h)),
      λ split. c.is_leaf_marked.ensures.1 (subst (IsLeafMarked Refine) (sym c.slot.ensures.value) (only_if_splits g marks c.args.leaf.now shows c.home_corner-home.result home c.in-Vertex.stored is c.slot_of.result slot split)),
    )

pub returns-in_default : goal.returns-in_default
returns-in_default c = λ g marks shows.
    let home : c.home_corner-home.result ≡ home_of (dim_shown c.args.leaf.now) c.args.leaf.now.key = c.home_corner-home.ensures.value ∙ ap (λ d. home_of d c.args.leaf.now.key) c.dim_of-dim.ensures in (
      λ h. absurd (false≢true h),
      λ split. absurd (never_splits g marks c.args.leaf.now shows c.home_corner-home.result home (λ s is. c.in_default.not-Vertex s (c.corner_in.ensures ∙ is)) split),
    )
