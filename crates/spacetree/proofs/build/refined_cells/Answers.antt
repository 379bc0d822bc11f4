use Rattle.std.proofs.Common.{arith, ap, ◌∙◌, sym, subst}
use Rattle.std.proofs.lemmas.Bool.{false≢true}
use Rattle.std.specs.FinSet as set
use Rattle.peano_keys.specs.Cell.{key_cmp}
use Rattle.spacetree.specs.Counts.{cells_for}
use Rattle.spacetree.specs.Build.{IsUnder}
use Rattle.spacetree.proofs.Descents.{under_root}
use Rattle.spacetree.proofs.build.refined_cells.Goals as goal

pub add_under-requires-clause-within : goal.add_under-requires-clause-within
add_under-requires-clause-within c q h = absurd (false≢true (sym (set.contains-empty key_cmp q) ∙ ap (λ s. set.contains s q) (sym c.new-cells.ensures) ∙ h))

pub add_under-requires-clause-fits : goal.add_under-requires-clause-fits
add_under-requires-clause-fits c =
    let none = ap (cells_for c.args.shape.now.dim) (ap set.len c.new-cells.ensures ∙ set.len-empty key_cmp) in
    omega (arith, none)

pub returns-clause-all : goal.returns-clause-all
returns-clause-all c q opened = c.in_ok-add_under.ensures.under q opened (subst (λ top. IsUnder top q) (sym c.root.ensures) (under_root c.args.shape.now.dim q opened.cell))
