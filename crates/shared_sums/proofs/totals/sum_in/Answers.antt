use Rattle.std.proofs.Common.{rules, sym, ◌∙◌}
use Rattle.std.specs.Prelude.{pos, slice_index_or}
use Rattle.std.specs.Int.{w128}
use Rattle.std.specs.Int.RustNames.{FitsSigned}
use Rattle.std.proofs.lemmas.Int.{to_z-of_z}
use Rattle.sweep_visits.specs.Moves.{same_cell}
use Rattle.peano_records.specs.declared.partials.Partial.{Partial}
use Rattle.shared_sums.specs.Bounds.{HasSmallSums}
use Rattle.shared_sums.proofs.Sums.{found}
use Rattle.shared_sums.proofs.totals.sum_in.Goals as goal

pub returns-in-Some-clause-bound : goal.returns-in-Some-clause-bound
returns-in-Some-clause-bound c =
    let small : HasSmallSums c.in-Some.partial = found HasSmallSums (λ (p : Partial). same_cell p.key c.args.key) c.args.partials.now c.in-Some.partial (sym c.partial_of.ensures ∙ c.in-Some.is) c.requires.small in
    let fits : FitsSigned w128 (slice_index_or c.in-Some.partial.sums c.args.i (pos 0)) = search rules in
    rw (to_z-of_z w128 (slice_index_or c.in-Some.partial.sums c.args.i (pos 0)) fits) (small c.args.i c.requires.component)
