use Rattle.std.proofs.Common.{◌≡◌, true, false, refl, ap, sym, ◌∙◌, arith}
use Rattle.std.specs.Prelude.{[], pos, slice_index_or}
use Rattle.peano_keys.specs.declared.state.State.{State}
use Rattle.peano_keys.specs.declared.state.State.TheVariants.{Single}
use Rattle.peano_keys.specs.State.{value_at}
use Rattle.spacetree.specs.declared.row.Row.{Row}
use Rattle.field_report.proofs.Lows.{low_more, low_at_end}
use Rattle.field_report.proofs.summary.lowest.Goals.{then-is_below, else-is_below}
use Rattle.field_report.proofs.summary.lowest.Goals as goal

abbrev none : Row
none = record { key = record { level = 0; x = [] }; value = Single (pos 0) }

pub loop-row-preserved : goal.loop-row-preserved
loop-row-preserved c =
    let rows = c.args.rows.now in
    let i = c.loop-row.row-index in
    let v = value_at c.loop-row.low 0 in
    let x = value_at (slice_index_or rows i none).value 0 in
    let test = sym c.is_below.ensures in
    elim c.if-is_below.branch [
      | then-is_below w ↦ ap (λ (s : State). value_at s 0) w.low-is ∙ low_more rows i v x none true c.loop-row-test.true c.loop-row.invariant refl (test ∙ w.if-is_below.true)
      | else-is_below w ↦ ap (λ (s : State). value_at s 0) w.low-is ∙ low_more rows i v x none false c.loop-row-test.true c.loop-row.invariant refl (test ∙ w.if-is_below.false)
    ]

pub returns : goal.returns
returns c = low_at_end c.args.rows.now (value_at c.loop-row.low 0) c.loop-row.row-index c.requires (omega (arith, c.loop-row-test.false, c.loop-row.auto.row-index-end)) c.loop-row.invariant
