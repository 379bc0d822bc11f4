use Rattle.std.proofs.Common.{◌≡◌, take, fold}
use Rattle.std.specs.Int.{int_max}
use Rattle.peano_keys.specs.State.{value_at}
use Rattle.field_report.specs.Summary.{first_values}
use Rattle.field_report.proofs.Lows.{first_of}
use Rattle.field_report.proofs.summary.highest.Given as goal

abbrev pub invariant-loop-row : goal.invariant-loop-row
invariant-loop-row l = value_at l.high 0 ≡ fold int_max (first_of l.rows) (take l.row-index (first_values l.rows))
