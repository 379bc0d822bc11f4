use Rattle.std.proofs.Common.{◌≡◌, ◌++◌, take, length, string_bytes}
use Rattle.std.specs.List.{flat_map}
use Rattle.field_report.specs.Block.{head_line, row_line}
use Rattle.field_report.proofs.block.field_text.Given as goal

abbrev pub invariant-loop-row : goal.invariant-loop-row
invariant-loop-row l = string_bytes l.text ≡ head_line l.step (length l.rows) ++ flat_map (row_line l.dim) (take l.row-index l.rows)
