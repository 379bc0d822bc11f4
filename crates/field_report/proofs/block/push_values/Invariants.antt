use Rattle.std.proofs.Common.{◌≡◌, ◌++◌, take, string_bytes}
use Rattle.std.specs.List.{flat_map}
use Rattle.peano_keys.specs.State.{values_of}
use Rattle.field_report.specs.Block.{spaced_value}
use Rattle.field_report.proofs.block.push_values.Given as goal

abbrev pub invariant-loop-i : goal.invariant-loop-i
invariant-loop-i l = string_bytes l.text ≡ string_bytes l.fn.text ++ flat_map spaced_value (take l.i (values_of l.state))
