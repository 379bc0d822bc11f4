use Rattle.std.proofs.Common.{◌≡◌, drop}
use Rattle.toml.specs.View.{table_view}
use Rattle.grid_file.specs.Faults.{first}
use Rattle.grid_file.specs.Keys.{missing_among}
use Rattle.grid_file.proofs.passes.missing_among.Given as goal

abbrev pub invariant-loop-key : goal.invariant-loop-key
invariant-loop-key l = first 3 (missing_among (drop l.key-index l.keys) l.part l.index (table_view l.table)) ≡ first 3 (missing_among l.keys l.part l.index (table_view l.table))
