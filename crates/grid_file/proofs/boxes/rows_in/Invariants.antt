use Rattle.std.proofs.Common.{◌≡◌, ◌++◌, drop}
use Rattle.toml.specs.View.{items_view}
use Rattle.grid_file.specs.Faults.{first}
use Rattle.grid_file.specs.Keys.{in_each}
use Rattle.grid_file.specs.Boxes.{read_each}
use Rattle.grid_file.proofs.boxes.rows_in.Given as goal

abbrev pub invariant-loop-index : goal.invariant-loop-index
invariant-loop-index g l = record {
  faults : first g.R.Row.CODE (in_each (g.R.Row.checks l.head) l.index (items_view (drop l.index l.items))) ≡ first g.R.Row.CODE (in_each (g.R.Row.checks l.head) 0 (items_view l.items));
  rows : l.rows.items ++ read_each (g.R.Row.says l.head) (items_view (drop l.index l.items)) ≡ read_each (g.R.Row.says l.head) (items_view l.items);
}
