use Rattle.std.proofs.Common.{◌≡◌, drop}
use Rattle.toml.specs.View.{items_view}
use Rattle.grid_file.specs.Faults.{first}
use Rattle.grid_file.specs.Keys.{in_each}
use Rattle.grid_file.specs.Stages.{code_of, checks_of}
use Rattle.grid_file.proofs.passes.found_in_each.Given as goal

abbrev pub invariant-loop-index : goal.invariant-loop-index
invariant-loop-index l = first (code_of l.pass) (in_each (checks_of l.pass l.part) l.index (items_view (drop l.index l.items))) ≡ first (code_of l.pass) (in_each (checks_of l.pass l.part) 0 (items_view l.items))
