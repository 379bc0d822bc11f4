use Rattle.std.proofs.Common.{◌≡◌, drop, filter}
use Rattle.peano_keys.specs.State.{count_of}
use Rattle.spacetree.specs.Opening.{last_value, lies_in, zeros}
use Rattle.spacetree.proofs.opening.opening_state.Given as goal

abbrev pub invariant-loop-fill : goal.invariant-loop-fill
invariant-loop-fill l = record {
  told : last_value l.state (filter (lies_in l.dim l.key) (drop l.fill-index l.fills)) ≡ last_value (zeros l.parts) (filter (lies_in l.dim l.key) l.fills);
  count : count_of l.state ≡ l.parts;
}
