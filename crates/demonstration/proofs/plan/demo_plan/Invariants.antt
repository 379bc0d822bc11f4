use Rattle.std.proofs.Common.{◌≡◌, ◌+◌, ◌*◌, map}
use Rattle.std.specs.List.{range_with_len}
use Rattle.demonstration.specs.Draws.{number_after}
use Rattle.demonstration.specs.Demo.{fill_at, zone_at}
use Rattle.demonstration.proofs.plan.demo_plan.Given as goal

abbrev pub invariant-loop-fill : goal.invariant-loop-fill
invariant-loop-fill l = record {
  moved : l.draws.number ≡ number_after l.n (3 * l._fill);
  fills : l.fills.items ≡ map (fill_at l.n) (range_with_len 0 l._fill);
}

abbrev pub invariant-loop-zone : goal.invariant-loop-zone
invariant-loop-zone l = record {
  moved : l.draws.number ≡ number_after l.n (36 + 2 * l._zone);
  fills : l.fills.items ≡ map (fill_at l.n) (range_with_len 0 12);
  zones : l.zones.items ≡ map (zone_at l.n) (range_with_len 0 l._zone);
}
