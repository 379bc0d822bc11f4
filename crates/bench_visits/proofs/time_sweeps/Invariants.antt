use Rattle.std.proofs.Common.{◌≡◌}
use Rattle.curve_cuts.specs.Cuts.{IsCutGrid}
use Rattle.curve_cuts.specs.Keys.{cuts_of}
use Rattle.spacetree.specs.Fields.{IsFieldOn}
use Rattle.bench_visits.proofs.time_sweeps.Given as goal

abbrev pub invariant-loop : goal.invariant-loop
invariant-loop g l = record {
  grid : IsCutGrid (cuts_of l.keys) l.grid;
  one : (cuts_of l.keys).trees ≡ 1;
  field : IsFieldOn 1 l.grid l.field;
}
