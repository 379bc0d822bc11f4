use Rattle.curve_cuts.specs.Keys.{cuts_of}
use Rattle.boundary_streams.specs.Trees.{IsKeyOf}
use Rattle.worked_exchanges.proofs.FirstKeys.{FirstAre}
use Rattle.worked_exchanges.proofs.tests.expect_keys.Given as goal

abbrev pub invariant-loop-k : goal.invariant-loop-k
invariant-loop-k g l = FirstAre (IsKeyOf (cuts_of l.keys)) l.store.lanes.input l.k
