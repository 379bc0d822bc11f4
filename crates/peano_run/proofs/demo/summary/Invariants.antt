use Rattle.peano_run.specs.Led.{IsLed}
use Rattle.peano_run.proofs.demo.summary.Given as goal

abbrev pub invariant-loop-step : goal.invariant-loop-step
invariant-loop-step g l = IsLed l.trees l.plan l.step l.world
