use Rattle.step_phases.proofs.Moments.{adapt_begins}
use Rattle.step_phases.proofs.sweep_laws.adapt_begins.Goals as goal

pub returns : goal.returns
returns c = adapt_begins
