use Rattle.sweep_visits.proofs.Sanity.{middle_child}
use Rattle.sweep_visits.proofs.checks.middle_child.Goals as goal

pub returns : goal.returns
returns c = middle_child
