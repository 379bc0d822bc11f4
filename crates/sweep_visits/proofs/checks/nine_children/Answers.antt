use Rattle.sweep_visits.proofs.Sanity.{nine_children}
use Rattle.sweep_visits.proofs.checks.nine_children.Goals as goal

pub returns : goal.returns
returns c = nine_children
