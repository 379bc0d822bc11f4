use Rattle.sweep_visits.proofs.Ways.{tests_are_exact}
use Rattle.sweep_visits.proofs.laws.tests_are_exact.Goals as goal

pub returns : goal.returns
returns c = tests_are_exact
