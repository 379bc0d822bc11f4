use Rattle.stack_walks.proofs.Ranges.{range_test_is_exact}
use Rattle.stack_walks.proofs.engine_laws.range_test_is_exact.Goals as goal

pub returns : goal.returns
returns c = range_test_is_exact
