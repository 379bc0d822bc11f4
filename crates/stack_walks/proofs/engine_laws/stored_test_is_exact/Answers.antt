use Rattle.stack_walks.proofs.StoredTest.{stored_test_is_exact}
use Rattle.stack_walks.proofs.engine_laws.stored_test_is_exact.Goals as goal

pub returns : goal.returns
returns c = stored_test_is_exact
