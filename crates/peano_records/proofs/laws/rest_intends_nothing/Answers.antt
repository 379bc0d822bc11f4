use Rattle.peano_records.proofs.Intents.{rest_intends_nothing}
use Rattle.peano_records.proofs.laws.rest_intends_nothing.Goals as goal

pub returns : goal.returns
returns c = rest_intends_nothing
