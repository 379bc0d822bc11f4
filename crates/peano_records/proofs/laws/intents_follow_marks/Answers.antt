use Rattle.peano_records.proofs.Intents.{intents_follow_marks}
use Rattle.peano_records.proofs.laws.intents_follow_marks.Goals as goal

pub returns : goal.returns
returns c = intents_follow_marks
