use Rattle.peano_run.proofs.Outcomes.{one_refusal}
use Rattle.peano_run.proofs.laws.one_refusal.Goals as goal

pub returns : goal.returns
returns c = one_refusal
