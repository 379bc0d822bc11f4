use Rattle.spacetree.proofs.LeadsOn.{each_step_leads_on}
use Rattle.spacetree.proofs.laws.each_step_leads_on.Goals as goal

pub returns : goal.returns
returns c = each_step_leads_on
