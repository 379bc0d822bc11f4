use Rattle.step_phases.proofs.Rests.{homes_show_values}
use Rattle.step_phases.proofs.store_laws.homes_show_values.Goals as goal

pub returns : goal.returns
returns c = homes_show_values
