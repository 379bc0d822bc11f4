use Rattle.stack_walks.proofs.Fluxes.{fluxes_use_stacks}
use Rattle.stack_walks.proofs.engine_laws.fluxes_use_stacks.Goals as goal

pub returns : goal.returns
returns g c = fluxes_use_stacks _
