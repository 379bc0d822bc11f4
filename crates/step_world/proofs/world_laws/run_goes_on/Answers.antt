use Rattle.step_world.proofs.Worlds.{run_goes_on}
use Rattle.step_world.proofs.world_laws.run_goes_on.Goals as goal

pub returns : goal.returns
returns c = run_goes_on
