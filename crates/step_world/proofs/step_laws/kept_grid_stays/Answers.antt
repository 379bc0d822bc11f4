use Rattle.step_world.proofs.Worlds.{kept_grid_stays}
use Rattle.step_world.proofs.step_laws.kept_grid_stays.Goals as goal

pub returns : goal.returns
returns c = kept_grid_stays
