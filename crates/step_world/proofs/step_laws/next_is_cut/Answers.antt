use Rattle.step_world.proofs.Worlds.{next_is_cut}
use Rattle.step_world.proofs.step_laws.next_is_cut.Goals as goal

pub returns : goal.returns
returns c = next_is_cut
