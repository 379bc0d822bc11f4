use Rattle.step_world.proofs.Parts.{step_keeps_parts}
use Rattle.step_world.proofs.step_laws.step_keeps_parts.Goals as goal

pub returns : goal.returns
returns c = step_keeps_parts
