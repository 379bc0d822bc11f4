use Rattle.std.proofs.Common.{◌∙◌}
use Rattle.peano_program.specs.Status.{of_words, of_memory}
use Rattle.peano_program.proofs.start.program.Goals as goal

pub returns-in-Ok : goal.returns-in-Ok
returns-in-Ok g c = of_words _ _ _ _ _ _ c.answered.ensures

pub returns-in-Err : goal.returns-in-Err
returns-in-Err g c = of_memory (c.from.ensures ∙ c.status.ensures)
