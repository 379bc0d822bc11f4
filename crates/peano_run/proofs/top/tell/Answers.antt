use Rattle.peano_run.specs.Run.{part}
use Rattle.peano_run.proofs.top.tell.Goals as goal

pub returns-in-Err : goal.returns-in-Err
returns-in-Err g c = part c.in-Err.field-0.written c.in-Err.ensures.part c.in-Err.ensures.cause.failed
