use Rattle.task_core.proofs.Desks.{publications_are_publish}
use Rattle.task_core.proofs.laws.publications_are_publish.Goals as goal

pub returns : goal.returns
returns c = publications_are_publish
