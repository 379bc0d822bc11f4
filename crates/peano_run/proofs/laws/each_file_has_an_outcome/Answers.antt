use Rattle.peano_run.proofs.EachFile.{each_file_has_an_outcome}
use Rattle.peano_run.proofs.laws.each_file_has_an_outcome.Goals as goal

pub returns : goal.returns
returns c = each_file_has_an_outcome
