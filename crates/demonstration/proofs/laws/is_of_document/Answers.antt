use Rattle.demonstration.proofs.Documents.{is_of_document}
use Rattle.demonstration.proofs.laws.is_of_document.Goals as goal

pub returns : goal.returns
returns c = is_of_document
