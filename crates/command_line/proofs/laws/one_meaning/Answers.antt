use Rattle.command_line.proofs.Meaning.{one}
use Rattle.command_line.proofs.laws.one_meaning.Goals as goal

pub returns : goal.returns
returns c = one
