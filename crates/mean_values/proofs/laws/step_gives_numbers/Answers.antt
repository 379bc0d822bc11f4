use Rattle.mean_values.proofs.Steps.{step_gives_numbers}
use Rattle.mean_values.proofs.laws.step_gives_numbers.Goals as goal

pub returns : goal.returns
returns c = step_gives_numbers
