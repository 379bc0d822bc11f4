use Rattle.cell_sums.proofs.SumLaws.{numbers_sum_children}
use Rattle.cell_sums.proofs.laws.numbers_sum_children.Goals as goal

pub returns : goal.returns
returns c = numbers_sum_children
