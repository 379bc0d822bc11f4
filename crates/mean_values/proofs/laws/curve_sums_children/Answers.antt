use Rattle.mean_values.proofs.Curves.{curve_sums_children}
use Rattle.mean_values.proofs.laws.curve_sums_children.Goals as goal

pub returns : goal.returns
returns c = curve_sums_children
