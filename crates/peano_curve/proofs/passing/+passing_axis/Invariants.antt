use Rattle.peano_curve.proofs.passing.+passing_axis.Given as goal

abbrev pub decreases-passing_axis : goal.decreases-passing_axis
decreases-passing_axis l = l.cell.level
