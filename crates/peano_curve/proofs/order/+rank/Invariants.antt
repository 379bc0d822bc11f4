use Rattle.peano_curve.proofs.order.+rank.Given as goal

abbrev pub decreases-rank : goal.decreases-rank
decreases-rank l = l.key.level
