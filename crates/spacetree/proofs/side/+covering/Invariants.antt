use Rattle.spacetree.proofs.side.+covering.Given as goal

abbrev pub decreases-covering : goal.decreases-covering
decreases-covering l = l.key.level
