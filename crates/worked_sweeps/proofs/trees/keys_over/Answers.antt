use Rattle.worked_sweeps.proofs.trees.keys_over.Goals as goal

pub equal-requires-clause-leaves : goal.equal-requires-clause-leaves
equal-requires-clause-leaves g c = c.is_tiling.ensures.leaves c.if-is_tiling.true
