use Rattle.bench_visits.proofs.domain.one_tree.Goals as goal

pub equal-requires-clause-leaves : goal.equal-requires-clause-leaves
equal-requires-clause-leaves c = c.is_tiling.ensures.leaves c.if-not-is_tiling.false
