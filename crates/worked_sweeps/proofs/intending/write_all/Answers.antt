use Rattle.worked_sweeps.proofs.intending.write_all.Goals as goal

pub loop-k-init : goal.loop-k-init
loop-k-init g c = λ p number lists. lists

pub loop-k-preserved : goal.loop-k-preserved
loop-k-preserved g c = λ p number lists. c.write_vertex.ensures p number (c.loop-k.invariant p number lists)

pub returns : goal.returns
returns g c = c.loop-k.invariant
