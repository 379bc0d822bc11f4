use Rattle.worked_sweeps.proofs.intending.write_vertex.Goals as goal

pub loop-n-init : goal.loop-n-init
loop-n-init g c = λ p number lists. lists

pub loop-n-preserved : goal.loop-n-preserved
loop-n-preserved g c = λ p number lists. c.write_slot.ensures p number (c.loop-n.invariant p number lists)

pub returns : goal.returns
returns g c = c.loop-n.invariant
