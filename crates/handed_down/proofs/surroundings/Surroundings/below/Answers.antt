use Rattle.handed_down.proofs.Inside.{held_below}
use Rattle.handed_down.proofs.surroundings.Surroundings.below.Goals as goal

pub returns : goal.returns
returns c = λ range depth up s. record { faces = c.faces_below.ensures s.faces; whole = λ w. held_below c.args.dim depth range c.args.cell c.requires.cell c.requires.below_root up (s.whole w) }
