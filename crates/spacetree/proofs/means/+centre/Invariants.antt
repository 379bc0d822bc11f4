use Rattle.std.proofs.Common.{◌-◌}
use Rattle.spacetree.proofs.means.+centre.Given as goal

abbrev pub decreases-centre : goal.decreases-centre
decreases-centre l = 12 - l.key.level
