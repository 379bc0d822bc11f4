use Rattle.handed_down.proofs.surroundings.Surroundings.+of_cell.Given as goal

abbrev pub decreases-of_cell : goal.decreases-of_cell
decreases-of_cell l = l.cell.level
