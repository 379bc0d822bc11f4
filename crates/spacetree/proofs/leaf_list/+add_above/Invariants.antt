use Rattle.spacetree.proofs.leaf_list.+add_above.Given as goal

abbrev pub decreases-add_above : goal.decreases-add_above
decreases-add_above l = l.cell.level
