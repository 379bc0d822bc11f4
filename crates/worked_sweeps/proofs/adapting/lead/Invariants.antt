use Rattle.worked_sweeps.proofs.adapting.lead.Given as goal

abbrev pub ghosts-adapt : goal.ghosts-adapt
ghosts-adapt a = record { grid = a.next.now }
