use Rattle.step_driver.proofs.NextTold.{told_grid}
use Rattle.step_driver.proofs.stepping.take_step.Given as goal

abbrev pub ghosts-adapt : goal.ghosts-adapt
ghosts-adapt g a = record { grid = told_grid a.keys.now.dim a.stores.items }
