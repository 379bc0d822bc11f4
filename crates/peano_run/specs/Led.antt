-- A world that is led from step to step.
use Rattle.std.specs.Prelude.{◌≡◌, ℕ}
use Rattle.peano_keys.specs.Grid.{Spacetree}
use Rattle.peano_keys.specs.Field.{States}
use Rattle.volume_solver.specs.declared.any.AnySolver.{AnySolver}
use Rattle.volume_solver.specs.Any.{parts_in}
use Rattle.step_driver.specs.Worlds.{Seen, IsAt}
use Rattle.grid_file.specs.declared.plan.Plan.{Plan}
use Rattle.demonstration.specs.Demo.{demo}
use Rattle.peano_run.specs.Left.{HasFirstNotes, HasNotesBefore}

-- a world of a plan's run that has come to a step, which is not shown yet
pub record IsLed (trees : ℕ) (plan : Plan) (step : ℕ) (w : Seen AnySolver) : Type 0 where
  pub grid : Spacetree
  pub field : States
  pub at : IsAt (parts_in plan.solver) w grid field step
  pub solver : w.solver ≡ plan.solver
  pub recut : w.recut ≡ plan.recut_every
  pub noted : HasNotesBefore trees plan w.keys step grid field w.notes

-- the world at a plan's opening grid, with its opening field
pub record IsFirst (trees : ℕ) (plan : Plan) (g : Spacetree) (w : Seen AnySolver) : Type 0 where
  pub field : States
  pub at : IsAt (parts_in plan.solver) w g field 0
  pub solver : w.solver ≡ plan.solver
  pub recut : w.recut ≡ plan.recut_every
  pub noted : HasFirstNotes trees plan w.keys g field w.notes

-- a plan is that of a demonstration
abbrev pub IsDemo : Plan → Type 0
IsDemo plan = (n : ℕ) × (plan ≡ demo n)
