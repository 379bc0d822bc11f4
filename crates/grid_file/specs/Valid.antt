-- In which ranges a plan lies.
use Rattle.std.specs.Prelude.{◌≤◌, All, IfSome}
use Rattle.volume_solver.specs.Any.{parts_in, deepest_in}
use Rattle.spacetree.specs.Build.{IsShape}
use Rattle.spacetree.specs.Opening.{IsFill}
use Rattle.grid_file.specs.declared.limits.TheConstants.{DEEPEST, MOST_STEPS}
use Rattle.grid_file.specs.declared.plan.Plan.{Plan}

-- a plan is within its ranges: a shape that a grid is built from, of a depth that is served, fills of the solver's number
-- of values, a solver that refines no deeper than the grid, no more steps than are served, and trees that are cut anew
-- never, or every so many steps
pub record IsPlan (plan : Plan) : Type 0 where
  pub shape : IsShape plan.shape
  pub depth : plan.shape.depth ≤ DEEPEST
  pub fills : All (IsFill (parts_in plan.solver)) plan.fills
  pub deepest : deepest_in plan.solver ≤ plan.shape.depth
  pub steps : plan.steps ≤ MOST_STEPS
  pub recut_least : IfSome plan.recut_every (λ every. 1 ≤ every)
  pub recut_most : IfSome plan.recut_every (λ every. every ≤ MOST_STEPS)
