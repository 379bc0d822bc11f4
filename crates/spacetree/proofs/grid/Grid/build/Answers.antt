use Rattle.std.proofs.Common.{arith}
use Rattle.spacetree.proofs.Openings.{grid_of_shape}
use Rattle.spacetree.proofs.grid.Grid.build.Goals as goal

pub returns-clause-grid : goal.returns-clause-grid
returns-clause-grid c = grid_of_shape c.args.shape.now c.in_ok-refined.refined c.args.shape.now.depth c.requires (omega arith) c.in_ok-refined.ensures.within c.in_ok-refined.ensures.all

pub returns-clause-served : goal.returns-clause-served
returns-clause-served c = grid_of_shape c.args.shape.now c.in_ok-refined.refined 12 c.requires c.requires.depth c.in_ok-refined.ensures.within c.in_ok-refined.ensures.all

pub invariant_of-result : goal.invariant_of-result
invariant_of-result c = record {
  grid = grid_of_shape c.args.shape.now c.in_ok-refined.refined 12 c.requires c.requires.depth c.in_ok-refined.ensures.within c.in_ok-refined.ensures.all;
  room = c.in_ok-refined.ensures.fits;
}
