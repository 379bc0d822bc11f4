use Rattle.std.proofs.Common.{sym, subst}
use Rattle.curve_cuts.specs.Leaves.{AreLeaves}
use Rattle.step_driver.proofs.keys.equal_keys.Goals as goal

pub equal-requires-clause-leaves : goal.equal-requires-clause-leaves
equal-requires-clause-leaves c = (
  c.args.grid.now,
  subst (λ dim. AreLeaves dim c.args.depth c.args.grid.now c.as_slice.result.now) (sym c.dim.ensures)
      (subst (AreLeaves c.args.grid.now.dim c.args.depth c.args.grid.now) (sym c.as_slice.ensures.value) c.in_ok-leaves.ensures),
)
