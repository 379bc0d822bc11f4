use Rattle.std.proofs.Common.{ap, ◌∙◌}
use Rattle.step_sweeps.specs.Secondaries.{SecondaryWork}
use Rattle.step_sweeps.proofs.Secondaries.{refined_by, refined_may}
use Rattle.step_sweeps.proofs.secondary.SecondaryVisitor.leave.Goals as goal

pub returns-clause-slots : goal.returns-clause-slots
returns-clause-slots g c = refined_may (λ _. c.parts-parts.result) c.args.self.now c.args.cell.now c.finish.new.cell c.finish.new.self c.requires c.finish.ensures.left

pub returns-clause-done : goal.returns-clause-done
returns-clause-done g c = (
  c.finish.new.self,
  c.sum_up.new.self,
  refined_by c.parts-parts.result (λ s. g.S.Solver.parts_of s) c.args.self.now c.args.cell.now c.finish.new.cell c.finish.new.self (c.parts-parts.ensures.value ∙ ap (λ (x : SecondaryWork _). g.S.Solver.parts_of x.solver) c.self.view_is) c.finish.ensures.left,
  c.sum_up.ensures.left,
  c.remember.ensures.left,
)
