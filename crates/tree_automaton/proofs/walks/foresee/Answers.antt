use Rattle.std.proofs.Common.{refl, sym, ◌∙◌, subst}
use Rattle.peano_keys.specs.Cell.{IsCell}
use Rattle.tree_automaton.proofs.Promised.{foreseen, not_plain}
use Rattle.tree_automaton.proofs.walks.foresee.Goals as goal

pub returns-then-is_new : goal.returns-then-is_new
returns-then-is_new g c = record {
  visitor = c.refined_after-refined.ensures.same;
  others = refl;
  will = λ m decides for_sweep taken. foreseen m c.args.view.now.key decides.sweep (subst (λ d. IsCell d c.args.view.now.key) for_sweep.dim c.requires.cell) (g.V.Visitor.meaning c.args.visitor.now) c.args.view.now c.refined_after-refined.result for_sweep (not_plain c.args.course.now.serves m.sweep.serves decides.is.serves c.in-Raising.is) taken c.refined_after-refined.ensures.value (sym (c.is_new.ensures m.sweep c.args.view.now.key decides) ∙ c.if-is_new.true);
}
