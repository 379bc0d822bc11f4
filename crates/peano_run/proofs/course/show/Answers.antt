use Rattle.std.proofs.Common.{sym, subst, ◌∙◌}
use Rattle.peano_run.specs.Course.{StandsAtMoment, StandsUnshown, IsShowing}
use Rattle.peano_run.proofs.Showings.{not_printed}
use Rattle.peano_run.proofs.course.show.Goals as goal

pub print-requires-clause-way : goal.print-requires-clause-way
print-requires-clause-way g c κs within =
    let h = c.requires.way in
    (h.0, subst (λ n. StandsAtMoment c.args.plan.now n c.args.course h.0) (sym h.1.at.step_is) h.1)

pub returns-then-is_printed : goal.returns-then-is_printed
returns-then-is_printed g c = λ m h.
    let at = h.stands.at.step_is in
    subst (λ n. IsShowing c.args.request c.args.plan.now n m c.print.result) at (c.print.ensures m (subst (λ n. StandsUnshown c.args.request c.args.plan.now n c.args.course m) (sym at) h))

pub returns-else-is_printed : goal.returns-else-is_printed
returns-else-is_printed g c = λ m h. not_printed c.args.request c.args.plan.now c.args.step c.args.course m (sym c.is_printed.ensures ∙ c.if-is_printed.false) c.requires.lines h
