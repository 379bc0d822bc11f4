use Rattle.std.proofs.Common.{sym, ◌∙◌}
use Rattle.spacetree.proofs.Leaves.{leaf_from}
use Rattle.task_core.specs.declared.stop.Stop.TheVariants.{Compute, Offer}
use Rattle.task_core.specs.Work.{IsServedStop}
use Rattle.task_core.specs.Tours.{cuts_in}
use Rattle.task_core.proofs.Toured.{each_one, deeper}
use Rattle.task_core.proofs.visits.Tour.stop_at.Goals as goal

pub returns-then-has_border-clause-served : goal.returns-then-has_border-clause-served
returns-then-has_border-clause-served c = λ n field.
    let t = c.args.self.now.grid.now in
    let cut = c.requires.tour.grid in
    each_one (IsServedStop n) (Compute c.leaf-leaf.result) (c.leaf-leaf.ensures.served n (deeper (cuts_in c.args.self.now).depth t cut.grid cut.deepest) field (leaf_from t c.args.cell c.requires.cell c.requires.there (sym c.is_refined.ensures ∙ c.if-is_refined.false)))

pub returns-clause-served : goal.returns-clause-served
returns-clause-served c = λ n field.
    let t = c.args.self.now.grid.now in
    let cut = c.requires.tour.grid in
    each_one (IsServedStop n) (Offer c.leaf-leaf.result) (c.leaf-leaf.ensures.served n (deeper (cuts_in c.args.self.now).depth t cut.grid cut.deepest) field (leaf_from t c.args.cell c.requires.cell c.requires.there (sym c.is_refined.ensures ∙ c.if-is_refined.false)))
