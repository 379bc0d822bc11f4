use Rattle.std.proofs.Common.{ap, ◌∙◌}
use Rattle.std.specs.FinMap as map
use Rattle.spacetree.proofs.CellMaps.{one_given}
use Rattle.task_core.proofs.answers.AnswerMap.put.Goals as goal

pub returns-clause-ok : goal.returns-clause-ok
returns-clause-ok c =
    one_given c.self.inside.found.entries c.insert.new.self.entries c.args.key c.args.answer c.in_ok-insert.ensures.updates.0
    ∙ ap (λ m. map.insert m c.args.key c.args.answer) c.self.view_is
