use Rattle.std.proofs.Common.{ap, ◌∙◌, sym}
use Rattle.std.specs.FinMap as map
use Rattle.spacetree.proofs.CellMaps.{get_cell}
use Rattle.task_core.proofs.answers.AnswerMap.get.Goals as goal

pub returns : goal.returns
returns c = c.copied.ensures ∙ c.get.ensures.value ∙ sym (get_cell c.self.inside.found.entries c.args.key.now) ∙ ap (λ m. map.get m c.args.key.now) c.self.view_is
