use Rattle.std.proofs.Common.{ap, ◌∙◌}
use Rattle.std.specs.FinSet as set
use Rattle.spacetree.proofs.CellMaps.{one_added}
use Rattle.spacetree.proofs.cells.CellSet.insert.Goals as goal

pub returns-clause-ok : goal.returns-clause-ok
returns-clause-ok c = one_added c.self.inside.keys.keys c.insert.new.self.keys c.args.key c.in_ok-insert.ensures.updates.0 ∙ ap (λ s. set.insert s c.args.key) c.self.view_is
