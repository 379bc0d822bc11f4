use Rattle.std.proofs.Common.{ap, ◌∙◌, sym}
use Rattle.std.specs.FinSet as set
use Rattle.spacetree.proofs.CellMaps.{contains_cell}
use Rattle.spacetree.proofs.cells.CellSet.contains.Goals as goal

pub returns : goal.returns
returns c = c.contains.ensures ∙ sym (contains_cell c.self.inside.keys.keys c.args.key.now) ∙ ap (λ s. set.contains s c.args.key.now) c.self.view_is
