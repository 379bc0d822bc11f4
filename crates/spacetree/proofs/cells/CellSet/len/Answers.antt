use Rattle.std.proofs.Common.{ap, ◌∙◌, sym}
use Rattle.std.specs.FinSet as set
use Rattle.spacetree.proofs.CellMaps.{len_of_set}
use Rattle.spacetree.proofs.cells.CellSet.len.Goals as goal

pub returns : goal.returns
returns c = c.len.ensures.len ∙ sym (len_of_set c.self.inside.keys.keys c.len.ensures.ordered) ∙ ap set.len c.self.view_is
