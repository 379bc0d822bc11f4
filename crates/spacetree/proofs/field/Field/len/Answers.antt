use Rattle.std.proofs.Common.{ap, ◌∙◌, sym, length}
use Rattle.std.specs.FinMap as map
use Rattle.spacetree.proofs.CellMaps.{entries_in_order}
use Rattle.spacetree.proofs.field.Field.len.Goals as goal

pub returns : goal.returns
returns c =
    let es = c.self.inside.states.entries in
    c.len.ensures.len ∙ ap length (sym (entries_in_order es c.len.ensures.ordered)) ∙ sym (map.len-entries (map.from_entries es)) ∙ ap map.len c.self.view_is
