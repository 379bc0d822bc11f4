use Rattle.std.proofs.Common.{ap, ◌∙◌, sym, map}
use Rattle.std.proofs.lemmas.Result.{IfOk-weaker}
use Rattle.spacetree.specs.Fields.{row_of, rows_of}
use Rattle.spacetree.proofs.CellMaps.{entries_in_order}
use Rattle.spacetree.proofs.field.Field.rows.Goals as goal

pub returns : goal.returns
returns c =
    let es = c.self.inside.states.entries in
    IfOk-weaker c.rows_in.result _ _ (λ rows e. e ∙ ap (map row_of) (sym (entries_in_order es c.rows_in.ensures.order)) ∙ ap rows_of c.self.view_is) c.rows_in.ensures.value
