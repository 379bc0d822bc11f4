use Rattle.std.proofs.Common.{ap, ap₂, ◌∙◌}
use Rattle.peano_records.specs.AtRest.{intent_between, status_of}
use Rattle.worked_sweeps.proofs.intending.is_cell_told.Goals as goal

pub returns : goal.returns
returns c told = record {
  status = c.is_status.ensures c.if-not-is_status.false ∙ c.status.ensures ∙ ap status_of c.is_refined-refined.ensures;
  intent = c.is_intent.ensures told ∙ c.intent.ensures ∙ ap₂ intent_between c.is_refined-refined.ensures c.is_refined.ensures;
}
