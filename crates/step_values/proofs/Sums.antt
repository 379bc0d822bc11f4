-- Sums after a secondary sweep.
use Rattle.std.proofs.Common.{◌≡◌, true, false, refl, ◌∙◌}
use Rattle.peano_records.specs.Slots.{slot_at}
use Rattle.step_phases.specs.Phases.{AfterSecondary}
use Rattle.step_phases.specs.Change.{Gives}
use Rattle.step_phases.proofs.Sweeps.{swept_says}
use Rattle.step_values.specs.Sums.{AfterPart, SumChanges, SumsComplete}

pub sums_complete : SumsComplete
sums_complete k w left_out t before after says swept = λ v has. swept_says k v (AfterPart k w left_out t) (AfterSecondary k w t) (SumChanges k w left_out t) (before v) (after v) (says v has) (swept v has) (λ n c below at p e. record {
  status = e.status ∙ p.status;
  value = e.value ∙ p.value;
  mark = λ leaf. e.mark ∙ p.mark leaf;
  next = λ owns. elim (left_out c) as (λ b. left_out c ≡ b → Gives (w.next c) (slot_at (after v) n).next) [
    | true ↦ λ s. e.added owns s
    | false ↦ λ s. λ x h. e.kept s ∙ p.next owns s x h
  ] refl;
  intent = λ owns. e.intent ∙ p.intent owns;
})
