-- What follows from the sentences of the rule of the desk.
use Rattle.std.proofs.Common.{◌≡◌, ℕ, ◌<◌, true}
use Rattle.result_table.specs.declared.updates.Updates.{Ghosts}
use Rattle.result_table.specs.declared.view.View.{View}
use Rattle.result_table.specs.declared.view.Brief.{Brief}
use Rattle.result_table.specs.Views.{DeskState, has}
use Rattle.result_table.specs.Rule.{DeskRule, IsView}
use Rattle.result_table.specs.Laws.{IsOneOf}
use Rattle.result_table.proofs.Back.{refuted, published_is_claimed}

module _ {S : Type 0} {g : Ghosts S} (b : Brief S) (s : DeskState S g) (k : ℕ) where
  pub one_publication : (i j : ℕ) (v w : View S) → DeskRule b s → k < b.size → IsView s i v → IsView s j w → has v.published k ≡ true → has w.published k ≡ true → i ≡ j
  one_publication i j v w rule below at at' p p' = rule.one_claim k i j v w below at at' (rule.claimed_first k i v below at p) (rule.claimed_first k j w below at' p')

  pub one_collection : (v : View S) → DeskRule b s → k < b.size → IsView s 0 v → IsOneOf v k
  one_collection v rule below at = record {
    gathered = λ e. (
      refuted (has v.idle k) (λ d. rule.idle k v below at d (published_is_claimed b s rule k below (rule.gathered k v below at e))),
      refuted (has v.busy k) (λ d. (rule.busy k v below at d).1 (rule.gathered k v below at e)),
    );
    idle = λ e. refuted (has v.busy k) (λ d. rule.idle k v below at e (rule.busy k v below at d).0);
  }
