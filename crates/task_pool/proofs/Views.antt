-- What a hand knows after it gathered a task.
use Rattle.std.proofs.Common.{◌≡◌, ◌≢◌, ℕ, false, ◌||◌, List, ◌∷◌, sym, ap, subst, ◌∙◌, ne_eqb, ⊎_elim}
use Rattle.result_table.specs.Views.{has}
use Rattle.result_table.specs.Seats.{IsUncollected}
use Rattle.result_table.specs.declared.view.View.{View}
use Rattle.task_pool.specs.Seen.{Collects}

has_else : (xs : List ℕ) (k j : ℕ) → j ≢ k → has xs j ≡ false → has (k ∷ xs) j ≡ false
has_else xs k j not none = ap (λ b. b || has xs j) (ne_eqb j k not) ∙ none

-- another task stays uncollected
pub uncollected_else : {S : Type 0} (k j : ℕ) (v w : View S) → j ≢ k → Collects k v w → IsUncollected v j → IsUncollected w j
uncollected_else k j v w not gone none = ⊎_elim
    (λ e. subst (λ u. IsUncollected u j) (sym e) (has_else v.gathered k j not none.0, none.1, none.2))
    (λ h. ⊎_elim
    (λ e. subst (λ u. IsUncollected u j) (sym e) (none.0, has_else v.idle k j not none.1, none.2))
    (λ e. subst (λ u. IsUncollected u j) (sym e) (none.0, none.1, has_else v.busy k j not none.2))
    h)
    gone
