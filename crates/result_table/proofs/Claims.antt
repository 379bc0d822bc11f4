-- A claim keeps the rule.
use Rattle.std.proofs.Common.{◌≡◌, ◌≢◌, ℕ, ◌+◌, ◌-◌, ◌<◌, eqb, Bool, true, false, List, sym, refl, ap, subst, ◌∙◌, arith, Option, eq-eqb, ne_eqb}
use Rattle.std.specs.Prelude.{slice_index}
use mathlib.Core.Option.{none}
use mathlib.Core.Logic.{dite}
use native.Mathlib.Decide.{ℕ_discrete}
use prog.Atomic.{either}
use Rattle.atomic_table.specs.Table.{Act, keeps, Valid, stepped, step, Allows, carried_after}
use Rattle.result_table.specs.declared.updates.Updates.{Ghosts}
use Rattle.result_table.specs.Views.{with_claimed, with_lost}
use Rattle.result_table.proofs.Fates.{Fate, unclaimed, claimed, Fits, Marks, marks, word_of, SlotOf, Holds}
use Rattle.result_table.specs.Words.{code}
use Rattle.result_table.specs.Plays.{Claims, Claimed, IsFresh}
use Rattle.result_table.specs.declared.view.View.{View}
use Rattle.result_table.specs.declared.view.Brief.{Brief}
use Rattle.result_table.specs.declared.done.Done.{Done}
use Rattle.result_table.specs.declared.word.Word.TheVariants.{Free}
use Rattle.result_table.specs.Rule.{DeskRule}
use Rattle.result_table.proofs.Moves.{moves}
use Rattle.result_table.proofs.Sentences.{free_is}
use Rattle.result_table.proofs.Back.{allows_by}
use Rattle.result_table.proofs.Marked.{claimed_here, claimed_else, lost_here, lost_else, by_eqb, at_below}

own : (id : ℕ) (m : Marks) → Fits id m unclaimed → Fits id (record m { claimed = true }) (claimed id)
own id m f = record { claimed = sym (eq-eqb id id refl); published = f.published; filling = f.filling; late = f.late; lost = λ _ e. omega (arith, ap code e); gathered = f.gathered; idle = f.idle; busy = f.busy }

theirs : (id i : ℕ) (m : Marks) → i ≢ id → Fits i m unclaimed → Fits i m (claimed id)
theirs id i m not f = record { claimed = f.claimed ∙ sym (ne_eqb id i (λ e. not (sym e))); published = f.published; filling = f.filling; late = f.late; lost = λ _ e. omega (arith, ap code e); gathered = f.gathered; idle = f.idle; busy = f.busy }

lost_own : (id : ℕ) (m : Marks) (f : Fate) → word_of f ≢ Free → Fits id m f → Fits id (record m { lost = true }) f
lost_own id m f taken old = record { claimed = old.claimed; published = old.published; filling = old.filling; late = old.late; lost = λ _. taken; gathered = old.gathered; idle = old.idle; busy = old.busy }

fresh_to : (id : ℕ) (m : Marks) → Fits id m unclaimed → (m.claimed ≡ false) × (m.published ≡ false) × (m.late ≡ false)
fresh_to id m f = (f.claimed, f.published, f.late)

module _ {S : Type 0} {g : Ghosts S} where
  pub claims : (b : Brief S) (id k : ℕ) (v : View S) (c : List (ℕ × Option (Done S g))) → k < b.size
      → Allows (Holds {S = S} {g = g} b) b.size id (v, c) (k + 1) (λ n. either (eqb n 0) (v.number + 3) n) (Claims (step b.size (k + 1) 0 (v.number + 3) none) (v, c))
  claims b id k v c below s held wide at fits =
      let fate = held.0 in
      let kept = held.1 in
      let task = kept.tasks k below in
      let n : ℕ = slice_index s.words (k + 1) in
      let mine = kept.seats id v at in
      let same : k + 1 - 1 ≡ k = omega arith in
      let G : Bool → Type 0 = λ t. (w : View S) × (a : Act (Option (Done S g))) × Valid s.homes c a × Holds b (stepped s (k + 1) (either t (v.number + 3) n) id c w a) × Claimed t (k + 1 - 1) (v, c) (w, carried_after c a) in
      dite (ℕ_discrete n 0)
      (λ hit. subst G (sym (eq-eqb n 0 hit)) (
      let free : fate k ≡ unclaimed = free_is (fate k) (sym task.word ∙ hit) in (
        with_claimed v k,
        keeps,
        tt,
        moves b id k s fate v (with_claimed v k) (claimed id) (v.number + 3) s.homes below kept at (ap (λ m. m + 3) mine.number)
            (subst (SlotOf b.solver.value s.homes k) free task.slot)
            (λ j _. refl)
            (λ t is. by_eqb id t is (λ e. rw (← e) (at_below s.views id v at)))
            refl refl refl
            (claimed_else v k)
            (λ old. subst (λ m. Fits id m (claimed id)) (sym (claimed_here v k)) (own id (marks v k) (subst (Fits id (marks v k)) free old)))
            (λ i m not old. theirs id i m not (subst (Fits i m) free old)),
        (refl, (ap (with_claimed v) (sym same), subst (IsFresh v) (sym same) (fresh_to id (marks v k) (subst (Fits id (marks v k)) free (mine.each k below))))),
      )))
      (λ miss. subst G (sym (ne_eqb n 0 miss)) (
        with_lost v k,
        keeps,
        tt,
        moves b id k s fate v (with_lost v k) (fate k) n s.homes below kept at task.word task.slot
            (λ j _. refl)
            (kept.known k)
            refl refl refl
            (lost_else v k)
            (λ old. subst (λ m. Fits id m (fate k)) (sym (lost_here v k)) (lost_own id (marks v k) (fate k) (λ e. miss (task.word ∙ ap code e)) old))
            (λ i m not old. old),
        (refl, ap (with_lost v) (sym same)),
      ))

  -- the same, in the words of the call
  pub claims_as : (b : Brief S) (id k size slots free taken number : ℕ) (v : View S) (c : List (ℕ × Option (Done S g))) → k < size → b.size ≡ size → slots ≡ size → free ≡ 0 → taken ≡ number + 3 → number ≡ v.number
      → Allows (DeskRule {S = S} {g = g} b) slots id (v, c) (k + 1) (λ n. either (eqb n free) taken n) (Claims (step slots (k + 1) free taken none) (v, c))
  claims_as b id k size slots free taken number v c below is_size is_slots is_free is_taken is_number =
      allows_by b slots id (k + 1) (v, c) (λ n. either (eqb n free) taken n) (Claims (step slots (k + 1) free taken none) (v, c)) (subst (λ (x : ℕ × ℕ × ℕ). Allows (Holds {S = S} {g = g} b) x.0 id (v, c) (k + 1) (λ n. either (eqb n x.1) x.2 n) (Claims (step x.0 (k + 1) x.1 x.2 none) (v, c))) (λ i. (sym (is_slots ∙ sym is_size) i, sym is_free i, sym (is_taken ∙ ap (λ (x : ℕ). x + 3) is_number) i))
      (claims b id k v c (omega (arith, below, is_size))))
