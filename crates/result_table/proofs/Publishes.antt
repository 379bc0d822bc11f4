-- A slot that comes out, and a result that is published, keep the rule.
use Rattle.std.proofs.Common.{◌≡◌, ◌≢◌, ℕ, ◌+◌, ◌-◌, ◌<◌, eqb, Bool, true, false, List, ◌∷◌, set, sym, refl, ap, subst, ◌∙◌, arith, Option, Some, None, eq-eqb, ne_eqb, ◌⊎◌, inl, inr, ⊎_elim}
use Rattle.std.proofs.lemmas.Bool.{false≢true}
use Rattle.std.specs.Prelude.{slice_index, ◌==◌}
use mathlib.Core.Option.{some, none}
use lib.ListN.{get_elem?}
use prog.Atomic.{either}
use Rattle.atomic_table.specs.Table.{Act, keeps, takes, gives, Valid, stepped, step, Allows, carried_after}
use Rattle.atomic_table.proofs.Lists.{set_here, set_else}
use Rattle.result_table.specs.declared.updates.Updates.{Ghosts}
use Rattle.result_table.specs.Views.{DeskState, Homes, IsAtHome, has, is_number, with_filling, with_late, with_published}
use Rattle.result_table.proofs.Fates.{Fate, unclaimed, claimed, filled, published, gathered, idle, busy, overtaken, late, Fits, Marks, marks, word_of, SlotOf, Holds, Keeps}
use Rattle.result_table.proofs.Fates as fates
use Rattle.result_table.specs.Words.{code}
use Rattle.result_table.specs.Seen.{task_of, solver_of}
use Rattle.result_table.specs.Plays.{Fetches, Publishes, Ended, Mine}
use Rattle.result_table.specs.declared.view.View.{View}
use Rattle.result_table.specs.declared.view.Brief.{Brief}
use Rattle.result_table.specs.declared.done.Done.{Done}
use Rattle.result_table.specs.Rule.{DeskRule}
use Rattle.result_table.proofs.Moves.{moves}
use Rattle.result_table.proofs.Sentences.{held_is}
use Rattle.result_table.proofs.Back.{allows_by}
use Rattle.result_table.proofs.Marked.{filling_here, filling_else, published_here, published_else, late_here, late_else, by_eqb}

-- a task that a seat is filling in
out_is : (id : ℕ) (f : Fate) → fates.fills f id ≡ true → (f ≡ filled id) ⊎ (f ≡ overtaken id)
out_is id unclaimed o = absurd (false≢true o)
out_is id (claimed s) o = absurd (false≢true o)
out_is id (filled s) o = by_eqb s id o (λ is. inl (ap filled is))
out_is id (published s) o = absurd (false≢true o)
out_is id (gathered s) o = absurd (false≢true o)
out_is id idle o = absurd (false≢true o)
out_is id (busy s) o = absurd (false≢true o)
out_is id (overtaken s) o = by_eqb s id o (λ is. inr (ap overtaken is))
out_is id (late s) o = absurd (false≢true o)

claimed_fill : (id : ℕ) (m : Marks) → Fits id m (claimed id) → Fits id (record m { filling = true }) (filled id)
claimed_fill id m f = record { claimed = f.claimed; published = f.published; filling = sym (eq-eqb id id refl); late = f.late; lost = λ _ e. omega (arith, ap code e); gathered = f.gathered; idle = f.idle; busy = f.busy }

busy_fill : (id : ℕ) (m : Marks) → Fits id m (busy id) → Fits id (record m { filling = true }) (overtaken id)
busy_fill id m f = record { claimed = f.claimed; published = f.published; filling = sym (eq-eqb id id refl); late = f.late; lost = λ _ e. omega (arith, ap code e); gathered = f.gathered; idle = f.idle; busy = f.busy }

claimed_fill_theirs : (id i : ℕ) (m : Marks) → i ≢ id → Fits i m (claimed id) → Fits i m (filled id)
claimed_fill_theirs id i m not f = record { claimed = f.claimed; published = f.published; filling = f.filling ∙ sym (ne_eqb id i (λ e. not (sym e))); late = f.late; lost = λ _ e. omega (arith, ap code e); gathered = f.gathered; idle = f.idle; busy = f.busy }

busy_fill_theirs : (id i : ℕ) (m : Marks) → i ≢ id → Fits i m (busy id) → Fits i m (overtaken id)
busy_fill_theirs id i m not f = record { claimed = f.claimed; published = f.published; filling = f.filling ∙ sym (ne_eqb id i (λ e. not (sym e))); late = f.late; lost = λ _ e. omega (arith, ap code e); gathered = f.gathered; idle = f.idle; busy = f.busy }

filled_publish : (id : ℕ) (m : Marks) → Fits id m (filled id) → Fits id (record m { published = true; filling = false }) (published id)
filled_publish id m f = record { claimed = f.claimed; published = sym (eq-eqb id id refl); filling = refl; late = f.late; lost = λ _ e. omega (arith, ap code e); gathered = f.gathered; idle = f.idle; busy = f.busy }

filled_publish_theirs : (id i : ℕ) (m : Marks) → i ≢ id → Fits i m (filled id) → Fits i m (published id)
filled_publish_theirs id i m not f = record { claimed = f.claimed; published = f.published ∙ sym (ne_eqb id i (λ e. not (sym e))); filling = f.filling ∙ ne_eqb id i (λ e. not (sym e)); late = f.late; lost = λ _ e. omega (arith, ap code e); gathered = f.gathered; idle = f.idle; busy = f.busy }

overtaken_late : (id : ℕ) (m : Marks) → Fits id m (overtaken id) → Fits id (record m { late = true; filling = false }) (late id)
overtaken_late id m f = record { claimed = f.claimed; published = f.published; filling = refl; late = sym (eq-eqb id id refl); lost = λ _ e. omega (arith, ap code e); gathered = f.gathered; idle = f.idle; busy = f.busy }

overtaken_late_theirs : (id i : ℕ) (m : Marks) → i ≢ id → Fits i m (overtaken id) → Fits i m (late id)
overtaken_late_theirs id i m not f = record { claimed = f.claimed; published = f.published; filling = f.filling ∙ ne_eqb id i (λ e. not (sym e)); late = f.late ∙ sym (ne_eqb id i (λ e. not (sym e))); lost = λ _ e. omega (arith, ap code e); gathered = f.gathered; idle = f.idle; busy = f.busy }

module _ {S : Type 0} {g : Ghosts S} where
  -- the load by which the slot comes out, where the task's fate is f and becomes f'
  fetch_from : (b : Brief S) (id k : ℕ) (v : View S) (c : List (ℕ × Option (Done S g))) (s : DeskState S g) (fate : ℕ → Fate) (kept : Keeps b s fate) → k < b.size → get_elem? s.views id ≡ some v → v.filling ≡ None
      → (f f' : Fate) → fate k ≡ f → word_of f ≡ word_of f' → (SlotOf b.solver.value s.homes k f → IsAtHome s.homes k) → ((hs : Homes S g) → SlotOf b.solver.value hs k f') → ((t : ℕ) → fates.claims f' t ≡ true → fates.claims f t ≡ true)
      → ((m : Marks) → Fits id m f → Fits id (record m { filling = true }) f') → ((i : ℕ) (m : Marks) → i ≢ id → Fits i m f → Fits i m f')
      → (w : View S) × (a : Act (Option (Done S g))) × Valid s.homes c a × Holds b (stepped s (k + 1) (slice_index s.words (k + 1)) id c w a) × Fetches {S = S} {g = g} (step b.size (k + 1) 0 0 none) (v, c) (slice_index s.words (k + 1)) (w, carried_after c a)
  fetch_from b id k v c s fate kept below at rest f f' is word home out known own theirs =
      let task = kept.tasks k below in
      let slot = home (subst (SlotOf b.solver.value s.homes k) is task.slot) in
      let same : k + 1 - 1 ≡ k = omega arith in (
        with_filling v k,
        takes k slot.0,
        slot.1,
        moves b id k s fate v (with_filling v k) f' (slice_index s.words (k + 1)) (set s.homes k none) below kept at
            (task.word ∙ ap (λ (x : Fate). code (word_of x)) is ∙ ap code word)
            (out (set s.homes k none))
            (λ j other. set_else s.homes k j none other)
            (λ t e. kept.known k t (ap (λ (x : Fate). fates.claims x t) is ∙ known t e))
            refl refl refl
            (filling_else v k rest)
            (λ old. subst (λ m. Fits id m f') (sym (filling_here v k)) (own (marks v k) (subst (Fits id (marks v k)) is old)))
            (λ i m other old. theirs i m other (subst (Fits i m) is old)),
        (ap (with_filling v) (sym same), (slot.0, ap (λ (j : ℕ). (j, slot.0) ∷ c) (sym same))),
      )

  pub fetches : (b : Brief S) (id k : ℕ) (v : View S) (c : List (ℕ × Option (Done S g))) → k < b.size → v.filling ≡ None → has v.claimed k ≡ true → has v.published k ≡ false → has v.late k ≡ false
      → Allows (Holds {S = S} {g = g} b) b.size id (v, c) (k + 1) (λ n. n) (Fetches (step b.size (k + 1) 0 0 none) (v, c))
  fetches b id k v c below rest mine unpublished punctual s held wide at fits =
      let fate = held.0 in
      let kept = held.1 in
      let m = (kept.seats id v at).each k below in
      ⊎_elim
      (λ is. fetch_from b id k v c s fate kept below at rest (claimed id) (filled id) is refl (λ h. h) (λ _. tt) (λ t e. e) (claimed_fill id) (claimed_fill_theirs id))
      (λ is. fetch_from b id k v c s fate kept below at rest (busy id) (overtaken id) is refl (λ h. h) (λ _. tt) (λ t e. e) (busy_fill id) (busy_fill_theirs id))
      (held_is id (fate k) (sym m.claimed ∙ mine) (sym m.published ∙ unpublished) (sym m.late ∙ punctual) (sym m.filling ∙ ap (λ f. is_number f k) rest))

  pub publishes : (b : Brief S) (id k : ℕ) (v : View S) (done : Done S g) (c : List (ℕ × Option (Done S g))) → k < b.size → (task_of done).task ≡ k → solver_of done ≡ b.solver.value → v.filling ≡ Some k
      → Allows (Holds {S = S} {g = g} b) b.size id (v, (k, Some done) ∷ c) (k + 1) (λ n. either (eqb n (v.number + 3)) 1 n) (Publishes (step b.size (k + 1) (v.number + 3) 1 none) (v, (k, Some done) ∷ c))
  publishes b id k v done c below of_k of_solver out s held wide at fits =
      let fate = held.0 in
      let kept = held.1 in
      let task = kept.tasks k below in
      let seat = kept.seats id v at in
      let me : List (ℕ × Option (Done S g)) = (k, Some done) ∷ c in
      let n : ℕ = slice_index s.words (k + 1) in
      let same : k + 1 - 1 ≡ k = omega arith in
      let G : Bool → Type 0 = λ t. (w : View S) × (a : Act (Option (Done S g))) × Valid s.homes me a × Holds b (stepped s (k + 1) (either t 1 n) id me w a) × Ended t (k + 1 - 1) (v, me) (w, carried_after me a) in
      ⊎_elim
      (λ is.
      let hit : n ≡ v.number + 3 = task.word ∙ ap (λ (x : Fate). code (word_of x)) is ∙ ap (λ (x : ℕ). x + 3) (sym seat.number) in
      subst G (sym (eq-eqb n (v.number + 3) hit)) (
        with_published v k,
        gives,
        tt,
        moves b id k s fate v (with_published v k) (published id) 1 (set s.homes k (some (Some done))) below kept at refl
            (Some done, set_here s.homes k (some (Some done)) (omega (arith, wide, below)), record { done = done; is = refl; task = of_k; by = of_solver })
            (λ j other. set_else s.homes k j (some (Some done)) other)
            (λ t e. kept.known k t (ap (λ (x : Fate). fates.claims x t) is ∙ e))
            refl refl refl
            (published_else v k out)
            (λ old. subst (λ m. Fits id m (published id)) (sym (published_here v k)) (filled_publish id (marks v k) (subst (Fits id (marks v k)) is old)))
            (λ i m other old. filled_publish_theirs id i m other (subst (Fits i m) is old)),
        ap (λ (j : ℕ). (with_published v j, c)) (sym same),
      ))
      (λ is.
      let two : n ≡ 2 = task.word ∙ ap (λ (x : Fate). code (word_of x)) is in
      let miss : n ≢ v.number + 3 = λ e. omega (arith, e, two) in
      subst G (sym (ne_eqb n (v.number + 3) miss)) (
        with_late v k,
        keeps,
        tt,
        moves b id k s fate v (with_late v k) (late id) n s.homes below kept at two
            tt
            (λ j _. refl)
            (λ t e. kept.known k t (ap (λ (x : Fate). fates.claims x t) is ∙ e))
            refl refl refl
            (late_else v k out)
            (λ old. subst (λ m. Fits id m (late id)) (sym (late_here v k)) (overtaken_late id (marks v k) (subst (Fits id (marks v k)) is old)))
            (λ i m other old. overtaken_late_theirs id i m other (subst (Fits i m) is old)),
        ap (λ (j : ℕ). (with_late v j, me)) (sym same),
      ))
      (out_is id (fate k) (sym (seat.each k below).filling ∙ (ap (λ f. is_number f k) out ∙ eq-eqb k k refl)))

  -- the same, in the words of the calls
  pub fetches_as : (b : Brief S) (id k size slots : ℕ) (v : View S) (c : List (ℕ × Option (Done S g))) → k < size → b.size ≡ size → slots ≡ size → v.filling ≡ None → has v.claimed k ≡ true → has v.published k ≡ false → has v.late k ≡ false
      → Allows (DeskRule {S = S} {g = g} b) slots id (v, c) (k + 1) (λ n. n) (Fetches (step slots (k + 1) 0 0 none) (v, c))
  fetches_as b id k size slots v c below is_size is_slots rest mine unpublished punctual =
      allows_by b slots id (k + 1) (v, c) (λ n. n) (Fetches (step slots (k + 1) 0 0 none) (v, c)) (subst (λ (x : ℕ). Allows (Holds {S = S} {g = g} b) x id (v, c) (k + 1) (λ n. n) (Fetches (step x (k + 1) 0 0 none) (v, c))) (sym (is_slots ∙ sym is_size))
      (fetches b id k v c (omega (arith, below, is_size)) rest mine unpublished punctual))

  pub publishes_as : (b : Brief S) (id k size slots number taken : ℕ) (old v : View S) (done : Done S g) (me c : List (ℕ × Option (Done S g))) → k < size → b.size ≡ size → slots ≡ size → (task_of done).task ≡ k → solver_of done ≡ b.solver.value → number ≡ old.number → taken ≡ number + 3
      → v ≡ with_filling old (k + 1 - 1) → me ≡ (k, Some done) ∷ c
      → Allows (DeskRule {S = S} {g = g} b) slots id (v, me) (k + 1) (λ n. either (eqb n taken) 1 n) (Publishes (step slots (k + 1) taken 1 none) (v, me))
  publishes_as b id k size slots number taken old v done me c below is_size is_slots of_k of_solver is_number is_taken is carried =
      let same : k + 1 - 1 ≡ k = omega arith in
      let numbered : taken ≡ v.number + 3 = is_taken ∙ ap (λ (x : ℕ). x + 3) (is_number ∙ sym (ap (λ (u : View S). u.number) is)) in
      allows_by b slots id (k + 1) (v, me) (λ n. either (eqb n taken) 1 n) (Publishes (step slots (k + 1) taken 1 none) (v, me))
      (subst (λ (x : ℕ × ℕ × List (ℕ × Option (Done S g))). Allows (Holds {S = S} {g = g} b) x.0 id (v, x.2) (k + 1) (λ n. either (eqb n x.1) 1 n) (Publishes (step x.0 (k + 1) x.1 1 none) (v, x.2))) (λ i. (sym (is_slots ∙ sym is_size) i, sym numbered i, sym carried i))
      (publishes b id k v done c (omega (arith, below, is_size)) of_k of_solver (ap (λ (u : View S). u.filling) is ∙ ap (λ (j : ℕ). Some j) same)))

  -- a publication that found another word leaves the slots with the seat
  pub late_slots : (found word k : ℕ) (v w : Mine S g) → (found ≡ word → ⊥) → Ended (found == word) k v w → w.1 ≡ v.1
  late_slots found word k v w miss told = ap (λ (m : Mine S g). m.1) (subst (λ b. Ended b k v w) (ne_eqb found word miss) told)
