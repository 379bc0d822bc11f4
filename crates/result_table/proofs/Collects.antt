-- A collection keeps the rule.
use Rattle.std.proofs.Common.{◌≡◌, ◌≢◌, ℕ, suc, ◌+◌, ◌-◌, ◌<◌, true, false, List, ◌∷◌, set, sym, refl, ap, subst, ◌∙◌, arith, Option}
use Rattle.std.proofs.lemmas.Bool.{false≢true}
use Rattle.std.specs.Prelude.{slice_index}
use mathlib.Core.Option.{some, none}
use lib.ListN.{get_elem?}
use Rattle.atomic_table.specs.Table.{Act, keeps, takes, Valid, stepped, step, Allows, carried_after}
use Rattle.atomic_table.proofs.Lists.{set_else}
use Rattle.result_table.specs.declared.updates.Updates.{Ghosts}
use Rattle.result_table.specs.Views.{DeskState, HasResult, with_busy, with_gathered, with_idle}
use Rattle.result_table.proofs.Fates.{Fate, unclaimed, claimed, filled, published, gathered, idle, busy, overtaken, late, Fits, Marks, marks, word_of, SlotOf, Holds, Keeps}
use Rattle.result_table.proofs.Fates as fates
use Rattle.result_table.specs.Words.{code}
use Rattle.result_table.specs.Plays.{Collects, CollectedAt}
use Rattle.result_table.specs.Seats.{IsUncollected}
use Rattle.result_table.specs.declared.view.View.{View}
use Rattle.result_table.specs.declared.view.Brief.{Brief}
use Rattle.result_table.specs.declared.done.Done.{Done}
use Rattle.result_table.specs.Rule.{DeskRule}
use Rattle.result_table.proofs.Moves.{moves}
use Rattle.result_table.proofs.Back.{allows_by}
use Rattle.result_table.proofs.Marked.{idle_here, idle_else, gathered_here, gathered_else, busy_here, busy_else}

idle_own : (id : ℕ) (m : Marks) → Fits id m unclaimed → Fits id (record m { idle = true }) idle
idle_own id m f = record { claimed = f.claimed; published = f.published; filling = f.filling; late = f.late; lost = λ _ e. omega (arith, ap code e); gathered = f.gathered; idle = λ _. refl; busy = f.busy }

idle_theirs : (i : ℕ) (m : Marks) → i ≢ 0 → Fits i m unclaimed → Fits i m idle
idle_theirs i m not f = record { claimed = f.claimed; published = f.published; filling = f.filling; late = f.late; lost = λ _ e. omega (arith, ap code e); gathered = λ z. absurd (not z); idle = λ z. absurd (not z); busy = λ z. absurd (not z) }

gathered_own : (id s : ℕ) (m : Marks) → Fits id m (published s) → Fits id (record m { gathered = true }) (gathered s)
gathered_own id s m f = record { claimed = f.claimed; published = f.published; filling = f.filling; late = f.late; lost = λ _ e. omega (arith, ap code e); gathered = λ _. refl; idle = f.idle; busy = f.busy }

gathered_theirs : (i s : ℕ) (m : Marks) → i ≢ 0 → Fits i m (published s) → Fits i m (gathered s)
gathered_theirs i s m not f = record { claimed = f.claimed; published = f.published; filling = f.filling; late = f.late; lost = λ _ e. omega (arith, ap code e); gathered = λ z. absurd (not z); idle = λ z. absurd (not z); busy = λ z. absurd (not z) }

busy_own : (id s : ℕ) (m : Marks) → Fits id m (claimed s) → Fits id (record m { busy = true }) (busy s)
busy_own id s m f = record { claimed = f.claimed; published = f.published; filling = f.filling; late = f.late; lost = λ _ e. omega (arith, ap code e); gathered = f.gathered; idle = f.idle; busy = λ _. refl }

busy_theirs : (i s : ℕ) (m : Marks) → i ≢ 0 → Fits i m (claimed s) → Fits i m (busy s)
busy_theirs i s m not f = record { claimed = f.claimed; published = f.published; filling = f.filling; late = f.late; lost = λ _ e. omega (arith, ap code e); gathered = λ z. absurd (not z); idle = λ z. absurd (not z); busy = λ z. absurd (not z) }

overtaken_own : (id s : ℕ) (m : Marks) → Fits id m (filled s) → Fits id (record m { busy = true }) (overtaken s)
overtaken_own id s m f = record { claimed = f.claimed; published = f.published; filling = f.filling; late = f.late; lost = λ _ e. omega (arith, ap code e); gathered = f.gathered; idle = f.idle; busy = λ _. refl }

overtaken_theirs : (i s : ℕ) (m : Marks) → i ≢ 0 → Fits i m (filled s) → Fits i m (overtaken s)
overtaken_theirs i s m not f = record { claimed = f.claimed; published = f.published; filling = f.filling; late = f.late; lost = λ _ e. omega (arith, ap code e); gathered = λ z. absurd (not z); idle = λ z. absurd (not z); busy = λ z. absurd (not z) }

module _ {S : Type 0} {g : Ghosts S} (b : Brief S) (id k : ℕ) (v : View S) (me : List (ℕ × Option (Done S g))) (s : DeskState S g) where
  -- how the step may go on where the word found is m
  abbrev Goes : ℕ → Type 0
  Goes m = (w : View S) × (a : Act (Option (Done S g))) × Valid s.homes me a × Holds b (stepped s (k + 1) 2 id me w a) × CollectedAt m (k + 1 - 1) (v, me) (w, carried_after me a)

  module _ (fate : ℕ → Fate) (kept : Keeps b s fate) (below : k < b.size) (at : get_elem? s.views id ≡ some v) (first : id ≡ 0) where
    idle_case : fate k ≡ unclaimed → Goes (slice_index s.words (k + 1))
    idle_case is =
        let task = kept.tasks k below in
        let word : slice_index s.words (k + 1) ≡ 0 = task.word ∙ ap (λ (x : Fate). code (word_of x)) is in
        let same : k + 1 - 1 ≡ k = omega arith in
        subst Goes (sym word) (
          with_idle v k,
          keeps,
          tt,
          moves b id k s fate v (with_idle v k) idle 2 s.homes below kept at refl
              tt
              (λ j _. refl)
              (λ t e. absurd (false≢true e))
              refl refl refl
              (idle_else v k)
              (λ old. subst (λ m. Fits id m idle) (sym (idle_here v k)) (idle_own id (marks v k) (subst (Fits id (marks v k)) is old)))
              (λ i m other old. idle_theirs i m (λ z. other (z ∙ sym first)) (subst (Fits i m) is old)),
          ap (λ (j : ℕ). (with_idle v j, me)) (sym same),
        )

    gathered_case : (t : ℕ) → v.solver ≡ b.solver.value → fate k ≡ published t → Goes (slice_index s.words (k + 1))
    gathered_case t of_desk is =
        let task = kept.tasks k below in
        let word : slice_index s.words (k + 1) ≡ 1 = task.word ∙ ap (λ (x : Fate). code (word_of x)) is in
        let slot = subst (SlotOf b.solver.value s.homes k) is task.slot in
        let same : k + 1 - 1 ≡ k = omega arith in
        subst Goes (sym word) (
          with_gathered v k,
          takes k slot.0,
          slot.1,
          moves b id k s fate v (with_gathered v k) (gathered t) 2 (set s.homes k none) below kept at refl
              tt
              (λ j other. set_else s.homes k j none other)
              (λ u e. kept.known k u (ap (λ (x : Fate). fates.claims x u) is ∙ e))
              refl refl refl
              (gathered_else v k)
              (λ old. subst (λ m. Fits id m (gathered t)) (sym (gathered_here v k)) (gathered_own id t (marks v k) (subst (Fits id (marks v k)) is old)))
              (λ i m other old. gathered_theirs i t m (λ z. other (z ∙ sym first)) (subst (Fits i m) is old)),
          (ap (with_gathered v) (sym same), (slot.0, ap (λ (j : ℕ). (j, slot.0) ∷ me) (sym same), subst (λ (x : S × ℕ). HasResult x.0 x.1 slot.0) (λ i. (sym of_desk i, sym same i)) slot.2)),
        )

    busy_case : (f : Fate) (t : ℕ) → word_of f ≡ word_of (claimed t) → fate k ≡ f → (f' : Fate) → word_of f' ≡ word_of (busy t) → (SlotOf b.solver.value s.homes k f → SlotOf b.solver.value s.homes k f') → ((u : ℕ) → fates.claims f' u ≡ true → fates.claims f u ≡ true)
        → ((m : Marks) → Fits id m f → Fits id (record m { busy = true }) f') → ((i : ℕ) (m : Marks) → i ≢ 0 → Fits i m f → Fits i m f') → Goes (slice_index s.words (k + 1))
    busy_case f t held is f' gone home known own theirs =
        let task = kept.tasks k below in
        let word : slice_index s.words (k + 1) ≡ suc (suc (t + 1)) = task.word ∙ ap (λ (x : Fate). code (word_of x)) is ∙ ap code held ∙ omega arith in
        let same : k + 1 - 1 ≡ k = omega arith in
        subst Goes (sym word) (
          with_busy v k,
          keeps,
          tt,
          moves b id k s fate v (with_busy v k) f' 2 s.homes below kept at (sym (ap code gone))
              (home (subst (SlotOf b.solver.value s.homes k) is task.slot))
              (λ j _. refl)
              (λ u e. kept.known k u (ap (λ (x : Fate). fates.claims x u) is ∙ known u e))
              refl refl refl
              (busy_else v k)
              (λ old. subst (λ m. Fits id m f') (sym (busy_here v k)) (own (marks v k) (subst (Fits id (marks v k)) is old)))
              (λ i m other old. theirs i m (λ z. other (z ∙ sym first)) (subst (Fits i m) is old)),
          ap (λ (j : ℕ). (with_busy v j, me)) (sym same),
        )

    goes_by : (f : Fate) → v.solver ≡ b.solver.value → fates.is_gathered f ≡ false → fates.is_idle f ≡ false → fates.is_busy f ≡ false → fate k ≡ f → Goes (slice_index s.words (k + 1))
    goes_by unclaimed of_desk g i o is = idle_case is
    goes_by (claimed t) of_desk g i o is = busy_case (claimed t) t refl is (busy t) refl (λ h. h) (λ u e. e) (busy_own id t) (λ i m. busy_theirs i t m)
    goes_by (filled t) of_desk g i o is = busy_case (filled t) t refl is (overtaken t) refl (λ h. h) (λ u e. e) (overtaken_own id t) (λ i m. overtaken_theirs i t m)
    goes_by (published t) of_desk g i o is = gathered_case t of_desk is
    goes_by (gathered t) of_desk g i o is = absurd (false≢true (sym g))
    goes_by idle of_desk g i o is = absurd (false≢true (sym i))
    goes_by (busy t) of_desk g i o is = absurd (false≢true (sym o))
    goes_by (overtaken t) of_desk g i o is = absurd (false≢true (sym o))
    goes_by (late t) of_desk g i o is = absurd (false≢true (sym o))

module _ {S : Type 0} {g : Ghosts S} where
  collects : (b : Brief S) (id k : ℕ) (v : View S) (me : List (ℕ × Option (Done S g))) → k < b.size → v.number ≡ 0 → IsUncollected v k
      → Allows (Holds {S = S} {g = g} b) b.size id (v, me) (k + 1) (λ _. 2) (Collects (step b.size (k + 1) 2 0 none) (v, me))
  collects b id k v me below zero_number fresh s held wide at fits =
      let fate = held.0 in
      let kept = held.1 in
      let seat = kept.seats id v at in
      let m = seat.each k below in
      let first : id ≡ 0 = sym seat.number ∙ zero_number in
      goes_by b id k v me s fate kept below at first (fate k) seat.solver_is (sym (m.gathered first) ∙ fresh.0) (sym (m.idle first) ∙ fresh.1) (sym (m.busy first) ∙ fresh.2) refl

  -- the same, in the words of the call
  pub collects_as : (b : Brief S) (id k size slots : ℕ) (v : View S) (me : List (ℕ × Option (Done S g))) → k < size → b.size ≡ size → slots ≡ size → v.number ≡ 0 → IsUncollected v k
      → Allows (DeskRule {S = S} {g = g} b) slots id (v, me) (k + 1) (λ _. 2) (Collects (step slots (k + 1) 2 0 none) (v, me))
  collects_as b id k size slots v me below is_size is_slots zero_number fresh =
      allows_by b slots id (k + 1) (v, me) (λ _. 2) (Collects (step slots (k + 1) 2 0 none) (v, me))
      (subst (λ (x : ℕ). Allows (Holds {S = S} {g = g} b) x id (v, me) (k + 1) (λ _. 2) (Collects (step x (k + 1) 2 0 none) (v, me))) (sym (is_slots ∙ sym is_size))
      (collects b id k v me (omega (arith, below, is_size)) zero_number fresh))
