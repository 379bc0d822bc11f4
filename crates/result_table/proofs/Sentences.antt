-- The sentences of the rule of the desk follow from the fates of its tasks.
use Rattle.std.proofs.Common.{◌≡◌, ℕ, zero, suc, ◌+◌, ◌<◌, true, false, List, [], ◌∷◌, length, sym, refl, ap, subst, ◌∙◌, arith, eq-eqb, ◌⊎◌, inl, inr, ⊎_elim}
use Rattle.std.proofs.lemmas.Bool.{false≢true}
use Rattle.std.specs.Prelude.{slice_index}
use mathlib.Core.Option.{some}
use lib.ListN.{get_elem?}
use Rattle.result_table.specs.declared.updates.Updates.{Ghosts}
use Rattle.result_table.specs.Views.{DeskState, IsAtHome}
use Rattle.result_table.proofs.Fates.{Fate, unclaimed, claimed, filled, published, gathered, idle, busy, overtaken, late, word_of, claims, publishes, fills, is_late, is_gathered, is_idle, is_busy, Fits, marks, SlotOf, Keeps, Holds}
use Rattle.result_table.specs.Words.{code}
use Rattle.result_table.specs.Rule.{DeskRule, IsView, IsClaimed, IsPublished, IsCollected}
use Rattle.result_table.specs.declared.view.View.{View}
use Rattle.result_table.specs.declared.view.Brief.{Brief}
use Rattle.result_table.specs.declared.word.Word.TheVariants.{Free}
use Rattle.result_table.proofs.Marked.{by_eqb, at_below}

pub free_is : (f : Fate) → code (word_of f) ≡ 0 → f ≡ unclaimed
free_is unclaimed e = refl
free_is (claimed s) e = absurd (omega (arith, e))
free_is (filled s) e = absurd (omega (arith, e))
free_is (published s) e = absurd (omega (arith, e))
free_is (gathered s) e = absurd (omega (arith, e))
free_is idle e = absurd (omega (arith, e))
free_is (busy s) e = absurd (omega (arith, e))
free_is (overtaken s) e = absurd (omega (arith, e))
free_is (late s) e = absurd (omega (arith, e))

-- a collected task
abbrev IsGone : Fate → Type 0
IsGone f = (is_gathered f ≡ true) ⊎ ((is_idle f ≡ true) ⊎ (is_busy f ≡ true))

gone_word : (f : Fate) → IsGone f → code (word_of f) ≡ 2
gone_word unclaimed g = ⊎_elim (λ e. absurd (false≢true e)) (λ h. ⊎_elim (λ e. absurd (false≢true e)) (λ e. absurd (false≢true e)) h) g
gone_word (claimed s) g = ⊎_elim (λ e. absurd (false≢true e)) (λ h. ⊎_elim (λ e. absurd (false≢true e)) (λ e. absurd (false≢true e)) h) g
gone_word (filled s) g = ⊎_elim (λ e. absurd (false≢true e)) (λ h. ⊎_elim (λ e. absurd (false≢true e)) (λ e. absurd (false≢true e)) h) g
gone_word (published s) g = ⊎_elim (λ e. absurd (false≢true e)) (λ h. ⊎_elim (λ e. absurd (false≢true e)) (λ e. absurd (false≢true e)) h) g
gone_word (gathered s) g = refl
gone_word idle g = refl
gone_word (busy s) g = refl
gone_word (overtaken s) g = refl
gone_word (late s) g = refl

word_gone : (f : Fate) → code (word_of f) ≡ 2 → IsGone f
word_gone unclaimed e = absurd (omega (arith, e))
word_gone (claimed s) e = absurd (omega (arith, e))
word_gone (filled s) e = absurd (omega (arith, e))
word_gone (published s) e = absurd (omega (arith, e))
word_gone (gathered s) e = inl refl
word_gone idle e = inr (inl refl)
word_gone (busy s) e = inr (inr refl)
word_gone (overtaken s) e = inr (inr refl)
word_gone (late s) e = inr (inr refl)

-- the word of a task that is not collected
free_word : (f : Fate) → ((t : ℕ) → claims f t ≡ true → ⊥) → (IsGone f → ⊥) → code (word_of f) ≡ 0
free_word unclaimed none here = refl
free_word (claimed s) none here = absurd (none s (eq-eqb s s refl))
free_word (filled s) none here = absurd (none s (eq-eqb s s refl))
free_word (published s) none here = absurd (none s (eq-eqb s s refl))
free_word (gathered s) none here = absurd (none s (eq-eqb s s refl))
free_word idle none here = absurd (here (inr (inl refl)))
free_word (busy s) none here = absurd (none s (eq-eqb s s refl))
free_word (overtaken s) none here = absurd (none s (eq-eqb s s refl))
free_word (late s) none here = absurd (none s (eq-eqb s s refl))

taken_word : (f : Fate) (t : ℕ) → claims f t ≡ true → publishes f t ≡ false → (IsGone f → ⊥) → code (word_of f) ≡ t + 3
taken_word unclaimed t c p here = absurd (false≢true c)
taken_word (claimed s) t c p here = by_eqb s t c (λ is. ap (λ (x : ℕ). x + 3) is)
taken_word (filled s) t c p here = by_eqb s t c (λ is. ap (λ (x : ℕ). x + 3) is)
taken_word (published s) t c p here = absurd (false≢true (sym p ∙ c))
taken_word (gathered s) t c p here = absurd (false≢true (sym p ∙ c))
taken_word idle t c p here = absurd (false≢true c)
taken_word (busy s) t c p here = absurd (here (inr (inr refl)))
taken_word (overtaken s) t c p here = absurd (here (inr (inr refl)))
taken_word (late s) t c p here = absurd (here (inr (inr refl)))

published_word : (f : Fate) (t : ℕ) → publishes f t ≡ true → (IsGone f → ⊥) → code (word_of f) ≡ 1
published_word unclaimed t p here = absurd (false≢true p)
published_word (claimed s) t p here = absurd (false≢true p)
published_word (filled s) t p here = absurd (false≢true p)
published_word (published s) t p here = refl
published_word (gathered s) t p here = absurd (here (inl refl))
published_word idle t p here = absurd (false≢true p)
published_word (busy s) t p here = absurd (false≢true p)
published_word (overtaken s) t p here = absurd (false≢true p)
published_word (late s) t p here = absurd (false≢true p)

-- a task by its word
taken_is : (f : Fate) (t : ℕ) → code (word_of f) ≡ t + 3 → (claims f t ≡ true) × (publishes f t ≡ false) × (IsGone f → ⊥)
taken_is unclaimed t e = absurd (omega (arith, e))
taken_is (claimed s) t e = (eq-eqb s t (omega (arith, e)), refl, λ g. ⊎_elim (λ e. absurd (false≢true e)) (λ h. ⊎_elim (λ e. absurd (false≢true e)) (λ e. absurd (false≢true e)) h) g)
taken_is (filled s) t e = (eq-eqb s t (omega (arith, e)), refl, λ g. ⊎_elim (λ e. absurd (false≢true e)) (λ h. ⊎_elim (λ e. absurd (false≢true e)) (λ e. absurd (false≢true e)) h) g)
taken_is (published s) t e = absurd (omega (arith, e))
taken_is (gathered s) t e = absurd (omega (arith, e))
taken_is idle t e = absurd (omega (arith, e))
taken_is (busy s) t e = absurd (omega (arith, e))
taken_is (overtaken s) t e = absurd (omega (arith, e))
taken_is (late s) t e = absurd (omega (arith, e))

published_is : (f : Fate) → code (word_of f) ≡ 1 → (t : ℕ) × (f ≡ published t)
published_is unclaimed e = absurd (omega (arith, e))
published_is (claimed s) e = absurd (omega (arith, e))
published_is (filled s) e = absurd (omega (arith, e))
published_is (published s) e = (s, refl)
published_is (gathered s) e = absurd (omega (arith, e))
published_is idle e = absurd (omega (arith, e))
published_is (busy s) e = absurd (omega (arith, e))
published_is (overtaken s) e = absurd (omega (arith, e))
published_is (late s) e = absurd (omega (arith, e))

-- who claimed and published it
one_claims : (f : Fate) (i j : ℕ) → claims f i ≡ true → claims f j ≡ true → i ≡ j
one_claims unclaimed i j a b = absurd (false≢true a)
one_claims (claimed s) i j a b = by_eqb s i a (λ x. by_eqb s j b (λ y. sym x ∙ y))
one_claims (filled s) i j a b = by_eqb s i a (λ x. by_eqb s j b (λ y. sym x ∙ y))
one_claims (published s) i j a b = by_eqb s i a (λ x. by_eqb s j b (λ y. sym x ∙ y))
one_claims (gathered s) i j a b = by_eqb s i a (λ x. by_eqb s j b (λ y. sym x ∙ y))
one_claims idle i j a b = absurd (false≢true a)
one_claims (busy s) i j a b = by_eqb s i a (λ x. by_eqb s j b (λ y. sym x ∙ y))
one_claims (overtaken s) i j a b = by_eqb s i a (λ x. by_eqb s j b (λ y. sym x ∙ y))
one_claims (late s) i j a b = by_eqb s i a (λ x. by_eqb s j b (λ y. sym x ∙ y))

published_claimed : (f : Fate) (i : ℕ) → publishes f i ≡ true → claims f i ≡ true
published_claimed unclaimed i p = absurd (false≢true p)
published_claimed (claimed s) i p = absurd (false≢true p)
published_claimed (filled s) i p = absurd (false≢true p)
published_claimed (published s) i p = p
published_claimed (gathered s) i p = p
published_claimed idle i p = absurd (false≢true p)
published_claimed (busy s) i p = absurd (false≢true p)
published_claimed (overtaken s) i p = absurd (false≢true p)
published_claimed (late s) i p = absurd (false≢true p)

gathered_published : (f : Fate) → is_gathered f ≡ true → (t : ℕ) × (publishes f t ≡ true)
gathered_published unclaimed e = absurd (false≢true e)
gathered_published (claimed s) e = absurd (false≢true e)
gathered_published (filled s) e = absurd (false≢true e)
gathered_published (published s) e = absurd (false≢true e)
gathered_published (gathered s) e = (s, eq-eqb s s refl)
gathered_published idle e = absurd (false≢true e)
gathered_published (busy s) e = absurd (false≢true e)
gathered_published (overtaken s) e = absurd (false≢true e)
gathered_published (late s) e = absurd (false≢true e)

idle_unclaimed : (f : Fate) → is_idle f ≡ true → (t : ℕ) → claims f t ≡ false
idle_unclaimed unclaimed e t = absurd (false≢true e)
idle_unclaimed (claimed s) e t = absurd (false≢true e)
idle_unclaimed (filled s) e t = absurd (false≢true e)
idle_unclaimed (published s) e t = absurd (false≢true e)
idle_unclaimed (gathered s) e t = absurd (false≢true e)
idle_unclaimed idle e t = refl
idle_unclaimed (busy s) e t = absurd (false≢true e)
idle_unclaimed (overtaken s) e t = absurd (false≢true e)
idle_unclaimed (late s) e t = absurd (false≢true e)

busy_claimed : (f : Fate) → is_busy f ≡ true → ((t : ℕ) × (claims f t ≡ true)) × ((t : ℕ) → publishes f t ≡ false)
busy_claimed unclaimed e = absurd (false≢true e)
busy_claimed (claimed s) e = absurd (false≢true e)
busy_claimed (filled s) e = absurd (false≢true e)
busy_claimed (published s) e = absurd (false≢true e)
busy_claimed (gathered s) e = absurd (false≢true e)
busy_claimed idle e = absurd (false≢true e)
busy_claimed (busy s) e = ((s, eq-eqb s s refl), λ t. refl)
busy_claimed (overtaken s) e = ((s, eq-eqb s s refl), λ t. refl)
busy_claimed (late s) e = ((s, eq-eqb s s refl), λ t. refl)

late_busy : (f : Fate) (t : ℕ) → is_late f t ≡ true → (claims f t ≡ true) × (is_busy f ≡ true)
late_busy unclaimed t e = absurd (false≢true e)
late_busy (claimed s) t e = absurd (false≢true e)
late_busy (filled s) t e = absurd (false≢true e)
late_busy (published s) t e = absurd (false≢true e)
late_busy (gathered s) t e = absurd (false≢true e)
late_busy idle t e = absurd (false≢true e)
late_busy (busy s) t e = absurd (false≢true e)
late_busy (overtaken s) t e = absurd (false≢true e)
late_busy (late s) t e = (e, refl)

-- a task that a seat claimed, has not published and has not found late, and is not filling in
pub held_is : (id : ℕ) (f : Fate) → claims f id ≡ true → publishes f id ≡ false → is_late f id ≡ false → fills f id ≡ false → (f ≡ claimed id) ⊎ (f ≡ busy id)
held_is id unclaimed c p l o = absurd (false≢true c)
held_is id (claimed s) c p l o = by_eqb s id c (λ is. inl (ap claimed is))
held_is id (filled s) c p l o = absurd (false≢true (sym o ∙ c))
held_is id (published s) c p l o = absurd (false≢true (sym p ∙ c))
held_is id (gathered s) c p l o = absurd (false≢true (sym p ∙ c))
held_is id idle c p l o = absurd (false≢true c)
held_is id (busy s) c p l o = by_eqb s id c (λ is. inr (ap busy is))
held_is id (overtaken s) c p l o = absurd (false≢true (sym o ∙ c))
held_is id (late s) c p l o = absurd (false≢true (sym l ∙ c))

-- a task whose slot a seat fills
filled_claimed : (f : Fate) (t : ℕ) → fills f t ≡ true → (claims f t ≡ true) × (publishes f t ≡ false) × (is_late f t ≡ false)
filled_claimed unclaimed t e = absurd (false≢true e)
filled_claimed (claimed s) t e = absurd (false≢true e)
filled_claimed (filled s) t e = (e, refl, refl)
filled_claimed (published s) t e = absurd (false≢true e)
filled_claimed (gathered s) t e = absurd (false≢true e)
filled_claimed idle t e = absurd (false≢true e)
filled_claimed (busy s) t e = absurd (false≢true e)
filled_claimed (overtaken s) t e = (e, refl, refl)
filled_claimed (late s) t e = absurd (false≢true e)

pub there : {A : Type 0} (l : List A) (i : ℕ) → i < length l → (a : A) × (get_elem? l i ≡ some a)
there [] i h = absurd (omega arith)
there (x ∷ xs) zero h = (x, refl)
there (x ∷ xs) (suc i) h = there xs i (omega arith)

free_free : (f : Fate) → code (word_of f) ≡ 0 → word_of f ≡ Free
free_free f e = ap word_of (free_is f e)

module _ {S : Type 0} {g : Ghosts S} (b : Brief S) (s : DeskState S g) (fate : ℕ → Fate) (kept : Keeps b s fate) where
  first : (v : View S) × IsView s 0 v
  first = there s.views 0 kept.some_seat

  module _ (k : ℕ) (below : k < b.size) where
    says : (i : ℕ) (v : View S) → IsView s i v → Fits i (marks v k) (fate k)
    says i v at = (kept.seats i v at).each k below

    viewer : (t : ℕ) → claims (fate k) t ≡ true → (v : View S) × IsView s t v
    viewer t c = there s.views t (kept.known k t c)

    is_claimed : (t : ℕ) → claims (fate k) t ≡ true → IsClaimed s k
    is_claimed t c = let v = viewer t c in (t, v.0, v.1, (says t v.0 v.1).claimed ∙ c)

    unclaimed_by : ((t : ℕ) → claims (fate k) t ≡ false) → ¬ IsClaimed s k
    unclaimed_by none c = false≢true (sym (none c.0) ∙ sym (says c.0 c.1 c.2).claimed ∙ c.3)

    is_published : (t : ℕ) → publishes (fate k) t ≡ true → IsPublished s k
    is_published t p = let v = viewer t (published_claimed (fate k) t p) in (t, v.0, v.1, (says t v.0 v.1).published ∙ p)

    is_collected : IsGone (fate k) → IsCollected s k
    is_collected gone = let m = says 0 first.0 first.1 in (first.0, first.1, ⊎_elim (λ e. inl (m.gathered refl ∙ e)) (λ h. inr (⊎_elim (λ e. inl (m.idle refl ∙ e)) (λ e. inr (m.busy refl ∙ e)) h)) gone)

    is_gone : IsCollected s k → IsGone (fate k)
    is_gone c = let m = says 0 c.0 c.1 in ⊎_elim (λ e. inl (sym (m.gathered refl) ∙ e)) (λ h. inr (⊎_elim (λ e. inl (sym (m.idle refl) ∙ e)) (λ e. inr (sym (m.busy refl) ∙ e)) h)) c.2

    word_is : slice_index s.words (k + 1) ≡ code (word_of (fate k))
    word_is = (kept.tasks k below).word

  -- the slot of a task that is claimed or busy
  home_slot : (k : ℕ) (i : ℕ) (f : Fate) → (f ≡ claimed i) ⊎ (f ≡ busy i) → SlotOf b.solver.value s.homes k f → IsAtHome s.homes k
  home_slot k i f is slot = ⊎_elim (λ e. subst (SlotOf b.solver.value s.homes k) e slot) (λ e. subst (SlotOf b.solver.value s.homes k) e slot) is

  sentences : DeskRule b s
  sentences = record {
    words = kept.length_is;
    extra = kept.zero_is;
    some_seat = kept.some_seat;
    numbers = λ i v at. (kept.seats i v at).number;
    made = λ w zero_at. (kept.seats 0 w zero_at).made_is refl;
    below = λ i v w at zero_at. let below = at_below s.views i v at in let n = (kept.seats i v at).number in let m = (kept.seats 0 w zero_at).made_is refl in omega (arith, below, n, m);
    solver = λ i v at. (kept.seats i v at).solver_is;
    free = λ k below. (
      (λ w. let is = free_is (fate k) (sym (word_is k below) ∙ w) in (unclaimed_by k below (λ t. ap (λ f. claims f t) is), λ c. let two = gone_word (fate k) (is_gone k below c) in omega (arith, two, w, word_is k below))),
      (λ h. word_is k below ∙ free_word (fate k) (λ t c. h.0 (is_claimed k below t c)) (λ gone. h.1 (is_collected k below gone))),
    );
    free_slot = λ k below w. subst (SlotOf b.solver.value s.homes k) (free_is (fate k) (sym (word_is k below) ∙ w)) (kept.tasks k below).slot;
    taken = λ k t below. (
      (λ w. let is = taken_is (fate k) t (sym (word_is k below) ∙ w) in let v = viewer k below t is.0 in let m = says k below t v.0 v.1 in ((v.0, v.1, m.claimed ∙ is.0, m.published ∙ is.1), λ c. is.2 (is_gone k below c))),
      (λ h. let m = says k below t h.0.0 h.0.1 in word_is k below ∙ taken_word (fate k) t (sym m.claimed ∙ h.0.2) (sym m.published ∙ h.0.3) (λ gone. h.1 (is_collected k below gone))),
    );
    one_claim = λ k i j v w below at at' c c'. one_claims (fate k) i j (sym (says k below i v at).claimed ∙ c) (sym (says k below j w at').claimed ∙ c');
    published = λ k below. (
      (λ w. let is = published_is (fate k) (sym (word_is k below) ∙ w) in (is_published k below is.0 (ap (λ f. publishes f is.0) is.1 ∙ eq-eqb is.0 is.0 refl), λ c. let two = gone_word (fate k) (is_gone k below c) in omega (arith, two, w, word_is k below))),
      (λ h. let p = h.0 in word_is k below ∙ published_word (fate k) p.0 (sym (says k below p.0 p.1 p.2).published ∙ p.3) (λ gone. h.1 (is_collected k below gone))),
    );
    claimed_first = λ k i v below at p. let m = says k below i v at in m.claimed ∙ published_claimed (fate k) i (sym m.published ∙ p);
    result = λ k below w. let is = published_is (fate k) (sym (word_is k below) ∙ w) in subst (SlotOf b.solver.value s.homes k) is.1 (kept.tasks k below).slot;
    collected = λ k below. (
      (λ w. is_collected k below (word_gone (fate k) (sym (word_is k below) ∙ w))),
      (λ c. word_is k below ∙ gone_word (fate k) (is_gone k below c)),
    );
    gathered = λ k v below at e. let p = gathered_published (fate k) (sym ((says k below 0 v at).gathered refl) ∙ e) in is_published k below p.0 p.1;
    idle = λ k v below at e. unclaimed_by k below (idle_unclaimed (fate k) (sym ((says k below 0 v at).idle refl) ∙ e));
    busy = λ k v below at e. let c = busy_claimed (fate k) (sym ((says k below 0 v at).busy refl) ∙ e) in (is_claimed k below c.0.0 c.0.1, λ p. false≢true (sym (c.1 p.0) ∙ sym (says k below p.0 p.1 p.2).published ∙ p.3));
    lost = λ k i v below at e w. (says k below i v at).lost e (free_free (fate k) (sym (word_is k below) ∙ w));
    late = λ k i v w below at zero_at e. let h = late_busy (fate k) i (sym (says k below i v at).late ∙ e) in ((says k below i v at).claimed ∙ h.0, (says k below 0 w zero_at).busy refl ∙ h.1);
    filling = λ k i v below at e. let m = says k below i v at in let h = filled_claimed (fate k) i (sym m.filling ∙ e) in (m.claimed ∙ h.0, m.published ∙ h.1, m.late ∙ h.2);
    home = λ k i v below at c p l o. let m = says k below i v at in home_slot k i (fate k) (held_is i (fate k) (sym m.claimed ∙ c) (sym m.published ∙ p) (sym m.late ∙ l) (sym m.filling ∙ o)) (kept.tasks k below).slot;
  }

pub rule_from : {S : Type 0} {g : Ghosts S} (b : Brief S) (s : DeskState S g) → Holds b s → DeskRule b s
rule_from b s held = sentences b s held.0 held.1
