-- What a deed makes of the words of a desk: that of its task moves as its event tells, and no other word changes.
use Rattle.std.proofs.Common.{◌≡◌, ◌≢◌, ℕ, ◌+◌, ◌<◌, true, sym, refl, subst, ◌∙◌, ⊎_elim, inr}
use Rattle.std.proofs.lemmas.Bool.{false≢true}
use Rattle.std.specs.Prelude.{slice_index, ◌⊎◌}
use mathlib.Core.Option.{some-injective}
use Rattle.result_table.specs.declared.updates.Updates.{Ghosts}
use Rattle.result_table.specs.declared.view.View.{View}
use Rattle.result_table.specs.declared.view.Brief.{Brief}
use Rattle.result_table.specs.declared.word.Word.TheVariants.{Free, Taken, Published, Collected}
use Rattle.result_table.specs.Views.{DeskState, has}
use Rattle.result_table.specs.Rule.{DeskRule, IsWord, IsView, IsClaimed, IsPublished, IsCollected}
use Rattle.result_table.specs.Seats.{IsUncollected}
use Rattle.result_table.proofs.Marked.{has_here, has_else}
use Rattle.result_table.proofs.Sentences.{there}
use Rattle.result_table.proofs.Back.{published_is_claimed}
use Rattle.task_core.proofs.Lists.{by_place}
use Rattle.pool_events.specs.Deeds.{Deed, Wins, Loses, Fetches, Publishes, ComesLate, Gathers, FindsIdle, FindsBusy, seat_of, task_of, knows, Does}
use Rattle.pool_events.proofs.Says.{SayAlike, alike, turned, SaysOn, word_same}

-- of other tasks a seat knows what it knew
pub alike_else : {S : Type 0} (d : Deed) (v : View S) (j : ℕ) → j ≢ task_of d → SayAlike v (knows d v) j
alike_else (Wins s k) v j not = record { claimed = sym (has_else v.claimed k j not); published = refl; gathered = refl; idle = refl; busy = refl }
alike_else (Loses s k) v j not = record { claimed = refl; published = refl; gathered = refl; idle = refl; busy = refl }
alike_else (Fetches s k) v j not = record { claimed = refl; published = refl; gathered = refl; idle = refl; busy = refl }
alike_else (Publishes s k) v j not = record { claimed = refl; published = sym (has_else v.published k j not); gathered = refl; idle = refl; busy = refl }
alike_else (ComesLate s k) v j not = record { claimed = refl; published = refl; gathered = refl; idle = refl; busy = refl }
alike_else (Gathers k) v j not = record { claimed = refl; published = refl; gathered = sym (has_else v.gathered k j not); idle = refl; busy = refl }
alike_else (FindsIdle k) v j not = record { claimed = refl; published = refl; gathered = refl; idle = sym (has_else v.idle k j not); busy = refl }
alike_else (FindsBusy k) v j not = record { claimed = refl; published = refl; gathered = refl; idle = refl; busy = sym (has_else v.busy k j not) }

module _ {S : Type 0} {g : Ghosts S} where
  -- a seat has one view
  one_view : (s : DeskState S g) (i : ℕ) (v w : View S) → IsView s i v → IsView s i w → v ≡ w
  one_view s i v w a b = some-injective v w (sym a ∙ b)

  module _ (d : Deed) (m n : DeskState S g) (does : Does d m n) (j : ℕ) (same : SayAlike does.view (knows d does.view) j) where
    pub says_on : SaysOn j m n
    says_on i v at = by_place (seat_of d) i
        (λ is.
        let one : does.view ≡ v = one_view m (seat_of d) does.view v does.before (subst (λ q. IsView m q v) is at) in (
          knows d does.view,
          subst (λ q. IsView n q (knows d does.view)) (sym is) does.after,
          subst (λ (u : View S). SayAlike u (knows d does.view) j) one same,
        ))
        (λ other. (v, does.others i other ∙ at, alike v j))

    pub says_back : SaysOn j n m
    says_back i v at = by_place (seat_of d) i
        (λ is.
        let one : knows d does.view ≡ v = one_view n (seat_of d) (knows d does.view) v does.after (subst (λ q. IsView n q v) is at) in (
          does.view,
          subst (λ q. IsView m q does.view) (sym is) does.before,
          subst (λ (u : View S). SayAlike u does.view j) one (turned does.view (knows d does.view) j same),
        ))
        (λ other. (v, sym (does.others i other) ∙ at, alike v j))

  module _ (b : Brief S) (m n : DeskState S g) (before : DeskRule b m) (after : DeskRule b n) where
    -- no other word changes
    pub else_same : (d : Deed) → Does d m n → (j : ℕ) → j < b.size → j ≢ task_of d → slice_index n.words (j + 1) ≡ slice_index m.words (j + 1)
    else_same d does j below not = let same = alike_else d does.view j not in word_same b m n before after j below (says_on d m n does j same) (says_back d m n does j same)

    -- nor does that of the task, where the seat knows nothing new of who claimed, published or collected it
    pub here_same : (d : Deed) (does : Does d m n) → task_of d < b.size → SayAlike does.view (knows d does.view) (task_of d) → slice_index n.words (task_of d + 1) ≡ slice_index m.words (task_of d + 1)
    here_same d does below same = word_same b m n before after (task_of d) below (says_on d m n does (task_of d) same) (says_back d m n does (task_of d) same)

    -- what the first seat said, or says
    gone_on : (d : Deed) (does : Does d m n) (k : ℕ) (f : View S → Type 0) → (f does.view → f (knows d does.view)) → (u : View S) → IsView m 0 u → f u → (w : View S) × IsView n 0 w × f w
    gone_on d does k f on u at h = by_place (seat_of d) 0
        (λ is. let one : does.view ≡ u = one_view m 0 does.view u (subst (λ q. IsView m q does.view) (sym is) does.before) at in (knows d does.view, subst (λ q. IsView n q (knows d does.view)) (sym is) does.after, on (subst f (sym one) h)))
        (λ other. (u, does.others 0 other ∙ at, h))

    gone_back : (d : Deed) (does : Does d m n) (f : View S → Type 0) → (f (knows d does.view) → f does.view) → (u : View S) → IsView n 0 u → f u → (w : View S) × IsView m 0 w × f w
    gone_back d does f back u at h = by_place (seat_of d) 0
        (λ is. let one : knows d does.view ≡ u = one_view n 0 (knows d does.view) u (subst (λ q. IsView n q (knows d does.view)) (sym is) does.after) at in (does.view, subst (λ q. IsView m q does.view) (sym is) does.before, back (subst f (sym one) h)))
        (λ other. (u, sym (does.others 0 other) ∙ at, h))

    module _ (s k : ℕ) (below : k < b.size) (does : Does (Wins s k) m n) where
      won_view : IsView n s (knows (Wins s k) does.view)
      won_view = does.after

      nobody_had : ¬ IsClaimed m k
      nobody_had c = by_place s c.0
          (λ is. let one : does.view ≡ c.1 = one_view m s does.view c.1 does.before (subst (λ q. IsView m q c.1) is c.2) in false≢true (sym does.knew.0 ∙ subst (λ (u : View S). has u.claimed k ≡ true) (sym one) c.3))
          (λ other. other (after.one_claim k c.0 s c.1 (knows (Wins s k) does.view) below (does.others c.0 other ∙ c.2) won_view c.3 (has_here does.view.claimed k)))

      pub won_uncollected : ¬ IsCollected m k
      won_uncollected c = ⊎_elim
          (λ e. nobody_had (published_is_claimed b m before k below (before.gathered k c.0 below c.1 e)))
          (λ h. ⊎_elim
          (λ e. let w = gone_on (Wins s k) does k (λ u. has u.idle k ≡ true) (λ x. x) c.0 c.1 e in after.idle k w.0 below w.1 w.2 (s, knows (Wins s k) does.view, won_view, has_here does.view.claimed k))
          (λ e. nobody_had (before.busy k c.0 below c.1 e).0)
          h)
          c.2

      pub won_free : IsWord m k Free
      won_free = (before.free k below).1 (nobody_had, won_uncollected)

      pub won_taken : IsWord n k (Taken s)
      won_taken = (after.taken k s below).1 (
        (knows (Wins s k) does.view, won_view, has_here does.view.claimed k, does.knew.1),
        (λ c. won_uncollected (gone_back (Wins s k) does (λ u. (has u.gathered k ≡ true) ⊎ ((has u.idle k ≡ true) ⊎ (has u.busy k ≡ true))) (λ x. x) c.0 c.1 c.2)),
      )

    module _ (s k : ℕ) (below : k < b.size) (does : Does (Publishes s k) m n) where
      published_now : IsPublished n k
      published_now = (s, knows (Publishes s k) does.view, does.after, has_here does.view.published k)

      pub published_uncollected : ¬ IsCollected m k
      published_uncollected c = ⊎_elim
          (λ e.
          let p = before.gathered k c.0 below c.1 e in
          let mine = before.one_claim k p.0 s p.1 does.view below p.2 does.before (before.claimed_first k p.0 p.1 below p.2 p.3) does.knew.0 in
          let one : does.view ≡ p.1 = one_view m s does.view p.1 does.before (subst (λ q. IsView m q p.1) mine p.2) in
          false≢true (sym does.knew.1 ∙ subst (λ (u : View S). has u.published k ≡ true) (sym one) p.3))
          (λ h. ⊎_elim
          (λ e. before.idle k c.0 below c.1 e (s, does.view, does.before, does.knew.0))
          (λ e. let w = gone_on (Publishes s k) does k (λ u. has u.busy k ≡ true) (λ x. x) c.0 c.1 e in (after.busy k w.0 below w.1 w.2).1 published_now)
          h)
          c.2

      pub published_taken : IsWord m k (Taken s)
      published_taken = (before.taken k s below).1 ((does.view, does.before, does.knew.0, does.knew.1), published_uncollected)

      pub published_word : IsWord n k Published
      published_word = (after.published k below).1 (
        published_now,
        (λ c. published_uncollected (gone_back (Publishes s k) does (λ u. (has u.gathered k ≡ true) ⊎ ((has u.idle k ≡ true) ⊎ (has u.busy k ≡ true))) (λ x. x) c.0 c.1 c.2)),
      )

    module _ (s k : ℕ) (below : k < b.size) where
      -- a task whose claim was lost was not Free
      pub lost_word : Does (Loses s k) m n → ¬ IsWord m k Free
      lost_word does e = after.lost k s (knows (Loses s k) does.view) below does.after (has_here does.view.lost k)
          (here_same (Loses s k) does below (record { claimed = refl; published = refl; gathered = refl; idle = refl; busy = refl }) ∙ e)

      late_told : (does : Does (ComesLate s k) m n) → (has does.view.claimed k ≡ true) × IsCollected n k
      late_told does =
          let first = there n.views 0 after.some_seat in
          let h = after.late k s (knows (ComesLate s k) does.view) first.0 below does.after first.1 (has_here does.view.late k) in
          (h.0, (first.0, first.1, inr (inr h.1)))

      -- a result that came late was of a claimed task, which was collected
      pub late_claimed : (does : Does (ComesLate s k) m n) → has does.view.claimed k ≡ true
      late_claimed does = (late_told does).0

      pub late_word : Does (ComesLate s k) m n → IsWord m k Collected
      late_word does = sym (here_same (ComesLate s k) does below (record { claimed = refl; published = refl; gathered = refl; idle = refl; busy = refl })) ∙ (after.collected k below).1 (late_told does).1

    -- a task that the first seat collects was not collected
    pub was_uncollected : (k : ℕ) → k < b.size → (v : View S) → IsView m 0 v → IsUncollected v k → ¬ IsWord m k Collected
    was_uncollected k below v at none e =
        let c = (before.collected k below).0 e in
        let one : v ≡ c.0 = one_view m 0 v c.0 at c.1 in
        let still = subst (λ (u : View S). IsUncollected u k) one none in
        ⊎_elim (λ h. false≢true (sym still.0 ∙ h)) (λ h. ⊎_elim (λ x. false≢true (sym still.1 ∙ x)) (λ x. false≢true (sym still.2 ∙ x)) h) c.2

    pub is_collected : (k : ℕ) → k < b.size → (v : View S) → IsView n 0 v → (has v.gathered k ≡ true) ⊎ ((has v.idle k ≡ true) ⊎ (has v.busy k ≡ true)) → IsWord n k Collected
    is_collected k below v at h = (after.collected k below).1 (v, at, h)
