-- Each deed of a desk is its event.
use Rattle.std.proofs.Common.{◌≡◌, ◌≢◌, ℕ, ◌+◌, ◌<◌, ◌==◌, Bool, true, false, not, length, set, refl, sym, ap, subst, ◌∙◌, arith, Some, IsSome, inl, inr, eq-eqb, ne_eqb}
use Rattle.std.specs.Prelude.{slice_index, if◌then◌else◌}
use Rattle.result_table.specs.declared.updates.Updates.{Ghosts}
use Rattle.solver_api.specs.Step.{UpdateRule}
use Rattle.result_table.specs.declared.view.Brief.{Brief}
use Rattle.result_table.specs.declared.word.Word.TheVariants.{Free, Taken, Published, Collected}
use Rattle.result_table.specs.Words.{code, exchanged}
use Rattle.result_table.specs.Views.{has}
use Rattle.result_table.specs.declared.view.View.{View}
use Rattle.result_table.specs.Rule.{IsView}
use Rattle.result_table.proofs.Marked.{has_here}
use Rattle.task_core.specs.declared.event.Event.{Event}
use Rattle.task_core.specs.declared.event.Event.TheVariants.{Take, Publish, Collect}
use Rattle.task_core.specs.declared.event.Sweep.TheVariants.{Second, Over}
use Rattle.task_core.specs.Core.{Core, stepped, or_skipped}
use Rattle.task_core.specs.Replies.{word_at}
use Rattle.task_core.specs.Desks.{HasTask, IsEvent}
use Rattle.task_core.proofs.Lists.{by_place}
use Rattle.task_core.proofs.Desks.{claims_are_takes, publications_are_publish, collections_are_collect}
use Rattle.task_pool.specs.declared.parts.Tree.{Tree}
use Rattle.pool_events.specs.Moments.{Moment, IsMoment}
use Rattle.pool_events.specs.Deeds.{Deed, Wins, Loses, Fetches, Publishes, ComesLate, Gathers, FindsIdle, FindsBusy, task_of, event_of, succeeds, knows, Does}
use Rattle.pool_events.specs.Steps.{core_after, IsLegal, IsInTime, Agrees}
use Rattle.pool_events.specs.Histories.{DoesAt}
use Rattle.pool_events.proofs.Done.{else_same, here_same, won_free, won_taken, published_taken, published_word, lost_word, late_claimed, late_word, was_uncollected, is_collected}
use Rattle.pool_events.proofs.Shares.{shares_set, shares_alike, added_by}
use Rattle.pool_events.proofs.Cores.{stays_added}
use Rattle.pool_events.proofs.Spawned.{claimed_spawned}

-- what is exchanged where the word is the old one, and where it is not
exchanged_to : (found old new : ℕ) → found ≡ old → exchanged found old new ≡ new
exchanged_to found old new is = ap (λ b. if b then new else found) (eq-eqb found old is)

exchanged_not : (found old new : ℕ) → found ≢ old → exchanged found old new ≡ found
exchanged_not found old new not = ap (λ b. if b then new else found) (ne_eqb found old not)

module _ {S : Type 0} {g : Ghosts S} (updated : UpdateRule) (c : Core) (i : ℕ) (t : Tree S g) (m n : Moment S g) (before : IsMoment t i m) (after : IsMoment t i n) (agrees : Agrees c i m) (spawned : n.spawned ≡ m.spawned) where
  abbrev b : Brief S
  b = t.desk.table.shared.key

  within_words : (k : ℕ) → k < b.size → k + 1 < length m.desk.words
  within_words k below = let long = before.desk.words in omega (arith, below, long)

  -- the event of a deed, by what became of the word of its task
  by_event : (d : Deed) (e : Event) (won : Bool) (x : ℕ) → Does d m.desk n.desk → task_of d < b.size → slice_index n.desk.words (task_of d + 1) ≡ x
      → IsEvent updated c i e won (set m.desk.words (task_of d + 1) x) → IsLegal updated c (Some e) won × Agrees (core_after updated c (Some e)) i n
  by_event d e won x does below is event = (
    event.legal,
    record {
      words = shares_set (or_skipped updated c (stepped updated c e)) i (task_of d) x m.desk.words n.desk.words (after.desk.words ∙ sym before.desk.words) (within_words (task_of d) below) is
          (λ j small not. else_same b m.desk n.desk before.desk after.desk d does j (let long = before.desk.words in omega (arith, small, long)) not)
          event.shared;
      added = λ k small. stays_added updated c e i k (agrees.added k (omega (arith, small, spawned)));
    },
  )

  has_task : (k : ℕ) → k < b.size → IsSome (word_at c i k) → HasTask c i k m.desk.words
  has_task k below there = record { added = there; within = within_words k below; shared = agrees.words }

  -- the word of a task before
  abbrev found : ℕ → ℕ
  found k = slice_index m.desk.words (k + 1)

  take_is : (s k : ℕ) (won : Bool) (x : ℕ) → HasTask c i k m.desk.words → c.sweep ≢ Over → (found k == code Free) ≡ won → exchanged (found k) (code Free) (code (Taken s)) ≡ x → IsEvent updated c i (Take s i k) won (set m.desk.words (k + 1) x)
  take_is s k won x there more test to = subst (λ q. IsEvent updated c i (Take s i k) q (set m.desk.words (k + 1) x)) test
      (subst (λ y. IsEvent updated c i (Take s i k) (found k == code Free) (set m.desk.words (k + 1) y)) to (claims_are_takes updated c i k s m.desk.words there more))

  publish_is : (s k : ℕ) (won : Bool) (x : ℕ) → HasTask c i k m.desk.words → c.sweep ≢ Over → (found k == code (Taken s)) ≡ won → exchanged (found k) (code (Taken s)) (code Published) ≡ x → IsEvent updated c i (Publish s i k) won (set m.desk.words (k + 1) x)
  publish_is s k won x there more test to = subst (λ q. IsEvent updated c i (Publish s i k) q (set m.desk.words (k + 1) x)) test
      (subst (λ y. IsEvent updated c i (Publish s i k) (found k == code (Taken s)) (set m.desk.words (k + 1) y)) to (publications_are_publish updated c i k s m.desk.words there more))

  collect_is : (k : ℕ) → HasTask c i k m.desk.words → c.sweep ≡ Second → found k ≢ code Collected → IsEvent updated c i (Collect i k) true (set m.desk.words (k + 1) (code Collected))
  collect_is k there second other = subst (λ q. IsEvent updated c i (Collect i k) q (set m.desk.words (k + 1) (code Collected))) (ap not (ne_eqb (found k) (code Collected) other)) (collections_are_collect updated c i k m.desk.words there second)

  claimed_added : (seat k : ℕ) (v : View S) → IsView m.desk seat v → has v.claimed k ≡ true → IsSome (word_at c i k)
  claimed_added seat k v at e = agrees.added k (claimed_spawned t i m seat k v before at e)

  wins : (s k : ℕ) → Does (Wins s k) m.desk n.desk → k < b.size → c.sweep ≢ Over → IsLegal updated c (Some (Take s i k)) true × Agrees (core_after updated c (Some (Take s i k))) i n
  wins s k does below more =
      let free = won_free b m.desk n.desk before.desk after.desk s k below does in
      let taken = won_taken b m.desk n.desk before.desk after.desk s k below does in
      let small : k < n.spawned = claimed_spawned t i n s k (knows (Wins s k) does.view) after does.after (has_here does.view.claimed k) in
      by_event (Wins s k) (Take s i k) true (code (Taken s)) does below taken
      (take_is s k true (code (Taken s)) (has_task k below (agrees.added k (omega (arith, small, spawned)))) more (eq-eqb (found k) (code Free) free) (exchanged_to (found k) (code Free) (code (Taken s)) free))

  loses : (s k : ℕ) → Does (Loses s k) m.desk n.desk → k < b.size → c.sweep ≢ Over → IsLegal updated c (Some (Take s i k)) false × Agrees (core_after updated c (Some (Take s i k))) i n
  loses s k does below more =
      let other : found k ≢ code Free = lost_word b m.desk n.desk before.desk after.desk s k below does in
      let still = here_same b m.desk n.desk before.desk after.desk (Loses s k) does below (record { claimed = refl; published = refl; gathered = refl; idle = refl; busy = refl }) in
      by_event (Loses s k) (Take s i k) false (found k) does below still
      (take_is s k false (found k) (has_task k below (added_by c i k m.desk.words agrees.words (within_words k below) other)) more (ne_eqb (found k) (code Free) other) (exchanged_not (found k) (code Free) (code (Taken s)) other))

  publishes : (s k : ℕ) → Does (Publishes s k) m.desk n.desk → k < b.size → c.sweep ≢ Over → IsLegal updated c (Some (Publish s i k)) true × Agrees (core_after updated c (Some (Publish s i k))) i n
  publishes s k does below more =
      let taken = published_taken b m.desk n.desk before.desk after.desk s k below does in
      by_event (Publishes s k) (Publish s i k) true (code Published) does below (published_word b m.desk n.desk before.desk after.desk s k below does)
      (publish_is s k true (code Published) (has_task k below (claimed_added s k does.view does.before does.knew.0)) more (eq-eqb (found k) (code (Taken s)) taken) (exchanged_to (found k) (code (Taken s)) (code Published) taken))

  comes_late : (s k : ℕ) → Does (ComesLate s k) m.desk n.desk → k < b.size → c.sweep ≢ Over → IsLegal updated c (Some (Publish s i k)) false × Agrees (core_after updated c (Some (Publish s i k))) i n
  comes_late s k does below more =
      let gone : found k ≡ 2 = late_word b m.desk n.desk before.desk after.desk s k below does in
      let other : found k ≢ code (Taken s) = λ e. omega (arith, gone, e) in
      let still = here_same b m.desk n.desk before.desk after.desk (ComesLate s k) does below (record { claimed = refl; published = refl; gathered = refl; idle = refl; busy = refl }) in
      by_event (ComesLate s k) (Publish s i k) false (found k) does below still
      (publish_is s k false (found k) (has_task k below (claimed_added s k does.view does.before (late_claimed b m.desk n.desk before.desk after.desk s k below does))) more (ne_eqb (found k) (code (Taken s)) other) (exchanged_not (found k) (code (Taken s)) (code Published) other))

  -- a collection, whatever was found
  collects : (d : Deed) (k : ℕ) → Does d m.desk n.desk → task_of d ≡ k → k < b.size → found k ≢ code Collected → slice_index n.desk.words (k + 1) ≡ code Collected → c.sweep ≡ Second → k < m.spawned
      → IsLegal updated c (Some (Collect i k)) true × Agrees (core_after updated c (Some (Collect i k))) i n
  collects d k does is below other gone second small =
      by_event d (Collect i k) true (code Collected) does (subst (λ q. q < b.size) (sym is) below) (ap (λ q. slice_index n.desk.words (q + 1)) is ∙ gone)
      (subst (λ q. IsEvent updated c i (Collect i k) true (set m.desk.words (q + 1) (code Collected))) (sym is) (collect_is k (has_task k below (agrees.added k small)) second other))

  fetches : (s k : ℕ) → Does (Fetches s k) m.desk n.desk → k < b.size → Agrees c i n
  fetches s k does below =
      let still = here_same b m.desk n.desk before.desk after.desk (Fetches s k) does below (record { claimed = refl; published = refl; gathered = refl; idle = refl; busy = refl }) in
      record {
        words = shares_alike c i m.desk.words n.desk.words (after.desk.words ∙ sym before.desk.words)
            (λ j small. by_place k j
            (λ is. subst (λ q. slice_index n.desk.words (q + 1) ≡ slice_index m.desk.words (q + 1)) (sym is) still)
            (λ not. else_same b m.desk n.desk before.desk after.desk (Fetches s k) does j (let long = before.desk.words in omega (arith, small, long)) not))
            agrees.words;
        added = λ q small. agrees.added q (omega (arith, small, spawned));
      }

  pub deed_is : (d : Deed) → Does d m.desk n.desk → task_of d < b.size → IsInTime c m.spawned d → IsLegal updated c (event_of i d) (succeeds d) × Agrees (core_after updated c (event_of i d)) i n
  deed_is (Wins s k) does below time = wins s k does below time
  deed_is (Loses s k) does below time = loses s k does below time
  deed_is (Fetches s k) does below time = (tt, fetches s k does below)
  deed_is (Publishes s k) does below time = publishes s k does below time
  deed_is (ComesLate s k) does below time = comes_late s k does below time
  deed_is (Gathers k) does below time = collects (Gathers k) k does refl below (was_uncollected b m.desk n.desk before.desk after.desk k below does.view does.before does.knew)
      (is_collected b m.desk n.desk before.desk after.desk k below (knows (Gathers k) does.view) does.after (inl (has_here does.view.gathered k))) time.0 time.1
  deed_is (FindsIdle k) does below time = collects (FindsIdle k) k does refl below (was_uncollected b m.desk n.desk before.desk after.desk k below does.view does.before does.knew)
      (is_collected b m.desk n.desk before.desk after.desk k below (knows (FindsIdle k) does.view) does.after (inr (inl (has_here does.view.idle k)))) time.0 time.1
  deed_is (FindsBusy k) does below time = collects (FindsBusy k) k does refl below (was_uncollected b m.desk n.desk before.desk after.desk k below does.view does.before does.knew)
      (is_collected b m.desk n.desk before.desk after.desk k below (knows (FindsBusy k) does.view) does.after (inr (inr (has_here does.view.busy k)))) time.0 time.1

-- a deed at a tree's desk
pub deed_at : {S : Type 0} {g : Ghosts S} (updated : UpdateRule) (c : Core) (i : ℕ) (t : Tree S g) (d : Deed) (m n : Moment S g) → IsMoment t i m → IsMoment t i n → DoesAt t c d m n → Agrees c i m
    → IsLegal updated c (event_of i d) (succeeds d) × Agrees (core_after updated c (event_of i d)) i n
deed_at updated c i t d m n before after at agrees = deed_is updated c i t m n before after agrees at.spawned d at.does (subst (λ q. task_of d < q) (sym t.desk.sized.2) at.task) at.in_time
