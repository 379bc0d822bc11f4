-- Each step on a word of a desk is an event of the core.
use Rattle.std.proofs.Common.{◌≡◌, ◌≢◌, ℕ, zero, suc, ◌+◌, ◌<◌, ◌==◌, Bool, true, false, not, cond, List, [], ◌∷◌, length, set, get_or, refl, sym, ap, subst, ◌∙◌, arith, eq-eqb, ne_eqb, Option, Some, None, IsSome}
use Rattle.std.proofs.lemmas.Bool.{false≢true}
use Rattle.std.specs.Prelude.{slice_get, is_some, slice_index}
use Rattle.std.proofs.lemmas.List.{get_or-set_same, get_or-set_other, length-set}
use mathlib.Core.Logic.{dite}
use native.Mathlib.Decide.{ℕ_discrete}
use Rattle.solver_api.specs.Step.{UpdateRule}
use Rattle.result_table.specs.declared.word.Word.{Word}
use Rattle.result_table.specs.declared.word.Word.TheVariants.{Free, Taken, Published, Collected}
use Rattle.result_table.specs.Words.{taken, published, collected, after, code, exchanged}
use Rattle.result_table.proofs.Words.{claim_is_take, publication_is_publish, collection_is_collect}
use Rattle.task_core.specs.declared.stop.Offered.{Offered}
use Rattle.task_core.specs.declared.event.Event.{Event}
use Rattle.task_core.specs.declared.event.Event.TheVariants.{Take, Publish, Collect}
use Rattle.task_core.specs.declared.event.Sweep.{Sweep}
use Rattle.task_core.specs.declared.event.Sweep.TheVariants.{First, Second, Over}
use Rattle.task_core.specs.Core.{Answers, Tree, Core, Move, moved, take_move, publish_move, collect_move, in_sweep, stepped, or_skipped}
use Rattle.task_core.specs.Work.{task_in, with_task, with_tree, changed_at}
use Rattle.task_core.specs.Replies.{word_in, word_at}
use Rattle.task_core.specs.Desks.{or_free, SharesWords, HasTask, IsEvent, ClaimsAreTakes, PublicationsArePublish, CollectionsAreCollect}
use Rattle.task_core.proofs.Lists.{get_here, get_else, some_is}
use Rattle.task_core.proofs.Found.{move_is, move_still}

-- a task that was added, with its tree
pub record Added (c : Core) (i k : ℕ) : Type 0 where
  pub tree : Tree
  pub at : slice_get c.trees i ≡ Some tree
  pub task : Offered
  pub there : slice_get tree.tasks k ≡ Some task

pub added : (c : Core) (i k : ℕ) → IsSome (word_at c i k) → Added c i k
added c i k h = by_tree (slice_get c.trees i) refl h
  where
    by_task : (t : Tree) → slice_get c.trees i ≡ Some t → (o : Option Offered) → slice_get t.tasks k ≡ o → IsSome (word_in o) → Added c i k
    by_task t at None e h = absurd (false≢true h)
    by_task t at (Some o) e h = record { tree = t; at = at; task = o; there = e }

    by_tree : (o : Option Tree) → slice_get c.trees i ≡ o → IsSome (word_in (task_in o k)) → Added c i k
    by_tree None e h = absurd (false≢true h)
    by_tree (Some t) e h = by_task t e (slice_get t.tasks k) refl h

module _ (updated : UpdateRule) (c : Core) (i k : ℕ) (words : List ℕ) (has : HasTask c i k words) where
  abbrev own : Added c i k
  own = added c i k has.added

  abbrev w : Word
  w = own.task.word

  task_is : task_in (slice_get c.trees i) k ≡ Some own.task
  task_is = ap (λ o. task_in o k) own.at ∙ own.there

  -- the desk's word is the task's
  pub found_is : slice_index words (k + 1) ≡ code w
  found_is = has.shared k has.within ∙ ap (λ o. code (or_free (word_in o))) task_is

  length_kept : (n : ℕ) → length (set words (k + 1) n) ≡ length words
  length_kept n = length-set words (k + 1) n

  -- a word written back
  kept : (n : ℕ) → n ≡ code w → SharesWords c i (set words (k + 1) n)
  kept n is j within = dite (ℕ_discrete j k)
      (λ e. subst (λ m. get_or (set words (k + 1) n) (m + 1) 0 ≡ code (or_free (word_at c i m))) (sym e)
      (get_or-set_same words (k + 1) n 0 has.within ∙ is ∙ sym (ap (λ o. code (or_free (word_in o))) task_is)))
      (λ other. get_or-set_other words (k + 1) (j + 1) n 0 (λ e. other (omega (arith, e))) ∙ has.shared j (omega (arith, within, length_kept n)))

  module _ (u : Word) (a : Answers) where
    abbrev o : Offered
    o = record { leaf = own.task.leaf; word = u }

    abbrev d : Core
    d = with_tree (with_task k o) c i a

    tree_there : slice_get d.trees i ≡ Some (with_task k o own.tree)
    tree_there = ap (λ q. slice_get (changed_at (with_task k o) c.trees i q) i) own.at ∙ get_here c.trees i own.tree (with_task k o own.tree) own.at

    word_here : word_at d i k ≡ Some u
    word_here = ap (λ q. word_in (task_in q k)) tree_there ∙ ap word_in (get_here own.tree.tasks k own.task o own.there)

    word_else : (j : ℕ) → (j ≡ k → ⊥) → word_at d i j ≡ word_at c i j
    word_else j other = ap (λ q. word_in (task_in q j)) tree_there ∙ ap word_in (get_else own.tree.tasks k j o other) ∙ sym (ap (λ q. word_in (task_in q j)) own.at)

    -- a word moved
    moved_on : (n : ℕ) → n ≡ code u → SharesWords d i (set words (k + 1) n)
    moved_on n is j within = dite (ℕ_discrete j k)
        (λ e. subst (λ m. get_or (set words (k + 1) n) (m + 1) 0 ≡ code (or_free (word_at d i m))) (sym e)
        (get_or-set_same words (k + 1) n 0 has.within ∙ is ∙ sym (ap (λ q. code (or_free q)) word_here)))
        (λ other. get_or-set_other words (k + 1) (j + 1) n 0 (λ e. other (omega (arith, e))) ∙ has.shared j (omega (arith, within, length_kept n)) ∙ sym (ap (λ q. code (or_free q)) (word_else j other)))

  -- an event that moves the task's word as the desk's was moved
  follows : (m : Move updated) (e : Event) (n : ℕ) (won : Bool) → stepped updated c e ≡ moved updated c i k (slice_get c.trees i) m → n ≡ code (after w (m.word w)) → won ≡ is_some (m.word w) → IsEvent updated c i e won (set words (k + 1) n)
  follows m e n won step is same = by_word (m.word w) refl is same
    where
      by_word : (p : Option Word) → m.word w ≡ p → n ≡ code (after w p) → won ≡ is_some p → IsEvent updated c i e won (set words (k + 1) n)
      by_word None moves is same =
          let none = step ∙ move_still updated c i k m own.task task_is moves in
          record { legal = same ∙ sym (ap is_some none); shared = subst (λ o. SharesWords (or_skipped updated c o) i (set words (k + 1) n)) (sym none) (kept n is) }
      by_word (Some u) moves is same =
          let some_core = step ∙ move_is updated c i k m own.task u task_is moves in
          record { legal = same ∙ sym (ap is_some some_core); shared = subst (λ o. SharesWords (or_skipped updated c o) i (set words (k + 1) n)) (sym some_core) (moved_on u (m.answers c.answers own.task.leaf) n is) }

-- until the step is over, tasks are taken and published
take_step : (updated : UpdateRule) (c : Core) (i k seat : ℕ) (s : Sweep) → s ≢ Over → in_sweep updated s c (Take seat i k) ≡ moved updated c i k (slice_get c.trees i) (take_move updated seat)
take_step updated c i k seat First more = refl
take_step updated c i k seat Second more = refl
take_step updated c i k seat Over more = absurd (more refl)

publish_step : (updated : UpdateRule) (c : Core) (i k seat : ℕ) (s : Sweep) → s ≢ Over → in_sweep updated s c (Publish seat i k) ≡ moved updated c i k (slice_get c.trees i) (publish_move updated seat)
publish_step updated c i k seat First more = refl
publish_step updated c i k seat Second more = refl
publish_step updated c i k seat Over more = absurd (more refl)

-- a step of the desk succeeds where the event is legal
take_won : (seat : ℕ) (w : Word) → (code w == code Free) ≡ is_some (taken seat w)
take_won seat Free = refl
take_won seat (Taken s) = ne_eqb (s + 3) 0 (λ e. omega (arith, e))
take_won seat Published = refl
take_won seat Collected = refl

publish_won : (seat : ℕ) (w : Word) → (code w == code (Taken seat)) ≡ is_some (published seat w)
publish_won seat Free = ne_eqb 0 (seat + 3) (λ e. omega (arith, e))
publish_won seat (Taken s) = dite (ℕ_discrete s seat)
    (λ is. eq-eqb (s + 3) (seat + 3) (omega (arith, is)) ∙ sym (ap (λ b. is_some (cond b (Some Published) None)) (eq-eqb s seat is)))
    (λ other. ne_eqb (s + 3) (seat + 3) (λ e. other (omega (arith, e))) ∙ sym (ap (λ b. is_some (cond b (Some Published) None)) (ne_eqb s seat other)))
publish_won seat Published = ne_eqb 1 (seat + 3) (λ e. omega (arith, e))
publish_won seat Collected = ne_eqb 2 (seat + 3) (λ e. omega (arith, e))

collect_won : (w : Word) → not (code w == code Collected) ≡ is_some (collected w)
collect_won Free = refl
collect_won (Taken s) = ap not (ne_eqb (s + 3) 2 (λ e. omega (arith, e)))
collect_won Published = refl
collect_won Collected = refl

pub claims_are_takes : ClaimsAreTakes
claims_are_takes updated c i k seat words has more =
    let found = found_is updated c i k words has in
    let word : Word = (added c i k has.added).task.word in
    follows updated c i k words has (take_move updated seat) (Take seat i k) (exchanged (slice_index words (k + 1)) (code Free) (code (Taken seat))) (slice_index words (k + 1) == code Free)
    (take_step updated c i k seat c.sweep more)
    (ap (λ n. exchanged n (code Free) (code (Taken seat))) found ∙ claim_is_take seat word)
    (ap (λ n. n == code Free) found ∙ take_won seat word)

pub publications_are_publish : PublicationsArePublish
publications_are_publish updated c i k seat words has more =
    let found = found_is updated c i k words has in
    let word : Word = (added c i k has.added).task.word in
    follows updated c i k words has (publish_move updated seat) (Publish seat i k) (exchanged (slice_index words (k + 1)) (code (Taken seat)) (code Published)) (slice_index words (k + 1) == code (Taken seat))
    (publish_step updated c i k seat c.sweep more)
    (ap (λ n. exchanged n (code (Taken seat)) (code Published)) found ∙ publication_is_publish seat word)
    (ap (λ n. n == code (Taken seat)) found ∙ publish_won seat word)

pub collections_are_collect : CollectionsAreCollect
collections_are_collect updated c i k words has second =
    let found = found_is updated c i k words has in
    let word : Word = (added c i k has.added).task.word in
    follows updated c i k words has (collect_move updated) (Collect i k) (code Collected) (not (slice_index words (k + 1) == code Collected))
    (ap (λ s. in_sweep updated s c (Collect i k)) second)
    (collection_is_collect word)
    (ap (λ n. not (n == code Collected)) found ∙ collect_won word)
