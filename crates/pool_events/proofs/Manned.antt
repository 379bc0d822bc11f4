-- A pool at rest is at a moment of which the laws speak, and a new one agrees with a core that begins.
use Rattle.std.proofs.Common.{◌≡◌, ℕ, ◌<◌, ◌≤◌, true, List, get_or, refl, sym, ap, subst, ◌∙◌, arith, ⊎_elim, Option, Some, None, vec_len}
use Rattle.std.proofs.lemmas.Bool.{false≢true}
use Rattle.std.proofs.lemmas.Option.{get_or_from_slice_get}
use Rattle.std.specs.Prelude.{slice_get}
use Rattle.crossbeam_deque.specs.Handles.{view}
use Rattle.result_table.specs.declared.updates.Updates.{Ghosts}
use Rattle.result_table.specs.declared.view.View.{View}
use Rattle.result_table.specs.declared.word.Word.TheVariants.{Free}
use Rattle.result_table.specs.Words.{code}
use Rattle.result_table.specs.Views.{has}
use Rattle.result_table.specs.Rule.{IsWord, IsClaimed, IsCollected}
use Rattle.task_core.specs.Core.{Core, Tree as CoreTree}
use Rattle.task_core.specs.Work.{task_in}
use Rattle.task_core.specs.Replies.{word_in, word_at}
use Rattle.task_core.specs.Desks.{or_free}
use Rattle.task_core.proofs.Lists.{below}
use Rattle.task_pool.specs.declared.parts.Pool.{Pool}
use Rattle.task_pool.specs.declared.parts.Tree.{Tree}
use Rattle.task_pool.specs.declared.parts.TreeHand.{TreeHand}
use Rattle.task_pool.specs.declared.parts.Helper.{Helper}
use Rattle.task_pool.specs.Deque.{count, has_number}
use Rattle.task_pool.specs.Seen.{IsPostAt, spawned_of}
use Rattle.pool_events.specs.Moments.{Moment, IsMoment, IsTaken}
use Rattle.pool_events.specs.Histories.{AreMoments, AllAgree}
use Rattle.pool_events.specs.Manned.{IsHelpers, IsManned, IsNew, HasNoTasks}
use Rattle.pool_events.proofs.Spawned.{claimed_spawned}

-- a core whose trees have no task has no word
no_word : (c : Core) → HasNoTasks c → (i k : ℕ) → word_at c i k ≡ None
no_word c none i k = by_tree (slice_get c.trees i) refl
  where
    by_tree : (o : Option CoreTree) → slice_get c.trees i ≡ o → word_at c i k ≡ None
    by_tree None e = ap (λ o. word_in (task_in o k)) e
    by_tree (Some t) e = ap (λ o. word_in (task_in o k)) e ∙ ap (λ l. word_in (slice_get l k)) (none i t e)

module _ {S : Type 0} {g : Ghosts S} where
  module _ (p : Pool S g) (t : Tree S g) (tree : ℕ) (h : TreeHand S g) (helpers : List (Helper S g)) (m : Moment S g) (at : slice_get p.trees.items tree ≡ Some t) (is : IsManned p t tree h helpers m) where
    there : tree < vec_len p.trees
    there = subst (λ q. tree < q) (sym p.trees.ok.0) (below p.trees.items tree t at)

    -- what a helper's place has claimed its pass took
    helpers_took : (k : ℕ) (v : View S) → IsHelpers helpers tree m.logs v → has v.claimed k ≡ true → IsTaken m.logs tree k
    helpers_took k v of e =
        let place = (is.helper of.number of.helper of.is).posts tree t of.post there in
        let post_is : get_or of.helper.posts.items tree of.post ≡ of.post = get_or_from_slice_get of.helper.posts.items tree of.post of.post of.place in
        let mine : IsPostAt (get_or p.trees.items tree t) tree of.post = subst (IsPostAt (get_or p.trees.items tree t) tree) post_is place in
        (of.port, view of.post.pass, of.log, mine.claimed k (subst (λ (u : View S). has u.claimed k ≡ true) of.sees e))

    pub manned_moment : IsMoment t tree m
    manned_moment = record {
      desk = is.desk;
      put_in = is.deque.0;
      deque = is.deque.1;
      numbers = λ n above.
          let mine = is.deque.1.owner 0 _ is.log h.spawns in
          let large : spawned_of h ≤ n = subst (λ q. q ≤ n) is.spawned above in
          ap (count (has_number n)) (sym mine.1) ∙ h.below n large;
      claimed = λ seat k v here e. ⊎_elim
          (λ mine. absurd (false≢true (ap (λ l. has l k) (sym (ap (λ (u : View S). u.claimed) mine ∙ is.hand.idle)) ∙ e)))
          (λ of. helpers_took k v of e)
          (is.seats seat v here);
    }

  -- no word of a new tree is anything but Free
  new_free : (t : Tree S g) (tree : ℕ) (m : Moment S g) → IsMoment t tree m → IsNew m → (k : ℕ) → k < t.desk.table.shared.key.size → IsWord m.desk k Free
  new_free t tree m is new k small = (is.desk.free k small).1 (nobody, uncollected)
    where
      nobody : ¬ IsClaimed m.desk k
      nobody c = let none = new.spawned in let some_ = claimed_spawned t tree m c.0 k c.1 is c.2 c.3 in absurd (omega (arith, none, some_))

      uncollected : ¬ IsCollected m.desk k
      uncollected c =
          let none = new.collected k c.0 c.1 in
          ⊎_elim (λ e. false≢true (sym none.0 ∙ e)) (λ x. ⊎_elim (λ e. false≢true (sym none.1 ∙ e)) (λ e. false≢true (sym none.2 ∙ e)) x) c.2

  pub new_agrees : (p : Pool S g) (c : Core) (ms : ℕ → Moment S g) → AreMoments p ms → ((i : ℕ) (t : Tree S g) → slice_get p.trees.items i ≡ Some t → IsNew (ms i)) → HasNoTasks c → AllAgree p c ms
  new_agrees p c ms are new none i t at = record {
    words = λ k within. let long = (are i t at).desk.words in
        new_free t i (ms i) (are i t at) (new i t at) k (omega (arith, within, long)) ∙ sym (ap (λ o. code (or_free o)) (no_word c none i k));
    added = λ k small. let zero_is = (new i t at).spawned in absurd (omega (arith, small, zero_is));
  }
