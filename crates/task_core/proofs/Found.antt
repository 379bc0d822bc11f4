-- What a visit and a move of a task make of a core, by the next visit and the task that are found.
use Rattle.std.proofs.Common.{◌≡◌, ℕ, ◌+◌, ◌<◌, ◌≤◌, Bool, true, false, List, [], ◌∷◌, ◌++◌, length, take, get_or, refl, sym, ap, subst, ◌∙◌, arith, Option, Some, None, IsSome}
use Rattle.std.proofs.lemmas.Bool.{false≢true}
use Rattle.std.proofs.lemmas.List.{take_more}
use Rattle.std.specs.Prelude.{slice_get, is_some, cond, if◌then◌else◌}
use Rattle.solver_api.specs.Step.{UpdateRule}
use Rattle.result_table.specs.declared.word.Word.{Word}
use Rattle.task_core.specs.declared.stop.Leaf.{Leaf}
use Rattle.task_core.specs.declared.stop.Offered.{Offered}
use Rattle.task_core.specs.declared.stop.Stop.{Stop}
use Rattle.task_core.specs.declared.event.Event.{Event}
use Rattle.task_core.specs.declared.event.Reply.{Reply}
use Rattle.task_core.specs.declared.event.Reply.TheVariants.{Applied, Skipped}
use Rattle.task_core.specs.declared.event.Sweep.{Sweep}
use Rattle.task_core.specs.Core.{Answers, Tree, Core, stops, answers_after, visited_at, visited, worded, Move, moved_at, moved, stepped, or_skipped, run}
use Rattle.task_core.specs.Work.{next_in, task_in, with_task, with_tree, changed_at}
use Rattle.task_core.specs.Replies.{Replies, applied, applied_by}
use Rattle.task_core.proofs.Lists.{none_is, some_is}
use Rattle.task_core.proofs.Events.{tree_visited}

-- what is found is there
pub found : {X : Type 0} (o : Option X) (x : X) → o ≡ Some x → IsSome o
found o x e = subst IsSome (sym e) refl

module _ (updated : UpdateRule) (c : Core) (i : ℕ) where
  visit_by : (s : Sweep) (o : Option Tree) (x : Stop) → c.sweep ≡ s → next_in s o ≡ Some x → visited updated c i o ≡ Some (record { sweep = c.sweep; trees = changed_at (λ t. tree_visited updated s t x) c.trees i o; answers = answers_after updated s c.answers x })
  visit_by s None x same next = absurd (none_is x next)
  visit_by s (Some t) x same next =
      ap (visited_at updated c i t) (subst (λ r. slice_get (stops r t) t.made ≡ Some x) (sym same) next)
      ∙ ap (λ r. Some (record { sweep = c.sweep; trees = changed_at (λ u. tree_visited updated r u x) c.trees i (Some t); answers = answers_after updated r c.answers x })) same

  -- the next visit of a sweep is made
  pub visit_is : (s : Sweep) (x : Stop) → c.sweep ≡ s → next_in s (slice_get c.trees i) ≡ Some x → visited updated c i (slice_get c.trees i) ≡ Some (with_tree (λ t. tree_visited updated s t x) c i (answers_after updated s c.answers x))
  visit_is s x same next = visit_by s (slice_get c.trees i) x same next

  none_by : (s : Sweep) (o : Option Tree) → c.sweep ≡ s → next_in s o ≡ None → visited updated c i o ≡ None
  none_by s None same next = refl
  none_by s (Some t) same next = ap (visited_at updated c i t) (subst (λ r. slice_get (stops r t) t.made ≡ None) (sym same) next)

  -- or there is none
  pub visit_none : (s : Sweep) → c.sweep ≡ s → next_in s (slice_get c.trees i) ≡ None → visited updated c i (slice_get c.trees i) ≡ None
  visit_none s same next = none_by s (slice_get c.trees i) same next

  module _ (k : ℕ) (m : Move updated) where
    to_by : (p : Option Tree) (o : Offered) (w : Word) → task_in p k ≡ Some o → m.word o.word ≡ Some w → moved updated c i k p m ≡ Some (record { sweep = c.sweep; trees = changed_at (with_task k (record { leaf = o.leaf; word = w })) c.trees i p; answers = m.answers c.answers o.leaf })
    to_by None o w there moves = absurd (none_is o there)
    to_by (Some t) o w there moves = ap (λ q. moved_at updated c i k t q m) there ∙ ap (worded updated c i k t o (m.answers c.answers o.leaf)) moves

    -- a task that is there moves
    pub move_is : (o : Offered) (w : Word) → task_in (slice_get c.trees i) k ≡ Some o → m.word o.word ≡ Some w → moved updated c i k (slice_get c.trees i) m ≡ Some (with_tree (with_task k (record { leaf = o.leaf; word = w })) c i (m.answers c.answers o.leaf))
    move_is o w there moves = to_by (slice_get c.trees i) o w there moves

    still_by : (p : Option Tree) (o : Offered) → task_in p k ≡ Some o → m.word o.word ≡ None → moved updated c i k p m ≡ None
    still_by None o there moves = absurd (none_is o there)
    still_by (Some t) o there moves = ap (λ q. moved_at updated c i k t q m) there ∙ ap (worded updated c i k t o (m.answers c.answers o.leaf)) moves

    -- or its word does not allow it
    pub move_still : (o : Offered) → task_in (slice_get c.trees i) k ≡ Some o → m.word o.word ≡ None → moved updated c i k (slice_get c.trees i) m ≡ None
    move_still o there moves = still_by (slice_get c.trees i) o there moves

    away_by : (p : Option Tree) → task_in p k ≡ None → moved updated c i k p m ≡ None
    away_by None there = refl
    away_by (Some t) there = ap (λ q. moved_at updated c i k t q m) there

    -- or it is not there
    pub move_away : task_in (slice_get c.trees i) k ≡ None → moved updated c i k (slice_get c.trees i) m ≡ None
    move_away there = away_by (slice_get c.trees i) there

module _ (updated : UpdateRule) where
  -- a reply tells whether an event was legal, and what came of it
  pub replied : (o : Option Core) (c d : Core) (r : Reply) → Replies o c r d → (d ≡ or_skipped updated c o) × (applied_by r ≡ (if is_some o then 1 else 0))
  replied None c d r h = (h.1, ap applied_by h.0)
  replied (Some e) c d r h = (h.1, ap applied_by h.0)

  -- one more event
  pub run_more : (c : Core) (es : List Event) (e : Event) → run updated c (es ++ e ∷ []) ≡ or_skipped updated (run updated c es) (stepped updated (run updated c es) e)
  run_more c [] e = refl
  run_more c (x ∷ es) e = run_more (or_skipped updated c (stepped updated c x)) es e

  pub applied_more : (c : Core) (es : List Event) (e : Event) → applied updated c (es ++ e ∷ []) ≡ applied updated c es + (if is_some (stepped updated (run updated c es) e) then 1 else 0)
  applied_more c [] e = let n : ℕ = if is_some (stepped updated c e) then 1 else 0 in by_sum n
    where
      by_sum : (n : ℕ) → n + 0 ≡ 0 + n
      by_sum n = omega arith
  applied_more c (x ∷ es) e =
      let d = or_skipped updated c (stepped updated c x) in
      three (if is_some (stepped updated c x) then 1 else 0) (applied updated d (es ++ e ∷ [])) (applied updated d es) (if is_some (stepped updated (run updated d es) e) then 1 else 0) (applied_more d es e)
    where
      three : (a b p q : ℕ) → b ≡ p + q → a + b ≡ (a + p) + q
      three a b p q h = omega (arith, h)

  -- one more event of a list that is run
  pub run_step : (c : Core) (es : List Event) (i n m : ℕ) (d : Event) (a b : Core) (r : Reply) → i < length es → a ≡ run updated c (take i es) → n ≡ applied updated c (take i es) → Replies (stepped updated a (get_or es i d)) a r b → m ≡ applied_by r
      → (b ≡ run updated c (take (i + 1) es)) × (n + m ≡ applied updated c (take (i + 1) es)) × (m ≤ 1)
  run_step c es i n m d a b r below ran counted told is =
      let e : Event = get_or es i d in
      let more : take (i + 1) es ≡ take i es ++ e ∷ [] = take_more es i d below in
      let legal = replied (stepped updated a e) a b r told in (
        legal.0 ∙ ap (λ q. or_skipped updated q (stepped updated q e)) ran ∙ sym (ap (run updated c) more ∙ run_more c (take i es) e),
        sum_of n m (applied updated c (take i es)) (if is_some (stepped updated (run updated c (take i es)) e) then 1 else 0) counted (is ∙ legal.1 ∙ ap (λ q. if is_some (stepped updated q e) then 1 else 0) ran) ∙ sym (ap (applied updated c) more ∙ applied_more c (take i es) e),
        one r is,
      )
    where
      sum_of : (n m p q : ℕ) → n ≡ p → m ≡ q → n + m ≡ p + q
      sum_of n m p q h k = omega (arith, h, k)

      one : (r : Reply) → m ≡ applied_by r → m ≤ 1
      one Applied h = omega (arith, h)
      one Skipped h = omega (arith, h)
