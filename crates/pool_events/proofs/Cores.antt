-- What an event leaves of the words of a core.
use Rattle.std.proofs.Common.{◌≡◌, ◌≢◌, ℕ, zero, suc, List, [], ◌∷◌, ◌++◌, map, refl, sym, ap, subst, ◌∙◌, Some, IsSome}
use Rattle.std.specs.Prelude.{slice_get}
use Rattle.solver_api.specs.Step.{UpdateRule}
use Rattle.result_table.specs.declared.word.Word.TheVariants.{Free}
use Rattle.task_core.specs.declared.stop.Leaf.{Leaf}
use Rattle.task_core.specs.declared.stop.Stop.{Stop}
use Rattle.task_core.specs.declared.stop.Stop.TheVariants.{Pass, Compute, Offer}
use Rattle.task_core.specs.declared.stop.Offered.{Offered}
use Rattle.task_core.specs.declared.event.Event.{Event}
use Rattle.task_core.specs.declared.event.Event.TheVariants.{Visit, Take, Publish, Collect, Exchange}
use Rattle.task_core.specs.declared.event.Sweep.{Sweep}
use Rattle.task_core.specs.declared.event.Sweep.TheVariants.{First, Second, Over}
use Rattle.task_core.specs.Core.{Tree, Core, all_made, tasks_after, rewound, take_move, publish_move, collect_move, in_sweep, stepped, or_skipped}
use Rattle.task_core.specs.Work.{task_in}
use Rattle.task_core.specs.Replies.{word_in, word_at}
use Rattle.task_core.specs.Desks.{or_free}
use Rattle.task_core.proofs.Lists.{get_here, get_else, by_place}
use Rattle.task_core.proofs.Events.{tree_visited, core_visited, visits, moves, exchanges}
use Rattle.task_core.proofs.Forward.{words_forward}
use Rattle.task_core.proofs.Desks.{added}

module _ (updated : UpdateRule) (c : Core) where
  -- a task that was added stays there
  pub stays_added : (e : Event) (i k : ℕ) → IsSome (word_at c i k) → IsSome (word_at (or_skipped updated c (stepped updated c e)) i k)
  stays_added e i k h =
      let own = added c i k h in
      let next = words_forward updated c (e ∷ []) i k own.task.word (record { tree = own.tree; at = own.at; task = own.task; there = own.there; word = refl }) in
      let has = next.1 in
      subst IsSome (sym (ap (λ q. word_in (task_in q k)) has.at ∙ ap word_in has.there)) refl

  -- an event of one tree's task leaves the other trees
  module _ (i j : ℕ) (other : j ≢ i) where
    abbrev Keeps : Core → Type 0
    Keeps d = slice_get d.trees j ≡ slice_get c.trees j

    take_by : (actor k : ℕ) (s : Sweep) → Keeps (or_skipped updated c (in_sweep updated s c (Take actor i k)))
    take_by actor k First = moves updated Keeps c refl i k (slice_get c.trees i) (take_move updated actor) (λ t o w at there e. get_else c.trees i j _ other)
    take_by actor k Second = moves updated Keeps c refl i k (slice_get c.trees i) (take_move updated actor) (λ t o w at there e. get_else c.trees i j _ other)
    take_by actor k Over = refl

    publish_by : (actor k : ℕ) (s : Sweep) → Keeps (or_skipped updated c (in_sweep updated s c (Publish actor i k)))
    publish_by actor k First = moves updated Keeps c refl i k (slice_get c.trees i) (publish_move updated actor) (λ t o w at there e. get_else c.trees i j _ other)
    publish_by actor k Second = moves updated Keeps c refl i k (slice_get c.trees i) (publish_move updated actor) (λ t o w at there e. get_else c.trees i j _ other)
    publish_by actor k Over = refl

    collect_by : (k : ℕ) (s : Sweep) → Keeps (or_skipped updated c (in_sweep updated s c (Collect i k)))
    collect_by k First = refl
    collect_by k Second = moves updated Keeps c refl i k (slice_get c.trees i) (collect_move updated) (λ t o w at there e. get_else c.trees i j _ other)
    collect_by k Over = refl

    pub take_leaves : (actor k : ℕ) → Keeps (or_skipped updated c (stepped updated c (Take actor i k)))
    take_leaves actor k = take_by actor k c.sweep

    pub publish_leaves : (actor k : ℕ) → Keeps (or_skipped updated c (stepped updated c (Publish actor i k)))
    publish_leaves actor k = publish_by actor k c.sweep

    pub collect_leaves : (k : ℕ) → Keeps (or_skipped updated c (stepped updated c (Collect i k)))
    collect_leaves k = collect_by k c.sweep

-- a visit adds tasks that are Free
free_more : (ts : List Offered) (l : Leaf) (k : ℕ) → or_free (word_in (slice_get (ts ++ record { leaf = l; word = Free } ∷ []) k)) ≡ or_free (word_in (slice_get ts k))
free_more [] l zero = refl
free_more [] l (suc k) = refl
free_more (t ∷ ts) l zero = refl
free_more (t ∷ ts) l (suc k) = free_more ts l k

free_after : (s : Sweep) (ts : List Offered) (x : Stop) (k : ℕ) → or_free (word_in (slice_get (tasks_after s ts x) k)) ≡ or_free (word_in (slice_get ts k))
free_after First ts Pass k = refl
free_after First ts (Compute l) k = refl
free_after First ts (Offer l) k = free_more ts l k
free_after Second ts x k = refl
free_after Over ts x k = refl

-- a tree that is rewound keeps its tasks
rewound_words : (ts : List Tree) (j k : ℕ) → task_in (slice_get (map rewound ts) j) k ≡ task_in (slice_get ts j) k
rewound_words [] j k = refl
rewound_words (t ∷ ts) zero k = refl
rewound_words (t ∷ ts) (suc j) k = rewound_words ts j k

module _ (updated : UpdateRule) (c : Core) (j k : ℕ) where
  abbrev Same : Core → Type 0
  Same d = or_free (word_at d j k) ≡ or_free (word_at c j k)

  visited_same : (i : ℕ) (t : Tree) (x : Stop) → slice_get c.trees i ≡ Some t → Same (core_visited updated c i t x)
  visited_same i t x at = by_place i j
      (λ is.
      let new : Tree = tree_visited updated c.sweep t x in
      subst (λ q. or_free (word_at (core_visited updated c i t x) q k) ≡ or_free (word_at c q k)) (sym is)
      (ap (λ q. or_free (word_in (task_in q k))) (get_here c.trees i t new at) ∙ free_after c.sweep t.tasks x k ∙ sym (ap (λ q. or_free (word_in (task_in q k))) at)))
      (λ other. ap (λ q. or_free (word_in (task_in q k))) (get_else c.trees i j (tree_visited updated c.sweep t x) other))

  visit_by : (i : ℕ) (s : Sweep) → Same (or_skipped updated c (in_sweep updated s c (Visit i)))
  visit_by i First = visits updated Same c refl i (slice_get c.trees i) (λ t x at next. visited_same i t x at)
  visit_by i Second = visits updated Same c refl i (slice_get c.trees i) (λ t x at next. visited_same i t x at)
  visit_by i Over = refl

  exchange_by : (s : Sweep) → Same (or_skipped updated c (in_sweep updated s c Exchange))
  exchange_by First = exchanges updated Same c refl Second (all_made First c.trees) (λ all. ap (λ o. or_free (word_in o)) (rewound_words c.trees j k))
  exchange_by Second = exchanges updated Same c refl Over (all_made Second c.trees) (λ all. ap (λ o. or_free (word_in o)) (rewound_words c.trees j k))
  exchange_by Over = refl

  -- visits and exchanges change no word, where a task that is not added yet is Free
  pub visit_leaves : (i : ℕ) → Same (or_skipped updated c (stepped updated c (Visit i)))
  visit_leaves i = visit_by i c.sweep

  pub exchange_leaves : Same (or_skipped updated c (stepped updated c Exchange))
  exchange_leaves = exchange_by c.sweep
