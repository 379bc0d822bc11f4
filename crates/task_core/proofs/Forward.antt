-- A word only moves forward.
use Rattle.std.proofs.Common.{◌≡◌, ℕ, ◌≤◌, List, map, set, sym, refl, ap, subst, ◌∙◌, arith, Some}
use Rattle.std.specs.Prelude.{slice_get}
use Rattle.solver_api.specs.Step.{UpdateRule}
use Rattle.result_table.specs.declared.word.Word.{Word}
use Rattle.result_table.specs.Words.{place_of}
use Rattle.task_core.specs.declared.stop.Stop.{Stop}
use Rattle.task_core.specs.declared.stop.Stop.TheVariants.{Pass, Compute, Offer}
use Rattle.task_core.specs.declared.event.Event.{Event}
use Rattle.task_core.specs.declared.event.Sweep.{Sweep}
use Rattle.task_core.specs.declared.event.Sweep.TheVariants.{First, Second, Over}
use Rattle.task_core.specs.declared.stop.Offered.{Offered}
use Rattle.task_core.specs.Core.{Tree, Core, tasks_after, rewound, stepped, or_skipped, run}
use Rattle.task_core.specs.Laws.{HasWord}
use Rattle.task_core.proofs.Lists.{some_is, get_here, get_else, get_append, get_map, by_place}
use Rattle.task_core.proofs.Events.{by_event, by_events, tree_visited, tree_moved}

-- the word of a task stands no further back than w
abbrev HasFrom : ℕ → ℕ → Word → Core → Type 0
HasFrom i k w c = (u : Word) × HasWord c i k u × (place_of w ≤ place_of u)

-- a visit leaves each task
tasks_stay : (s : Sweep) (ts : List Offered) (x : Stop) (k : ℕ) (o : Offered) → slice_get ts k ≡ Some o → slice_get (tasks_after s ts x) k ≡ Some o
tasks_stay First ts Pass k o e = e
tasks_stay First ts (Compute l) k o e = e
tasks_stay First ts (Offer l) k o e = get_append ts _ k o e
tasks_stay Second ts x k o e = e
tasks_stay Over ts x k o e = e

rewinds : (i k : ℕ) (w : Word) (c : Core) (s : Sweep) → HasFrom i k w c → HasFrom i k w (record { sweep = s; trees = map rewound c.trees; answers = c.answers })
rewinds i k w c s h = (h.0, record { tree = rewound h.1.tree; at = get_map rewound c.trees i h.1.tree h.1.at; task = h.1.task; there = h.1.there; word = h.1.word }, h.2)

module _ (updated : UpdateRule) (i k : ℕ) (w : Word) where
  step : (c : Core) (e : Event) → HasFrom i k w c → HasFrom i k w (or_skipped updated c (stepped updated c e))
  step c e h =
      let has = h.1 in
      by_event updated (HasFrom i k w) c h
      (λ j t x at next. by_place j i
      (λ is.
      let same : has.tree ≡ t = some_is has.tree t (sym has.at ∙ (ap (slice_get c.trees) is ∙ at)) in (
        h.0,
        record {
          tree = tree_visited updated c.sweep t x;
          at = subst (λ n. slice_get (set c.trees j (tree_visited updated c.sweep t x)) n ≡ Some (tree_visited updated c.sweep t x)) (sym is) (get_here c.trees j t (tree_visited updated c.sweep t x) at);
          task = has.task;
          there = tasks_stay c.sweep t.tasks x k has.task (subst (λ (u : Tree). slice_get u.tasks k ≡ Some has.task) same has.there);
          word = has.word;
        },
        h.2,
      ))
      (λ other. (h.0, record { tree = has.tree; at = get_else c.trees j i (tree_visited updated c.sweep t x) other ∙ has.at; task = has.task; there = has.there; word = has.word }, h.2)))
      (λ j n t o v m move at there moved. by_place j i
      (λ is.
      let same : has.tree ≡ t = some_is has.tree t (sym has.at ∙ (ap (slice_get c.trees) is ∙ at)) in
      let mine : slice_get t.tasks k ≡ Some has.task = subst (λ (u : Tree). slice_get u.tasks k ≡ Some has.task) same has.there in
      let new : Tree = tree_moved updated t n o v in
      let here : slice_get (set c.trees j new) i ≡ Some new = subst (λ q. slice_get (set c.trees j new) q ≡ Some new) (sym is) (get_here c.trees j t new at) in
      by_place n k
      (λ it.
      let one : has.task ≡ o = some_is has.task o (sym mine ∙ (ap (slice_get t.tasks) it ∙ there)) in
      let was : o.word ≡ h.0 = ap (λ (p : Offered). p.word) (sym one) ∙ has.word in
      let forward : place_of h.0 ≤ place_of v = subst (λ u. place_of u ≤ place_of v) was (move.word o.word v moved) in (
        v,
        record {
          tree = new;
          at = here;
          task = record { leaf = o.leaf; word = v };
          there = subst (λ q. slice_get new.tasks q ≡ Some (record { leaf = o.leaf; word = v })) (sym it) (get_here t.tasks n o (record { leaf = o.leaf; word = v }) there);
          word = refl;
        },
        (let before = h.2 in omega (arith, before, forward)),
      ))
      (λ else_. (h.0, record { tree = new; at = here; task = has.task; there = get_else t.tasks n k (record { leaf = o.leaf; word = v }) else_ ∙ mine; word = has.word }, h.2)))
      (λ other. (h.0, record { tree = has.tree; at = get_else c.trees j i (tree_moved updated t n o v) other ∙ has.at; task = has.task; there = has.there; word = has.word }, h.2)))
      (λ _ _. rewinds i k w c Second h)
      (λ _ _. rewinds i k w c Over h)
      e

pub words_forward : (updated : UpdateRule) (c : Core) (events : List Event) (i k : ℕ) (w : Word) → HasWord c i k w → (u : Word) × HasWord (run updated c events) i k u × (place_of w ≤ place_of u)
words_forward updated c events i k w h = by_events updated (HasFrom i k w) (step updated i k w) c events (w, h, omega arith)
