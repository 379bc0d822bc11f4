-- The laws of runs, each at the end of a run.
use Rattle.std.proofs.Common.{◌≡◌, ◌≢◌, ℕ, ◌+◌, ◌<◌, ◌≤◌, List, [], ◌∷◌, ◌++◌, map, set, refl, sym, ap, subst, ◌∙◌, arith, Option, Some, None}
use Rattle.std.specs.Prelude.{slice_get}
use Rattle.peano_keys.specs.declared.cell.CellKey.{CellKey}
use Rattle.result_table.specs.declared.updates.Updates.{Ghosts}
use Rattle.result_table.specs.declared.word.Word.TheVariants.{Collected}
use Rattle.solver_api.specs.Step.{UpdateRule}
use Rattle.task_core.specs.declared.event.Event.{Event}
use Rattle.task_core.specs.declared.event.Sweep.{Sweep}
use Rattle.task_core.specs.declared.event.Sweep.TheVariants.{First, Second, Over}
use Rattle.task_core.specs.declared.stop.Offered.{Offered}
use Rattle.task_core.specs.declared.stop.Stop.{Stop}
use Rattle.task_core.specs.declared.stop.Stop.TheVariants.{Pass, Compute, Offer}
use Rattle.task_core.specs.Core.{Tree, Core, tasks_after, rewound, stepped, or_skipped, run}
use Rattle.task_core.specs.Work.{task_in}
use Rattle.task_core.specs.Replies.{word_in, word_at}
use Rattle.task_core.proofs.Lists.{none_is, some_is, get_here, get_else, get_append, get_map, by_place}
use Rattle.task_core.proofs.Events.{by_event, by_events, tree_visited, tree_moved}
use Rattle.task_pool.specs.declared.parts.Pool.{Pool}
use Rattle.pool_events.specs.Moments.{Moment}
use Rattle.pool_events.specs.Deeds.{Deed, Wins, Loses, Fetches, Publishes, ComesLate, Gathers, FindsIdle, FindsBusy}
use Rattle.pool_events.specs.Histories.{Spawns, event_told, events_told}
use Rattle.pool_events.specs.Steps.{core_after}
use Rattle.running_threads.specs.Places.{Place, Progress, HasEnded, CanGoOn, IsCollectionOf, HandCollects, GoesBy, at_start, Goes}
use Rattle.running_threads.specs.Runs.{Point, history_of, progress_after, IsRun, StepRun, core_told, progress_at, moments_at, progress_of, moments_of}
use Rattle.running_threads.specs.Laws.{HasLeaf, IsNextNumber, SpawnsAt, CollectsAt}
use Rattle.running_threads.proofs.Lists.{there, TaskOf}
use Rattle.running_threads.proofs.Trees.{Tells, spawn_number, collect_number, none_left, others_collected, can_go_on}
use Rattle.running_threads.proofs.Cores.{TellsAll, tree_at}
use Rattle.running_threads.proofs.Runs.{tells, spawned_at_end, run_then}

-- a task of a tree that is there
has_leaf : (c : Core) (i n : ℕ) (l : CellKey) (w : Tree) → slice_get c.trees i ≡ Some w → TaskOf w.tasks n l → HasLeaf c i n l
has_leaf c i n l w at t = record { task = t.task; there = ap (λ q. task_in q n) at ∙ t.there; leaf = t.leaf }

module _ {S : Type 0} {gh : Ghosts S} (p : Pool S gh) (updated : UpdateRule) (r : StepRun p) (i : ℕ) (small : i < r.cuts.trees) where
  abbrev a : Place
  a = (progress_of r).place i

  abbrev c : Core
  c = core_told updated r

  abbrev all : TellsAll r.cuts r.grid r.field r.dir (progress_of r) (spawned_at_end p r) c
  all = tells p r updated

  pub number_of : (l : CellKey) → a.leaf ≡ Some l → (n : ℕ) × IsNextNumber (progress_of r).sweep (moments_of r i).spawned a n × HasLeaf c i n l
  number_of l at =
      let w = tree_at r.cuts r.grid r.field r.dir (progress_of r) (spawned_at_end p r) c i small all in
      by_sweep (progress_of r).sweep w.0 w.1 (all.trees i w.0 w.1)
    where
      by_sweep : (s : Sweep) (w : Tree) → slice_get c.trees i ≡ Some w → Tells r.cuts r.grid r.field r.dir i s a (spawned_at_end p r i) w → (n : ℕ) × IsNextNumber s (moments_of r i).spawned a n × HasLeaf c i n l
      by_sweep First w is h = (spawned_at_end p r i, refl, has_leaf c i (spawned_at_end p r i) l w is (spawn_number r.cuts r.grid r.field r.dir i a (spawned_at_end p r i) w l at h))
      by_sweep Second w is h = let n = collect_number r.cuts r.grid r.field r.dir i a (spawned_at_end p r i) w l at h in (n.0, n.1, has_leaf c i n.0 l w is n.2)
      by_sweep Over w is h = absurd (none_is l (sym h.leaf ∙ at))

  pub other_collected : (n : ℕ) → (progress_of r).sweep ≢ First → a.tasks ≤ n → n < (moments_of r i).spawned → word_at c i n ≡ Some Collected
  other_collected n later above below =
      let w = tree_at r.cuts r.grid r.field r.dir (progress_of r) (spawned_at_end p r) c i small all in
      let done = others_collected r.cuts r.grid r.field r.dir i (progress_of r).sweep a (spawned_at_end p r i) w.0 later (all.trees i w.0 w.1) in
      let o = there w.0.tasks n (subst (λ q. n < q) done.0 below) in
      ap (λ q. word_in (task_in q n)) w.1 ∙ ap word_in o.1 ∙ ap Some (done.1 n o.0 above o.1)

  pub ended_none : (progress_of r).sweep ≢ First → HasEnded a → a.tasks ≡ 0
  ended_none later ended =
      let w = tree_at r.cuts r.grid r.field r.dir (progress_of r) (spawned_at_end p r) c i small all in
      none_left r.cuts r.grid r.field r.dir i (progress_of r).sweep a (spawned_at_end p r i) w.0 later ended (all.trees i w.0 w.1)

  pub goes_on : CanGoOn r.cuts r.grid i (progress_of r).sweep a
  goes_on =
      let w = tree_at r.cuts r.grid r.field r.dir (progress_of r) (spawned_at_end p r) c i small all in
      can_go_on r.cuts r.grid r.field r.dir i (progress_of r).sweep a (spawned_at_end p r i) w.0 (all.trees i w.0 w.1)

-- a visit leaves each task
tasks_stay : (s : Sweep) (ts : List Offered) (x : Stop) (n : ℕ) (o : Offered) → slice_get ts n ≡ Some o → slice_get (tasks_after s ts x) n ≡ Some o
tasks_stay First ts Pass n o e = e
tasks_stay First ts (Compute l) n o e = e
tasks_stay First ts (Offer l) n o e = get_append ts _ n o e
tasks_stay Second ts x n o e = e
tasks_stay Over ts x n o e = e

-- a task of a tree of a core, and its leaf
record Keeps (i n : ℕ) (l : CellKey) (c : Core) : Type 0 where
  tree : Tree
  at : slice_get c.trees i ≡ Some tree
  task : TaskOf tree.tasks n l

module _ (updated : UpdateRule) (i n : ℕ) (l : CellKey) where
  set_keeps : (c d : Core) (j : ℕ) (t u : Tree) → slice_get c.trees j ≡ Some t → d.trees ≡ set c.trees j u → (TaskOf t.tasks n l → TaskOf u.tasks n l) → Keeps i n l c → Keeps i n l d
  set_keeps c d j t u at trees on h = by_place j i
      (λ is.
      let one : h.tree ≡ t = some_is h.tree t (sym h.at ∙ ap (slice_get c.trees) is ∙ at) in record {
        tree = u;
        at = ap (slice_get d.trees) is ∙ ap (λ ts. slice_get ts j) trees ∙ get_here c.trees j t u at;
        task = on (subst (λ (q : Tree). TaskOf q.tasks n l) one h.task);
      })
      (λ other. record { tree = h.tree; at = ap (λ ts. slice_get ts i) trees ∙ get_else c.trees j i u other ∙ h.at; task = h.task })

  rewound_keeps : (c d : Core) → d.trees ≡ map rewound c.trees → Keeps i n l c → Keeps i n l d
  rewound_keeps c d trees h = record { tree = rewound h.tree; at = ap (λ ts. slice_get ts i) trees ∙ get_map rewound c.trees i h.tree h.at; task = record { task = h.task.task; there = h.task.there; leaf = h.task.leaf } }

  step_keeps : (c : Core) (e : Event) → Keeps i n l c → Keeps i n l (or_skipped updated c (stepped updated c e))
  step_keeps c e h = by_event updated (Keeps i n l) c h
      (λ j t x at next. set_keeps c _ j t (tree_visited updated c.sweep t x) at refl (λ o. record { task = o.task; there = tasks_stay c.sweep t.tasks x n o.task o.there; leaf = o.leaf }) h)
      (λ j q t o w m move at there moved. set_keeps c _ j t (tree_moved updated t q o w) at refl
      (λ old. by_place q n
      (λ is. record {
        task = record { leaf = o.leaf; word = w };
        there = ap (slice_get (set t.tasks q (record { leaf = o.leaf; word = w }))) is ∙ get_here t.tasks q o (record { leaf = o.leaf; word = w }) there;
        leaf = ap (λ (y : Offered). y.leaf.key) (some_is o old.task (sym there ∙ ap (slice_get t.tasks) (sym is) ∙ old.there)) ∙ old.leaf;
      })
      (λ other. record { task = old.task; there = get_else t.tasks q n (record { leaf = o.leaf; word = w }) other ∙ old.there; leaf = old.leaf }))
      h)
      (λ _ _. rewound_keeps c _ refl h)
      (λ _ _. rewound_keeps c _ refl h)
      e

  pub keeps_leaf : (c : Core) (events : List Event) → HasLeaf c i n l → HasLeaf (run updated c events) i n l
  keeps_leaf c events h =
      let kept = by_events updated (Keeps i n l) step_keeps c events (from h) in
      has_leaf (run updated c events) i n l kept.tree kept.at kept.task
    where
      by_tree : (q : Option Tree) (o : Offered) → slice_get c.trees i ≡ q → task_in q n ≡ Some o → o.leaf.key ≡ l → Keeps i n l c
      by_tree None o e there leaf = absurd (none_is o there)
      by_tree (Some t) o e there leaf = record { tree = t; at = e; task = record { task = o; there = there; leaf = leaf } }

      from : HasLeaf c i n l → Keeps i n l c
      from h = by_tree (slice_get c.trees i) h.task refl h.there h.leaf

-- two leaves of one task
one_leaf : (c : Core) (i n : ℕ) (l m : CellKey) → HasLeaf c i n l → HasLeaf c i n m → m ≡ l
one_leaf c i n l m a b = sym b.leaf ∙ ap (λ (y : Offered). y.leaf.key) (some_is b.task a.task (sym b.there ∙ a.there)) ∙ a.leaf

-- a collection is one of the hand, with this number
hand_collects : (i n : ℕ) (d : Deed) (a b : Progress) → IsCollectionOf n d → GoesBy i d a b → HandCollects i n a b
hand_collects i n (Wins s k) a b none goes = absurd none
hand_collects i n (Loses s k) a b none goes = absurd none
hand_collects i n (Fetches s k) a b none goes = absurd none
hand_collects i n (Publishes s k) a b none goes = absurd none
hand_collects i n (ComesLate s k) a b none goes = absurd none
hand_collects i n (Gathers k) a b is goes = subst (λ q. HandCollects i q a b) is goes
hand_collects i n (FindsIdle k) a b is goes = subst (λ q. HandCollects i q a b) is goes
hand_collects i n (FindsBusy k) a b is goes = subst (λ q. HandCollects i q a b) is goes

module _ {S : Type 0} {gh : Ghosts S} where
  -- the events of some points and of those after them
  run_joined : (updated : UpdateRule) (c : Core) (xs ys : List (Point S gh)) → run updated c (events_told (history_of (xs ++ ys))) ≡ run updated (run updated c (events_told (history_of xs))) (events_told (history_of ys))
  run_joined updated c [] ys = refl
  run_joined updated c (x ∷ xs) ys =
      run_then updated c (event_told x.happening) (events_told (history_of (xs ++ ys)))
      ∙ run_joined updated (core_after updated c (event_told x.happening)) xs ys
      ∙ ap (λ d. run updated d (events_told (history_of ys))) (sym (run_then updated c (event_told x.happening) (events_told (history_of xs))))

  module _ (p : Pool S gh) (r : StepRun p) where
    abbrev Runs : Progress → (ℕ → Moment S gh) → List (Point S gh) → Type 0
    Runs a ms xs = IsRun r.cuts r.grid r.dir p a ms xs

    -- a first part of a run is a run, and what happens after it leads on
    first_part : (a : Progress) (ms : ℕ → Moment S gh) (xs : List (Point S gh)) (y : Point S gh) (ys : List (Point S gh)) → Runs a ms (xs ++ y ∷ ys)
        → Runs a ms xs × Goes r.cuts r.grid r.dir y.happening (progress_after a xs) y.progress
    first_part a ms [] y ys h = (tt, h.1)
    first_part a ms (x ∷ xs) y ys h = let rest = first_part x.progress x.moments xs y ys h.3 in ((h.0, h.1, h.2, rest.0), rest.1)

    -- a run to some point of it
    abbrev run_to : (xs : List (Point S gh)) → Runs (at_start r.cuts r.grid r.dir) r.moments xs → StepRun p
    run_to xs runs = record { cuts = r.cuts; grid = r.grid; field = r.field; dir = r.dir; core = r.core; moments = r.moments; points = xs; begins = r.begins; run = runs }

    -- a leaf of a task there is one of it at the end
    leaf_to_end : (updated : UpdateRule) (xs ys : List (Point S gh)) → r.points ≡ xs ++ ys → (i n : ℕ) (l : CellKey) → HasLeaf (run updated r.core (events_told (history_of xs))) i n l → HasLeaf (core_told updated r) i n l
    leaf_to_end updated xs ys is i n l h = subst (λ c. HasLeaf c i n l) (sym (ap (λ zs. run updated r.core (events_told (history_of zs))) is ∙ run_joined updated r.core xs ys)) (keeps_leaf updated i n l (run updated r.core (events_told (history_of xs))) (events_told (history_of ys)) h)

    module _ (updated : UpdateRule) (i n : ℕ) where
      spawned_leaf : (l : CellKey) → SpawnsAt r i n l → HasLeaf (core_told updated r) i n l
      spawned_leaf l s =
          let part = first_part (at_start r.cuts r.grid r.dir) r.moments s.before s.point s.after (subst (Runs (at_start r.cuts r.grid r.dir) r.moments) s.points r.run) in
          let goes : Goes r.cuts r.grid r.dir (Spawns i) (progress_at r s.before) s.point.progress = subst (λ h. Goes r.cuts r.grid r.dir h (progress_at r s.before) s.point.progress) s.happening part.1 in
          let number = number_of p updated (run_to s.before part.0) i goes.0 l s.leaf in
          let is : number.0 ≡ n = subst (λ w. IsNextNumber w (moments_at r s.before i).spawned ((progress_at r s.before).place i) number.0) goes.1 number.1 ∙ s.number in
          leaf_to_end updated s.before (s.point ∷ s.after) s.points i n l (subst (λ q. HasLeaf (core_told updated (run_to s.before part.0)) i q l) is number.2)

      collected_leaf : (l : CellKey) → i < r.cuts.trees → CollectsAt r i n l → HasLeaf (core_told updated r) i n l
      collected_leaf l small s =
          let part = first_part (at_start r.cuts r.grid r.dir) r.moments s.before s.point s.after (subst (Runs (at_start r.cuts r.grid r.dir) r.moments) s.points r.run) in
          let goes : GoesBy i s.deed (progress_at r s.before) s.point.progress = subst (λ h. Goes r.cuts r.grid r.dir h (progress_at r s.before) s.point.progress) s.happening part.1 in
          let hand = hand_collects i n s.deed (progress_at r s.before) s.point.progress s.collects goes in
          let number = number_of p updated (run_to s.before part.0) i small l s.leaf in
          let left : ((progress_at r s.before).place i).tasks ≡ number.0 + 1 = subst (λ w. IsNextNumber w (moments_at r s.before i).spawned ((progress_at r s.before).place i) number.0) hand.0 number.1 in
          let is : number.0 ≡ n = (let x = hand.1.left in omega (arith, left, x)) in
          leaf_to_end updated s.before (s.point ∷ s.after) s.points i n l (subst (λ q. HasLeaf (core_told updated (run_to s.before part.0)) i q l) is number.2)

      spawns_below : (l : CellKey) → SpawnsAt r i n l → i < r.cuts.trees
      spawns_below l s =
          let part = first_part (at_start r.cuts r.grid r.dir) r.moments s.before s.point s.after (subst (Runs (at_start r.cuts r.grid r.dir) r.moments) s.points r.run) in
          let goes : Goes r.cuts r.grid r.dir (Spawns i) (progress_at r s.before) s.point.progress = subst (λ h. Goes r.cuts r.grid r.dir h (progress_at r s.before) s.point.progress) s.happening part.1 in
          goes.0

      pub keeps_number : (l m : CellKey) → SpawnsAt r i n l → CollectsAt r i n m → m ≡ l
      keeps_number l m s t = one_leaf (core_told updated r) i n l m (spawned_leaf l s) (collected_leaf m (spawns_below l s) t)
