-- What an event makes of a core: nothing, a visit, a move of a task, or an exchange. A fact that holds after each of these holds after every event.
use Rattle.std.proofs.Common.{◌≡◌, ℕ, ◌+◌, ◌≤◌, Bool, true, false, List, [], ◌∷◌, map, set, refl, subst, Option, Some, None, ◌⊎◌, inl, inr}
use Rattle.std.specs.Prelude.{slice_get, if◌then◌else◌}
use Rattle.solver_api.specs.Step.{UpdateRule}
use Rattle.result_table.specs.declared.word.Word.{Word}
use Rattle.result_table.specs.Words.{taken, published, collected, after, place_of}
use Rattle.result_table.proofs.Words.{moves_forward}
use Rattle.task_core.specs.declared.stop.Leaf.{Leaf}
use Rattle.task_core.specs.declared.stop.Stop.{Stop}
use Rattle.task_core.specs.declared.event.Event.{Event}
use Rattle.task_core.specs.declared.event.Event.TheVariants.{Visit, Take, Publish, Collect, Exchange}
use Rattle.task_core.specs.declared.event.Sweep.{Sweep}
use Rattle.task_core.specs.declared.event.Sweep.TheVariants.{First, Second, Over}
use Rattle.task_core.specs.declared.stop.Offered.{Offered}
use Rattle.task_core.specs.Core.{Answers, Tree, Core, stops, all_made, tasks_after, rewound, put, answers_after, visited_at, visited, worded, Move, moved_at, moved, take_move, publish_move, collect_move, in_sweep, stepped, or_skipped, run}

-- a word that moved stands no further back
forward_by : (w u : Word) (o : Option Word) → o ≡ Some u → place_of w ≤ place_of (after w o) → place_of w ≤ place_of u
forward_by w u o is le = subst (λ x. place_of w ≤ place_of (after w x)) is le

module _ (updated : UpdateRule) where
  -- the answers stay, or the task's leaf gets the kernel's; the word moves forward
  pub record IsMove (m : Move updated) : Type 0 where
    pub answers : (a : Answers) (l : Leaf) → (m.answers a l ≡ a) ⊎ (m.answers a l ≡ put updated a l)
    pub word : (w u : Word) → m.word w ≡ Some u → place_of w ≤ place_of u

  take_is : (actor : ℕ) → IsMove (take_move updated actor)
  take_is actor = record { answers = λ a l. inl refl; word = λ w u e. forward_by w u (taken actor w) e ((moves_forward w).take actor) }

  publish_is : (actor : ℕ) → IsMove (publish_move updated actor)
  publish_is actor = record { answers = λ a l. inr refl; word = λ w u e. forward_by w u (published actor w) e ((moves_forward w).publish actor) }

  collect_is : IsMove (collect_move updated)
  collect_is = record { answers = λ a l. inl refl; word = λ w u e. forward_by w u (collected w) e (moves_forward w).collect }

  abbrev pub tree_visited : Sweep → Tree → Stop → Tree
  tree_visited s t x = record { first = t.first; second = t.second; made = t.made + 1; tasks = tasks_after s t.tasks x }

  abbrev pub core_visited : Core → ℕ → Tree → Stop → Core
  core_visited c i t x = record { sweep = c.sweep; trees = set c.trees i (tree_visited c.sweep t x); answers = answers_after updated c.sweep c.answers x }

  abbrev pub tree_moved : Tree → ℕ → Offered → Word → Tree
  tree_moved t k o w = record { first = t.first; second = t.second; made = t.made; tasks = set t.tasks k (record { leaf = o.leaf; word = w }) }

  abbrev pub core_moved : Core → ℕ → ℕ → Tree → Offered → Word → Answers → Core
  core_moved c i k t o w a = record { sweep = c.sweep; trees = set c.trees i (tree_moved t k o w); answers = a }

  abbrev pub core_rewound : Core → Sweep → Core
  core_rewound c s = record { sweep = s; trees = map rewound c.trees; answers = c.answers }

  module _ (P : Core → Type 0) (c : Core) (old : P c) where
    visits_at : (i : ℕ) (t : Tree) (o : Option Stop) → ((x : Stop) → o ≡ Some x → P (core_visited c i t x)) → P (or_skipped updated c (visited_at updated c i t o))
    visits_at i t None new = old
    visits_at i t (Some x) new = new x refl

    -- each by what is found in the core
    pub visits : (i : ℕ) (o : Option Tree) → ((t : Tree) (x : Stop) → o ≡ Some t → slice_get (stops c.sweep t) t.made ≡ Some x → P (core_visited c i t x)) → P (or_skipped updated c (visited updated c i o))
    visits i None new = old
    visits i (Some t) new = visits_at i t (slice_get (stops c.sweep t) t.made) (λ x next. new t x refl next)

    words : (i k : ℕ) (t : Tree) (o : Offered) (a : Answers) (p : Option Word) → ((w : Word) → p ≡ Some w → P (core_moved c i k t o w a)) → P (or_skipped updated c (worded updated c i k t o a p))
    words i k t o a None new = old
    words i k t o a (Some w) new = new w refl

    moves_at : (i k : ℕ) (t : Tree) (p : Option Offered) (m : Move updated) → ((o : Offered) (w : Word) → p ≡ Some o → m.word o.word ≡ Some w → P (core_moved c i k t o w (m.answers c.answers o.leaf))) → P (or_skipped updated c (moved_at updated c i k t p m))
    moves_at i k t None m new = old
    moves_at i k t (Some o) m new = words i k t o (m.answers c.answers o.leaf) (m.word o.word) (λ w e. new o w refl e)

    pub moves : (i k : ℕ) (p : Option Tree) (m : Move updated) → ((t : Tree) (o : Offered) (w : Word) → p ≡ Some t → slice_get t.tasks k ≡ Some o → m.word o.word ≡ Some w → P (core_moved c i k t o w (m.answers c.answers o.leaf))) → P (or_skipped updated c (moved updated c i k p m))
    moves i k None m new = old
    moves i k (Some t) m new = moves_at i k t (slice_get t.tasks k) m (λ o w there e. new t o w refl there e)

    pub exchanges : (s : Sweep) (b : Bool) → (b ≡ true → P (core_rewound c s)) → P (or_skipped updated c (if b then Some (core_rewound c s) else None))
    exchanges s true new = new refl
    exchanges s false new = old

    module _ (visit_keeps : (i : ℕ) (t : Tree) (x : Stop) → slice_get c.trees i ≡ Some t → slice_get (stops c.sweep t) t.made ≡ Some x → P (core_visited c i t x))
        (move_keeps : (i k : ℕ) (t : Tree) (o : Offered) (w : Word) (m : Move updated) → IsMove m → slice_get c.trees i ≡ Some t → slice_get t.tasks k ≡ Some o → m.word o.word ≡ Some w → P (core_moved c i k t o w (m.answers c.answers o.leaf)))
        (first_keeps : c.sweep ≡ First → all_made First c.trees ≡ true → P (core_rewound c Second))
        (second_keeps : c.sweep ≡ Second → all_made Second c.trees ≡ true → P (core_rewound c Over)) where
      by_sweep : (s : Sweep) (e : Event) → c.sweep ≡ s → P (or_skipped updated c (in_sweep updated s c e))
      by_sweep First (Visit i) is = visits i (slice_get c.trees i) (λ t x at next. visit_keeps i t x at next)
      by_sweep First (Take actor i k) is = moves i k (slice_get c.trees i) (take_move updated actor) (λ t o w at there e. move_keeps i k t o w (take_move updated actor) (take_is actor) at there e)
      by_sweep First (Publish actor i k) is = moves i k (slice_get c.trees i) (publish_move updated actor) (λ t o w at there e. move_keeps i k t o w (publish_move updated actor) (publish_is actor) at there e)
      by_sweep First (Collect i k) is = old
      by_sweep First Exchange is = exchanges Second (all_made First c.trees) (λ all. first_keeps is all)
      by_sweep Second (Visit i) is = visits i (slice_get c.trees i) (λ t x at next. visit_keeps i t x at next)
      by_sweep Second (Take actor i k) is = moves i k (slice_get c.trees i) (take_move updated actor) (λ t o w at there e. move_keeps i k t o w (take_move updated actor) (take_is actor) at there e)
      by_sweep Second (Publish actor i k) is = moves i k (slice_get c.trees i) (publish_move updated actor) (λ t o w at there e. move_keeps i k t o w (publish_move updated actor) (publish_is actor) at there e)
      by_sweep Second (Collect i k) is = moves i k (slice_get c.trees i) (collect_move updated) (λ t o w at there e. move_keeps i k t o w (collect_move updated) collect_is at there e)
      by_sweep Second Exchange is = exchanges Over (all_made Second c.trees) (λ all. second_keeps is all)
      by_sweep Over e is = old

      pub by_event : (e : Event) → P (or_skipped updated c (stepped updated c e))
      by_event e = by_sweep c.sweep e refl

  -- a fact that every event keeps holds after every list of events
  pub by_events : (P : Core → Type 0) → ((c : Core) (e : Event) → P c → P (or_skipped updated c (stepped updated c e))) → (c : Core) (es : List Event) → P c → P (run updated c es)
  by_events P step c [] h = h
  by_events P step c (e ∷ es) h = by_events P step (or_skipped updated c (stepped updated c e)) es (step c e h)
