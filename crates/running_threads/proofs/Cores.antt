-- What the progress of a step tells of a core, and that it still does after each thing that happens.
use Rattle.std.proofs.Common.{◌≡◌, ◌≢◌, ◌⊎◌, inl, inr, ℕ, zero, suc, ◌+◌, ◌<◌, ◌&&◌, Bool, true, false, List, [], ◌∷◌, length, map, set, refl, sym, ap, subst, ◌∙◌, arith, eq-eqb, Some, None, IsSome}
use Rattle.std.proofs.lemmas.List.{length-set, length-map}
use Rattle.std.specs.Prelude.{slice_get, is_some, if◌then◌else◌}
use Rattle.peano_keys.specs.Grid.{Spacetree}
use Rattle.peano_keys.specs.Field.{States}
use Rattle.peano_curve.specs.declared.order.Direction.{Direction}
use Rattle.curve_cuts.specs.Cuts.{Cuts}
use Rattle.result_table.specs.declared.word.Word.{Word}
use Rattle.result_table.specs.declared.word.Word.TheVariants.{Free, Taken, Published, Collected}
use Rattle.result_table.specs.Words.{taken, published, collected}
use Rattle.solver_api.specs.Step.{UpdateRule}
use Rattle.task_core.specs.declared.event.Event.TheVariants.{Visit, Take, Publish, Collect, Exchange}
use Rattle.task_core.specs.declared.event.Sweep.{Sweep}
use Rattle.task_core.specs.declared.event.Sweep.TheVariants.{First, Second, Over}
use Rattle.task_core.specs.declared.stop.Offered.{Offered}
use Rattle.task_core.specs.declared.stop.Stop.{Stop}
use Rattle.task_core.specs.Core.{Tree, Core, stops, all_made, rewound, visited, visited_at, moved, moved_at, worded, take_move, publish_move, collect_move, in_sweep, stepped, or_skipped}
use Rattle.task_core.specs.Work.{task_in}
use Rattle.task_core.specs.Replies.{word_in, word_at}
use Rattle.task_core.specs.Visits.{Begins}
use Rattle.task_core.proofs.Lists.{none_is, some_is, get_here, get_else, below, by_place}
use Rattle.task_core.proofs.Events.{tree_visited, tree_moved, core_visited, core_moved, core_rewound, moves}
use Rattle.running_threads.specs.Places.{Place, Progress, MakesVisit, SpawnsTask, CollectsTask, next_sweep, Stays, OthersStay, begun_in, at_start, TurnsAll}
use Rattle.running_threads.proofs.Lists.{there, TaskOf}
use Rattle.running_threads.proofs.Trees.{Tells, tells_start, Visited, visit_tells, move_tells, spawn_tells, spawn_number, collect_number, collect_tells, ended_made, turn_tells}

-- the tree of which another was made by a change of all trees
mapped_from : (f : Tree → Tree) (ts : List Tree) (i : ℕ) (u : Tree) → slice_get (map f ts) i ≡ Some u → (t : Tree) × (slice_get ts i ≡ Some t) × (f t ≡ u)
mapped_from f [] i u e = absurd (none_is u e)
mapped_from f (t ∷ ts) zero u e = (t, refl, some_is (f t) u e)
mapped_from f (t ∷ ts) (suc i) u e = mapped_from f ts i u e

both_true : (a b : Bool) → a ≡ true → b ≡ true → (a && b) ≡ true
both_true true b x y = y
both_true false b x y = x

all_are_made : (s : Sweep) (ts : List Tree) → ((i : ℕ) (w : Tree) → slice_get ts i ≡ Some w → w.made ≡ length (stops s w)) → all_made s ts ≡ true
all_are_made s [] all = refl
all_are_made s (w ∷ ts) all = both_true _ (all_made s ts) (eq-eqb w.made (length (stops s w)) (all 0 w refl)) (all_are_made s ts (λ i u at. all (suc i) u at))

-- what is taken or published was not collected
taken_keeps : (actor : ℕ) (w u : Word) → taken actor w ≡ Some u → w ≡ Collected → u ≡ Collected
taken_keeps actor w u e is = absurd (none_is u (sym (ap (taken actor) is) ∙ e))

published_keeps : (actor : ℕ) (w u : Word) → published actor w ≡ Some u → w ≡ Collected → u ≡ Collected
published_keeps actor w u e is = absurd (none_is u (sym (ap (published actor) is) ∙ e))

-- a word was collected before, or is collected now
collected_by : (w : Word) → (w ≡ Collected) ⊎ (collected w ≡ Some Collected)
collected_by Free = inr refl
collected_by (Taken s) = inr refl
collected_by Published = inr refl
collected_by Collected = inl refl

module _ (k : Cuts) (g : Spacetree) (f : States) (dir : Direction) where
  -- each tree of the core is as its place tells, where so many tasks were spawned
  pub record TellsAll (a : Progress) (n : ℕ → ℕ) (c : Core) : Type 0 where
    pub sweep : c.sweep ≡ a.sweep
    pub count : length c.trees ≡ k.trees
    pub trees : (i : ℕ) (w : Tree) → slice_get c.trees i ≡ Some w → Tells k g f dir i a.sweep (a.place i) (n i) w

  pub start_tells : (c : Core) (n : ℕ → ℕ) → Begins k g f dir c → ((i : ℕ) → i < k.trees → n i ≡ 0) → TellsAll (at_start k g dir) n c
  start_tells c n begins none = record {
    sweep = begins.sweep;
    count = begins.count;
    trees = λ i w at. tells_start k g f dir i w (n i) (none i (subst (λ q. i < q) begins.count (below c.trees i w at))) (begins.trees i w at);
  }

  same_tells : (i : ℕ) (s r : Sweep) (p q : Place) (n m : ℕ) (w : Tree) → r ≡ s → q ≡ p → m ≡ n → Tells k g f dir i s p n w → Tells k g f dir i r q m w
  same_tells i s r p q n m w e d l h = subst (λ x. Tells k g f dir i x q m w) (sym e) (subst (λ x. Tells k g f dir i s x m w) (sym d) (subst (λ x. Tells k g f dir i s p x w) (sym l) h))

  pub stays_tells : (a b : Progress) (n m : ℕ → ℕ) (c : Core) → Stays a b → ((j : ℕ) → m j ≡ n j) → TellsAll a n c → TellsAll b m c
  stays_tells a b n m c stays same h = record {
    sweep = h.sweep ∙ sym stays.sweep;
    count = h.count;
    trees = λ i w at. same_tells i a.sweep b.sweep (a.place i) (b.place i) (n i) (m i) w stays.sweep (stays.places i) (same i) (h.trees i w at);
  }

  -- the tree of a number below that of the trees
  pub tree_at : (a : Progress) (n : ℕ → ℕ) (c : Core) (i : ℕ) → i < k.trees → TellsAll a n c → (w : Tree) × (slice_get c.trees i ≡ Some w)
  tree_at a n c i small h = there c.trees i (subst (λ q. i < q) (sym h.count) small)

  -- one tree goes on, and is another one in the core
  one_tells : (a b : Progress) (n m : ℕ → ℕ) (c d : Core) (i : ℕ) → OthersStay i a b → ((j : ℕ) → j ≢ i → m j ≡ n j) → d.sweep ≡ c.sweep → length d.trees ≡ length c.trees → ((j : ℕ) → j ≢ i → slice_get d.trees j ≡ slice_get c.trees j)
      → ((w : Tree) → slice_get d.trees i ≡ Some w → Tells k g f dir i a.sweep (b.place i) (m i) w) → TellsAll a n c → TellsAll b m d
  one_tells a b n m c d i stay same sweep count others here h = record {
    sweep = sweep ∙ h.sweep ∙ sym stay.sweep;
    count = count ∙ h.count;
    trees = λ j w at. by_place i j
        (λ is. subst (λ q. Tells k g f dir q b.sweep (b.place q) (m q) w) (sym is) (same_tells i a.sweep b.sweep (b.place i) (b.place i) (m i) (m i) w stay.sweep refl refl (here w (ap (slice_get d.trees) (sym is) ∙ at))))
        (λ other. same_tells j a.sweep b.sweep (a.place j) (b.place j) (n j) (m j) w stay.sweep (stay.places j other) (same j other) (h.trees j w (sym (others j other) ∙ at)));
  }

  -- so where it was written in its place
  set_tells : (a b : Progress) (n m : ℕ → ℕ) (c d : Core) (i : ℕ) (w u : Tree) → OthersStay i a b → ((j : ℕ) → j ≢ i → m j ≡ n j) → d.sweep ≡ c.sweep → d.trees ≡ set c.trees i u → slice_get c.trees i ≡ Some w
      → Tells k g f dir i a.sweep (b.place i) (m i) u → TellsAll a n c → TellsAll b m d
  set_tells a b n m c d i w u stay same sweep trees at tells h = one_tells a b n m c d i stay same sweep
      (ap length trees ∙ length-set c.trees i u)
      (λ j other. ap (λ ts. slice_get ts j) trees ∙ get_else c.trees i j u other)
      (λ x there. subst (Tells k g f dir i a.sweep (b.place i) (m i)) (some_is u x (sym (get_here c.trees i w u at) ∙ sym (ap (λ ts. slice_get ts i) trees) ∙ there)) tells)
      h

  module _ (updated : UpdateRule) where
    -- a tree makes its next visit
    visit_is : (c : Core) (i : ℕ) (w : Tree) (x : Stop) (s : Sweep) → c.sweep ≡ s → slice_get c.trees i ≡ Some w → slice_get (stops c.sweep w) w.made ≡ Some x → in_sweep updated s c (Visit i) ≡ Some (core_visited updated c i w x)
    visit_is c i w x First e at next = ap (visited updated c i) at ∙ ap (visited_at updated c i w) next
    visit_is c i w x Second e at next = ap (visited updated c i) at ∙ ap (visited_at updated c i w) next
    visit_is c i w x Over e at next = absurd (none_is x (sym (ap (λ s. slice_get (stops s w) w.made) e) ∙ next))

    pub visit_step : (a b : Progress) (n m : ℕ → ℕ) (c : Core) (i : ℕ) → i < k.trees → MakesVisit k g i (a.place i) (b.place i) → OthersStay i a b → ((j : ℕ) → m j ≡ n j) → TellsAll a n c
        → (true ≡ is_some (stepped updated c (Visit i))) × TellsAll b m (or_skipped updated c (stepped updated c (Visit i)))
    visit_step a b n m c i small makes stay same h =
        let w = tree_at a n c i small h in
        let v : Visited k g f dir i updated a.sweep (b.place i) (n i) w.0 = visit_tells k g f dir i updated a.sweep (a.place i) (b.place i) (n i) w.0 makes (h.trees i w.0 w.1) in
        let next : slice_get (stops c.sweep w.0) w.0.made ≡ Some v.stop = ap (λ s. slice_get (stops s w.0) w.0.made) h.sweep ∙ v.next in
        let is : stepped updated c (Visit i) ≡ Some (core_visited updated c i w.0 v.stop) = visit_is c i w.0 v.stop c.sweep refl w.1 next in
        let tells : Tells k g f dir i a.sweep (b.place i) (m i) (tree_visited updated c.sweep w.0 v.stop) =
        subst (λ s. Tells k g f dir i a.sweep (b.place i) (m i) (tree_visited updated s w.0 v.stop)) (sym h.sweep)
        (subst (λ q. Tells k g f dir i a.sweep (b.place i) q (tree_visited updated a.sweep w.0 v.stop)) (sym (same i)) v.tells) in (
          sym (ap is_some is),
          subst (λ o. TellsAll b m (or_skipped updated c o)) (sym is)
              (set_tells a b n m c (core_visited updated c i w.0 v.stop) i w.0 (tree_visited updated c.sweep w.0 v.stop) stay (λ j other. same j) refl refl w.1 tells h),
        )

    -- an exchange is made
    exchange_is : (c : Core) (s : Sweep) → s ≢ Over → all_made s c.trees ≡ true → in_sweep updated s c Exchange ≡ Some (core_rewound updated c (next_sweep s))
    exchange_is c First more made = ap (λ b. if b then Some (core_rewound updated c Second) else None) made
    exchange_is c Second more made = ap (λ b. if b then Some (core_rewound updated c Over) else None) made
    exchange_is c Over more made = absurd (more refl)

    pub exchange_step : (a b : Progress) (n m : ℕ → ℕ) (c : Core) → TurnsAll k g dir a b → ((j : ℕ) → m j ≡ n j) → TellsAll a n c
        → (true ≡ is_some (stepped updated c Exchange)) × TellsAll b m (or_skipped updated c (stepped updated c Exchange))
    exchange_step a b n m c turns same h =
        let small = λ (i : ℕ) (w : Tree) (at : slice_get c.trees i ≡ Some w). subst (λ q. i < q) h.count (below c.trees i w at) in
        let made : all_made a.sweep c.trees ≡ true = all_are_made a.sweep c.trees (λ i w at. ended_made k g f dir i a.sweep (a.place i) (n i) w turns.more (turns.ended i (small i w at)) (h.trees i w at)) in
        let is : stepped updated c Exchange ≡ Some (core_rewound updated c (next_sweep a.sweep)) =
        ap (λ s. in_sweep updated s c Exchange) h.sweep ∙ exchange_is c a.sweep turns.more made in (
          sym (ap is_some is),
          subst (λ o. TellsAll b m (or_skipped updated c o)) (sym is) (record {
            sweep = sym turns.sweep;
            count = length-map c.trees rewound ∙ h.count;
            trees = λ i u at.
                let w = mapped_from rewound c.trees i u at in
                same_tells i (next_sweep a.sweep) b.sweep (begun_in k g dir (next_sweep a.sweep) i (a.place i).tasks) (b.place i) (n i) (m i) u turns.sweep (turns.places i) (same i)
                (subst (Tells k g f dir i (next_sweep a.sweep) (begun_in k g dir (next_sweep a.sweep) i (a.place i).tasks) (n i)) w.2
                (turn_tells k g f dir i a.sweep (a.place i) (n i) w.0 turns.more (turns.ended i (small i w.0 w.1)) (h.trees i w.0 w.1)));
          }),
        )

    -- a task of a tree moves, and the trees are where they were
    move_step : (a : Progress) (n : ℕ → ℕ) (c : Core) (i j : ℕ) (w : Tree) (o : Offered) (u : Word) (d : Core) → slice_get c.trees i ≡ Some w → slice_get w.tasks j ≡ Some o → (o.word ≡ Collected → u ≡ Collected) → d.sweep ≡ c.sweep → d.trees ≡ set c.trees i (tree_moved updated w j o u) → TellsAll a n c → TellsAll a n d
    move_step a n c i j w o u d at here keeps sweep trees h = set_tells a a n n c d i w (tree_moved updated w j o u) (record { sweep = refl; places = λ q other. refl }) (λ q other. refl) sweep trees at
        (move_tells k g f dir i updated a.sweep (a.place i) (n i) w j o u here keeps (h.trees i w at))
        h

    pub take_step : (a : Progress) (n : ℕ → ℕ) (c : Core) (actor i j : ℕ) → TellsAll a n c → TellsAll a n (or_skipped updated c (stepped updated c (Take actor i j)))
    take_step a n c actor i j h = by_sweep c.sweep
      where
        by_sweep : (s : Sweep) → TellsAll a n (or_skipped updated c (in_sweep updated s c (Take actor i j)))
        by_sweep First = moves updated (TellsAll a n) c h i j (slice_get c.trees i) (take_move updated actor) (λ w o u at here e. move_step a n c i j w o u _ at here (taken_keeps actor o.word u e) refl refl h)
        by_sweep Second = moves updated (TellsAll a n) c h i j (slice_get c.trees i) (take_move updated actor) (λ w o u at here e. move_step a n c i j w o u _ at here (taken_keeps actor o.word u e) refl refl h)
        by_sweep Over = h

    pub publish_step : (a : Progress) (n : ℕ → ℕ) (c : Core) (actor i j : ℕ) → TellsAll a n c → TellsAll a n (or_skipped updated c (stepped updated c (Publish actor i j)))
    publish_step a n c actor i j h = by_sweep c.sweep
      where
        by_sweep : (s : Sweep) → TellsAll a n (or_skipped updated c (in_sweep updated s c (Publish actor i j)))
        by_sweep First = moves updated (TellsAll a n) c h i j (slice_get c.trees i) (publish_move updated actor) (λ w o u at here e. move_step a n c i j w o u _ at here (published_keeps actor o.word u e) refl refl h)
        by_sweep Second = moves updated (TellsAll a n) c h i j (slice_get c.trees i) (publish_move updated actor) (λ w o u at here e. move_step a n c i j w o u _ at here (published_keeps actor o.word u e) refl refl h)
        by_sweep Over = h

    -- a hand collects
    collect_is : (c : Core) (i j : ℕ) (w : Tree) (o : Offered) → c.sweep ≡ Second → slice_get c.trees i ≡ Some w → slice_get w.tasks j ≡ Some o → stepped updated c (Collect i j) ≡ worded updated c i j w o c.answers (collected o.word)
    collect_is c i j w o second at here =
        ap (λ s. in_sweep updated s c (Collect i j)) second
        ∙ ap (λ q. moved updated c i j q (collect_move updated)) at
        ∙ ap (λ q. moved_at updated c i j w q (collect_move updated)) here

    collect_old : (c : Core) (i j : ℕ) (w : Tree) (o : Offered) → c.sweep ≡ Second → slice_get c.trees i ≡ Some w → slice_get w.tasks j ≡ Some o → o.word ≡ Collected → stepped updated c (Collect i j) ≡ None
    collect_old c i j w o second at here old = collect_is c i j w o second at here ∙ ap (λ u. worded updated c i j w o c.answers (collected u)) old

    collect_new : (c : Core) (i j : ℕ) (w : Tree) (o : Offered) → c.sweep ≡ Second → slice_get c.trees i ≡ Some w → slice_get w.tasks j ≡ Some o → collected o.word ≡ Some Collected → stepped updated c (Collect i j) ≡ Some (core_moved updated c i j w o Collected c.answers)
    collect_new c i j w o second at here new = collect_is c i j w o second at here ∙ ap (worded updated c i j w o c.answers) new

    collect_at : (a b : Progress) (n m : ℕ → ℕ) (c : Core) (i j : ℕ) (w : Tree) (o : Offered) → slice_get c.trees i ≡ Some w → slice_get w.tasks j ≡ Some o → a.sweep ≡ Second → CollectsTask j (a.place i) (b.place i) → OthersStay i a b → ((q : ℕ) → m q ≡ n q) → TellsAll a n c
        → (o.word ≡ Collected) ⊎ (collected o.word ≡ Some Collected) → TellsAll b m (or_skipped updated c (stepped updated c (Collect i j)))
    collect_at a b n m c i j w o at here second collects stay same h found = by_word found
      where
        tells : Tells k g f dir i Second (a.place i) (n i) w
        tells = subst (λ s. Tells k g f dir i s (a.place i) (n i) w) second (h.trees i w at)

        -- what is told of the tree with the task collected
        after : (u : Tree) → Tells k g f dir i Second (a.place i) (n i) u → ((p : Offered) → slice_get u.tasks j ≡ Some p → p.word ≡ Collected) → Tells k g f dir i a.sweep (b.place i) (m i) u
        after u old gone = same_tells i Second a.sweep (b.place i) (b.place i) (n i) (m i) u second refl (same i) (collect_tells k g f dir i j (a.place i) (b.place i) (n i) u collects gone old)

        by_word : (o.word ≡ Collected) ⊎ (collected o.word ≡ Some Collected) → TellsAll b m (or_skipped updated c (stepped updated c (Collect i j)))
        by_word (inl old) = subst (λ q. TellsAll b m (or_skipped updated c q)) (sym (collect_old c i j w o (h.sweep ∙ second) at here old))
            (one_tells a b n m c c i stay (λ q other. same q) refl refl (λ q other. refl)
            (λ u there. subst (Tells k g f dir i a.sweep (b.place i) (m i)) (some_is w u (sym at ∙ there))
            (after w tells (λ p it. ap (λ (y : Offered). y.word) (some_is p o (sym it ∙ here)) ∙ old)))
            h)
        by_word (inr moves) = subst (λ q. TellsAll b m (or_skipped updated c q)) (sym (collect_new c i j w o (h.sweep ∙ second) at here moves))
            (set_tells a b n m c (core_moved updated c i j w o Collected c.answers) i w (tree_moved updated w j o Collected) stay (λ q other. same q) refl refl at
            (after (tree_moved updated w j o Collected)
            (move_tells k g f dir i updated Second (a.place i) (n i) w j o Collected here (λ e. refl) tells)
            (λ p it. ap (λ (y : Offered). y.word) (some_is p (record { leaf = o.leaf; word = Collected }) (sym it ∙ get_here w.tasks j o (record { leaf = o.leaf; word = Collected }) here))))
            h)

    pub collect_step : (a b : Progress) (n m : ℕ → ℕ) (c : Core) (i j : ℕ) → i < k.trees → a.sweep ≡ Second → CollectsTask j (a.place i) (b.place i) → OthersStay i a b → ((q : ℕ) → m q ≡ n q) → TellsAll a n c
        → TellsAll b m (or_skipped updated c (stepped updated c (Collect i j)))
    collect_step a b n m c i j small second collects stay same h =
        let w = tree_at a n c i small h in
        let number = collect_number k g f dir i (a.place i) (n i) w.0 collects.leaf collects.at (subst (λ s. Tells k g f dir i s (a.place i) (n i) w.0) second (h.trees i w.0 w.1)) in
        let one : number.0 ≡ j = (let x = number.1 in let y = collects.left in omega (arith, x, y)) in
        let task : TaskOf w.0.tasks j collects.leaf = subst (λ q. TaskOf w.0.tasks q collects.leaf) one number.2 in
        collect_at a b n m c i j w.0 task.task w.1 task.there second collects stay same h (collected_by task.task.word)

  -- a hand spawns
  pub spawn_step : (a b : Progress) (n m : ℕ → ℕ) (c : Core) (i : ℕ) → i < k.trees → a.sweep ≡ First → SpawnsTask (a.place i) (b.place i) → OthersStay i a b → m i ≡ n i + 1 → ((j : ℕ) → j ≢ i → m j ≡ n j) → TellsAll a n c
      → IsSome (word_at c i (n i)) × TellsAll b m c
  spawn_step a b n m c i small first spawns stay more same h =
      let w = tree_at a n c i small h in
      let tells : Tells k g f dir i First (a.place i) (n i) w.0 = subst (λ s. Tells k g f dir i s (a.place i) (n i) w.0) first (h.trees i w.0 w.1) in
      let task : TaskOf w.0.tasks (n i) spawns.leaf = spawn_number k g f dir i (a.place i) (n i) w.0 spawns.leaf spawns.at tells in (
        subst IsSome (sym (ap (λ q. word_in (task_in q (n i))) w.1 ∙ ap word_in task.there)) refl,
        one_tells a b n m c c i stay same refl refl (λ j other. refl)
            (λ x at.
            subst (λ s. Tells k g f dir i s (b.place i) (m i) x) (sym first)
            (subst (Tells k g f dir i First (b.place i) (m i)) (some_is w.0 x (sym w.1 ∙ at))
            (spawn_tells k g f dir i (a.place i) (b.place i) (n i) (m i) w.0 spawns more tells)))
            h,
      )
