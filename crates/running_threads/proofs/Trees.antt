-- What the place of a tree tells of that tree of a core, and that it still does after each thing that a tree may do.
use Rattle.std.proofs.Common.{◌≡◌, ◌≢◌, ℕ, suc, ◌+◌, ◌<◌, ◌≤◌, Bool, true, false, List, [], ◌∷◌, ◌++◌, length, set, reverse, refl, sym, ap, subst, ◌∙◌, arith, append_assoc, Option, Some, None}
use Rattle.std.proofs.lemmas.Bool.{false≢true}
use Rattle.std.proofs.lemmas.List.{append-nil, length_push, length-append, length-reverse, length-set, reverse-reverse}
use Rattle.std.specs.Prelude.{slice_get}
use mathlib.Core.List.{reverse-cons}
use Rattle.peano_keys.specs.declared.cell.CellKey.{CellKey}
use Rattle.peano_keys.specs.Grid.{Spacetree}
use Rattle.peano_keys.specs.Field.{States}
use Rattle.peano_curve.specs.declared.order.Direction.{Direction}
use Rattle.curve_cuts.specs.Cuts.{Cuts}
use Rattle.curve_cuts.specs.Enclave.{IsEnclave}
use Rattle.sweep_visits.specs.Visits.{Visit, enter, leave}
use Rattle.result_table.specs.declared.word.Word.{Word}
use Rattle.result_table.specs.declared.word.Word.TheVariants.{Free, Collected}
use Rattle.solver_api.specs.Step.{UpdateRule}
use Rattle.task_core.specs.declared.stop.Leaf.{Leaf}
use Rattle.task_core.specs.declared.stop.Offered.{Offered}
use Rattle.task_core.specs.declared.stop.Stop.{Stop}
use Rattle.task_core.specs.declared.stop.Stop.TheVariants.{Pass, Compute, Offer}
use Rattle.task_core.specs.declared.event.Sweep.{Sweep}
use Rattle.task_core.specs.declared.event.Sweep.TheVariants.{First, Second, Over}
use Rattle.task_core.specs.Core.{Tree, stops, tasks_after, rewound}
use Rattle.task_core.specs.Visits.{IsStopOf, AreStops, BeginsTree}
use Rattle.task_core.proofs.Lists.{none_is, some_is, get_here, get_else, below, by_place}
use Rattle.task_core.proofs.Events.{tree_visited, tree_moved}
use Rattle.running_threads.specs.Places.{Place, IsAtAfter, MakesVisit, SpawnsTask, CollectsTask, HasEnded, CanGoOn, has_ended, makes_visit, spawns_task, collects_task, next_sweep, visits_in, begun_in}
use Rattle.running_threads.proofs.Leaves.{offers, offers_turned}
use Rattle.running_threads.proofs.Lists.{Left, left_all, left_next, left_on, left_end, keys, listed, keys_length, keys_push, keys_set, TaskOf, task_after}

-- the sweeps are told apart
abbrev is_first : Sweep → Bool
is_first First = true
is_first Second = false
is_first Over = false

pub second_later : Second ≡ First → ⊥
second_later e = false≢true (ap is_first e)

-- the tasks from a number on are collected
abbrev pub AreCollected : ℕ → List Offered → Type 0
AreCollected n os = (j : ℕ) (o : Offered) → n ≤ j → slice_get os j ≡ Some o → o.word ≡ Collected

collected_set : (n : ℕ) (os : List Offered) (j : ℕ) (o : Offered) (u : Word) → slice_get os j ≡ Some o → (o.word ≡ Collected → u ≡ Collected) → AreCollected n os → AreCollected n (set os j (record { leaf = o.leaf; word = u }))
collected_set n os j o u at keeps all q p above there =
    let new : Offered = record { leaf = o.leaf; word = u } in
    by_place j q
    (λ is.
    let one : new ≡ p = some_is new p (sym (get_here os j o new at) ∙ ap (slice_get (set os j new)) (sym is) ∙ there) in
    ap (λ (x : Offered). x.word) (sym one) ∙ keeps (all j o (omega (arith, above, is)) at))
    (λ other. all q p above (sym (get_else os j q new other) ∙ there))

-- a visit's stop offers the leaf that the tree is at after it
stop_offers : (k : Cuts) (g : Spacetree) (f : States) (t : ℕ) (v : Visit) (x : Stop) (l : Option CellKey) → IsStopOf k g f t v x → IsAtAfter k g t v l → offers (x ∷ []) ≡ listed l
stop_offers k g f t (enter c) Pass (Some l) stop at = absurd (stop at.0.0)
stop_offers k g f t (enter c) Pass None stop at = refl
stop_offers k g f t (enter c) (Compute m) (Some l) stop at = absurd (at.0.1 stop.0.1)
stop_offers k g f t (enter c) (Compute m) None stop at = refl
stop_offers k g f t (enter c) (Offer m) (Some l) stop at = ap (λ (q : CellKey). q ∷ []) (ap (λ (x : Leaf). x.key) stop.1 ∙ sym at.1)
stop_offers k g f t (enter c) (Offer m) None stop at = absurd (at stop.0)
stop_offers k g f t (leave c) x l stop at = ap (λ y. offers (y ∷ [])) stop ∙ ap listed (sym at)

offers_more : (x : Stop) (ss : List Stop) → offers (x ∷ ss) ≡ offers (x ∷ []) ++ offers ss
offers_more Pass ss = refl
offers_more (Compute l) ss = refl
offers_more (Offer l) ss = refl

keys_after : (ts : List Offered) (x : Stop) → keys (tasks_after First ts x) ≡ keys ts ++ offers (x ∷ [])
keys_after ts Pass = sym (append-nil (keys ts))
keys_after ts (Compute l) = sym (append-nil (keys ts))
keys_after ts (Offer l) = keys_push ts (record { leaf = l; word = Free })

turned_one : (c : CellKey) (cs ds : List CellKey) → reverse (c ∷ cs) ++ ds ≡ reverse cs ++ (c ∷ ds)
turned_one c cs ds = ap (λ xs. xs ++ ds) (reverse-cons c cs) ∙ append_assoc (reverse cs) (c ∷ []) ds

module _ (k : Cuts) (g : Spacetree) (f : States) (dir : Direction) (t : ℕ) where
  -- in the first sweep: the stops to come, and the tasks, of which the last one may not be spawned yet
  pub record TellsFirst (a : Place) (n : ℕ) (w : Tree) : Type 0 where
    pub rest : List Stop
    pub left : Left w.first w.made rest
    pub stops : AreStops k g f t a.to_come rest
    pub back : AreStops k g f t (visits_in k g dir Second t) w.second
    pub turned : offers w.second ≡ reverse (offers w.first)
    pub before : List CellKey
    pub tasks : keys w.tasks ≡ before ++ listed a.leaf
    pub all : before ++ (listed a.leaf ++ offers rest) ≡ offers w.first
    pub number : a.tasks ≡ length before
    pub spawned : n ≡ a.tasks

  -- in the second: the tasks that are left are those of the leaves to come, the last one first
  pub record TellsSecond (a : Place) (n : ℕ) (w : Tree) : Type 0 where
    pub rest : List Stop
    pub left : Left w.second w.made rest
    pub stops : AreStops k g f t a.to_come rest
    pub gone : List CellKey
    pub tasks : keys w.tasks ≡ reverse (listed a.leaf ++ offers rest) ++ gone
    pub number : a.tasks ≡ length (listed a.leaf ++ offers rest)
    pub spawned : n ≡ length w.tasks
    pub collected : AreCollected a.tasks w.tasks

  -- and after it
  pub record TellsOver (a : Place) (n : ℕ) (w : Tree) : Type 0 where
    pub visits : a.to_come ≡ []
    pub leaf : a.leaf ≡ None
    pub tasks : a.tasks ≡ 0
    pub spawned : n ≡ length w.tasks
    pub collected : AreCollected a.tasks w.tasks

  abbrev pub Tells : Sweep → Place → ℕ → Tree → Type 0
  Tells First a n w = TellsFirst a n w
  Tells Second a n w = TellsSecond a n w
  Tells Over a n w = TellsOver a n w

  pub tells_start : (w : Tree) (n : ℕ) → n ≡ 0 → BeginsTree k g f t dir w → Tells First (begun_in k g dir First t 0) n w
  tells_start w n none begins = record {
    rest = w.first;
    left = left_all w.first w.made begins.made;
    stops = begins.first;
    back = begins.second;
    turned = offers_turned k g f t dir w.first w.second begins.first begins.second;
    before = [];
    tasks = ap keys begins.tasks;
    all = refl;
    number = refl;
    spawned = none;
  }

  -- a tree's next visit, and what its place tells after it
  pub record Visited (updated : UpdateRule) (s : Sweep) (b : Place) (n : ℕ) (w : Tree) : Type 0 where
    pub stop : Stop
    pub next : slice_get (stops s w) w.made ≡ Some stop
    pub tells : Tells s b n (tree_visited updated s w stop)

  module _ (updated : UpdateRule) where
    first_visits : (v : Visit) (b : Place) (n : ℕ) (w : Tree) → IsAtAfter k g t v b.leaf → TellsFirst (record { to_come = v ∷ b.to_come; leaf = None; tasks = b.tasks }) n w → Visited updated First b n w
    first_visits v b n w at h = by_rest h.rest h.left h.stops h.all
      where
        by_rest : (rest : List Stop) → Left w.first w.made rest → AreStops k g f t (v ∷ b.to_come) rest → h.before ++ ([] ++ offers rest) ≡ offers w.first → Visited updated First b n w
        by_rest [] left are all = absurd are
        by_rest (x ∷ rest) left are all =
            let one : offers (x ∷ []) ≡ listed b.leaf = stop_offers k g f t v x b.leaf are.0 at in record {
              stop = x;
              next = left_next w.first w.made x rest left;
              tells = record {
                rest = rest;
                left = left_on w.first w.made x rest left;
                stops = are.1;
                back = h.back;
                turned = h.turned;
                before = h.before;
                tasks = keys_after w.tasks x ∙ ap (λ cs. cs ++ offers (x ∷ [])) (h.tasks ∙ append-nil h.before) ∙ ap (λ cs. h.before ++ cs) one;
                all = ap (λ cs. h.before ++ (cs ++ offers rest)) (sym one) ∙ ap (λ cs. h.before ++ cs) (sym (offers_more x rest)) ∙ all;
                number = h.number;
                spawned = h.spawned;
              };
            }

    second_visits : (v : Visit) (b : Place) (n : ℕ) (w : Tree) → IsAtAfter k g t v b.leaf → TellsSecond (record { to_come = v ∷ b.to_come; leaf = None; tasks = b.tasks }) n w → Visited updated Second b n w
    second_visits v b n w at h = by_rest h.rest h.left h.stops h.tasks h.number
      where
        by_rest : (rest : List Stop) → Left w.second w.made rest → AreStops k g f t (v ∷ b.to_come) rest → keys w.tasks ≡ reverse ([] ++ offers rest) ++ h.gone → b.tasks ≡ length ([] ++ offers rest) → Visited updated Second b n w
        by_rest [] left are tasks number = absurd are
        by_rest (x ∷ rest) left are tasks number =
            let one : offers (x ∷ rest) ≡ listed b.leaf ++ offers rest = offers_more x rest ∙ ap (λ cs. cs ++ offers rest) (stop_offers k g f t v x b.leaf are.0 at) in record {
              stop = x;
              next = left_next w.second w.made x rest left;
              tells = record {
                rest = rest;
                left = left_on w.second w.made x rest left;
                stops = are.1;
                gone = h.gone;
                tasks = tasks ∙ ap (λ cs. reverse cs ++ h.gone) one;
                number = number ∙ ap length one;
                spawned = h.spawned;
                collected = h.collected;
              };
            }

    pub visit_tells : (s : Sweep) (a b : Place) (n : ℕ) (w : Tree) → MakesVisit k g t a b → Tells s a n w → Visited updated s b n w
    visit_tells First a b n w m h = first_visits m.visit b n w m.leaf (subst (λ p. TellsFirst p n w) m.before h)
    visit_tells Second a b n w m h = second_visits m.visit b n w m.leaf (subst (λ p. TellsSecond p n w) m.before h)
    visit_tells Over a b n w m h = absurd (no_visit m.visit b.to_come (sym (ap (λ (p : Place). p.to_come) m.before) ∙ h.visits))
      where
        no_visit : (v : Visit) (vs : List Visit) → v ∷ vs ≡ [] → ⊥
        no_visit v vs e = none_is v (sym (ap (λ xs. slice_get xs 0) e))

    -- a task that moves keeps its leaf
    pub move_tells : (s : Sweep) (a : Place) (n : ℕ) (w : Tree) (j : ℕ) (o : Offered) (u : Word) → slice_get w.tasks j ≡ Some o → (o.word ≡ Collected → u ≡ Collected) → Tells s a n w → Tells s a n (tree_moved updated w j o u)
    move_tells First a n w j o u at keeps h = record {
      rest = h.rest;
      left = h.left;
      stops = h.stops;
      back = h.back;
      turned = h.turned;
      before = h.before;
      tasks = keys_set w.tasks j o u at ∙ h.tasks;
      all = h.all;
      number = h.number;
      spawned = h.spawned;
    }
    move_tells Second a n w j o u at keeps h = record {
      rest = h.rest;
      left = h.left;
      stops = h.stops;
      gone = h.gone;
      tasks = keys_set w.tasks j o u at ∙ h.tasks;
      number = h.number;
      spawned = h.spawned ∙ sym (length-set w.tasks j (record { leaf = o.leaf; word = u }));
      collected = collected_set a.tasks w.tasks j o u at keeps h.collected;
    }
    move_tells Over a n w j o u at keeps h = record {
      visits = h.visits;
      leaf = h.leaf;
      tasks = h.tasks;
      spawned = h.spawned ∙ sym (length-set w.tasks j (record { leaf = o.leaf; word = u }));
      collected = collected_set a.tasks w.tasks j o u at keeps h.collected;
    }

  -- the hand spawns the task of the leaf that the tree is at
  pub spawn_tells : (a b : Place) (n m : ℕ) (w : Tree) → SpawnsTask a b → m ≡ n + 1 → Tells First a n w → Tells First b m w
  spawn_tells a b n m w s more h =
      let lists : listed a.leaf ≡ s.leaf ∷ [] = ap listed s.at in
      subst (λ p. TellsFirst p m w) (sym s.after) (record {
        rest = h.rest;
        left = h.left;
        stops = h.stops;
        back = h.back;
        turned = h.turned;
        before = h.before ++ s.leaf ∷ [];
        tasks = h.tasks ∙ ap (λ cs. h.before ++ cs) lists ∙ sym (append-nil (h.before ++ s.leaf ∷ []));
        all = append_assoc h.before (s.leaf ∷ []) (offers h.rest) ∙ ap (λ cs. h.before ++ (cs ++ offers h.rest)) (sym lists) ∙ h.all;
        number = ap (λ q. q + 1) h.number ∙ sym (length_push h.before s.leaf);
        spawned = more ∙ ap (λ q. q + 1) h.spawned;
      })

  -- it is the next one by number
  pub spawn_number : (a : Place) (n : ℕ) (w : Tree) (l : CellKey) → a.leaf ≡ Some l → Tells First a n w → TaskOf w.tasks n l
  spawn_number a n w l at h = task_after w.tasks n h.before l [] (h.tasks ∙ ap (λ x. h.before ++ listed x) at) (h.spawned ∙ h.number)

  -- in the second sweep it is the greatest number that is left
  pub collect_number : (a : Place) (n : ℕ) (w : Tree) (l : CellKey) → a.leaf ≡ Some l → Tells Second a n w → (j : ℕ) × (a.tasks ≡ j + 1) × TaskOf w.tasks j l
  collect_number a n w l at h =
      let j : ℕ = length (offers h.rest) in
      let lists : listed a.leaf ≡ l ∷ [] = ap listed at in
      let number : a.tasks ≡ suc j = h.number ∙ ap (λ cs. length (cs ++ offers h.rest)) lists in (
        j,
        omega (arith, number),
        task_after w.tasks j (reverse (offers h.rest)) l h.gone
            (h.tasks ∙ ap (λ cs. reverse (cs ++ offers h.rest) ++ h.gone) lists ∙ turned_one l (offers h.rest) h.gone)
            (sym (length-reverse (offers h.rest))),
      )

  -- the hand collects the task of the leaf that the tree is at
  pub collect_tells : (j : ℕ) (a b : Place) (n : ℕ) (w : Tree) → CollectsTask j a b → ((o : Offered) → slice_get w.tasks j ≡ Some o → o.word ≡ Collected) → Tells Second a n w → Tells Second b n w
  collect_tells j a b n w c here h =
      let lists : listed a.leaf ≡ c.leaf ∷ [] = ap listed c.at in
      let number : a.tasks ≡ suc (length (offers h.rest)) = h.number ∙ ap (λ cs. length (cs ++ offers h.rest)) lists in
      let left = c.left in
      subst (λ p. TellsSecond p n w) (sym c.after) (record {
        rest = h.rest;
        left = h.left;
        stops = h.stops;
        gone = c.leaf ∷ h.gone;
        tasks = h.tasks ∙ ap (λ cs. reverse (cs ++ offers h.rest) ++ h.gone) lists ∙ turned_one c.leaf (offers h.rest) h.gone;
        number = omega (arith, number, left);
        spawned = h.spawned;
        collected = λ q o above at. by_place j q
            (λ is. here o (ap (slice_get w.tasks) (sym is) ∙ at))
            (λ other. h.collected q o (omega (arith, above, other, left)) at);
      })

  -- a number that is left is one of a task that was spawned
  pub left_below : (a : Place) (n j : ℕ) (w : Tree) → j < a.tasks → Tells Second a n w → j < n
  left_below a n j w small h =
      let total = ap length h.tasks ∙ length-append (reverse (listed a.leaf ++ offers h.rest)) h.gone in
      let turned = length-reverse (listed a.leaf ++ offers h.rest) in
      let whole = keys_length w.tasks in
      let number = h.number in
      let spawned = h.spawned in
      omega (arith, small, total, turned, whole, number, spawned)

  -- a tree that has ended its sweep has made all its visits
  no_rest : (a : Place) (rest : List Stop) → a.to_come ≡ [] → AreStops k g f t a.to_come rest → rest ≡ []
  no_rest a [] e are = refl
  no_rest a (x ∷ rest) e are = absurd (subst (λ vs. AreStops k g f t vs (x ∷ rest)) e are)

  pub ended_made : (s : Sweep) (a : Place) (n : ℕ) (w : Tree) → s ≢ Over → HasEnded a → Tells s a n w → w.made ≡ length (stops s w)
  ended_made First a n w more ended h = left_end w.first w.made (subst (Left w.first w.made) (no_rest a h.rest ended.visits h.stops) h.left)
  ended_made Second a n w more ended h = left_end w.second w.made (subst (Left w.second w.made) (no_rest a h.rest ended.visits h.stops) h.left)
  ended_made Over a n w more ended h = absurd (more refl)

  -- no task is left then in the second sweep
  pub none_left : (s : Sweep) (a : Place) (n : ℕ) (w : Tree) → s ≢ First → HasEnded a → Tells s a n w → a.tasks ≡ 0
  none_left First a n w not ended h = absurd (not refl)
  none_left Second a n w not ended h = h.number ∙ ap (λ l. length (listed l ++ offers h.rest)) ended.leaf ∙ ap (λ ss. length (offers ss)) (no_rest a h.rest ended.visits h.stops)
  none_left Over a n w not ended h = h.tasks

  -- the tasks that are not left are collected
  pub others_collected : (s : Sweep) (a : Place) (n : ℕ) (w : Tree) → s ≢ First → Tells s a n w → (n ≡ length w.tasks) × AreCollected a.tasks w.tasks
  others_collected First a n w not h = absurd (not refl)
  others_collected Second a n w not h = (h.spawned, h.collected)
  others_collected Over a n w not h = (h.spawned, h.collected)

  -- a tree that has not ended its sweep can go on
  visit_can : (s : Sweep) (v : Visit) (vs : List Visit) (x : Stop) (n : ℕ) → IsStopOf k g f t v x → CanGoOn k g t s (record { to_come = v ∷ vs; leaf = None; tasks = n })
  visit_can s (enter c) vs Pass n stop = makes_visit (record { to_come = vs; leaf = None; tasks = n }) (record { visit = enter c; before = refl; leaf = λ (e : IsEnclave k g t c). stop e.0 })
  visit_can s (enter c) vs (Compute l) n stop = makes_visit (record { to_come = vs; leaf = None; tasks = n }) (record { visit = enter c; before = refl; leaf = λ (e : IsEnclave k g t c). e.1 stop.0.1 })
  visit_can s (enter c) vs (Offer l) n stop = makes_visit (record { to_come = vs; leaf = Some c; tasks = n }) (record { visit = enter c; before = refl; leaf = (stop.0, refl) })
  visit_can s (leave c) vs x n stop = makes_visit (record { to_come = vs; leaf = None; tasks = n }) (record { visit = leave c; before = refl; leaf = refl })

  free_can : (s : Sweep) (vs : List Visit) (rest : List Stop) (n : ℕ) → AreStops k g f t vs rest → CanGoOn k g t s (record { to_come = vs; leaf = None; tasks = n })
  free_can s [] rest n are = has_ended (record { visits = refl; leaf = refl })
  free_can s (v ∷ vs) [] n are = absurd are
  free_can s (v ∷ vs) (x ∷ rest) n are = visit_can s v vs x n are.0

  pub can_go_on : (s : Sweep) (a : Place) (n : ℕ) (w : Tree) → Tells s a n w → CanGoOn k g t s a
  can_go_on s a n w h = by_leaf a.leaf refl s h
    where
      with_leaf : (s : Sweep) (l : Option CellKey) → a.leaf ≡ l → CanGoOn k g t s (record { to_come = a.to_come; leaf = l; tasks = a.tasks }) → CanGoOn k g t s a
      with_leaf s l e can = subst (λ x. CanGoOn k g t s (record { to_come = a.to_come; leaf = x; tasks = a.tasks })) (sym e) can

      by_leaf : (l : Option CellKey) → a.leaf ≡ l → (s : Sweep) → Tells s a n w → CanGoOn k g t s a
      by_leaf None e First h = with_leaf First None e (free_can First a.to_come h.rest a.tasks h.stops)
      by_leaf None e Second h = with_leaf Second None e (free_can Second a.to_come h.rest a.tasks h.stops)
      by_leaf None e Over h = has_ended (record { visits = h.visits; leaf = h.leaf })
      by_leaf (Some l) e First h = spawns_task (record { to_come = a.to_come; leaf = None; tasks = a.tasks + 1 }) refl (record { leaf = l; at = e; after = refl })
      by_leaf (Some l) e Second h =
          let number = collect_number a n w l e h in
          collects_task number.0 (record { to_come = a.to_come; leaf = None; tasks = number.0 }) refl (record { leaf = l; at = e; left = number.1; after = refl })
      by_leaf (Some l) e Over h = absurd (none_is l (sym h.leaf ∙ e))

  -- an exchange begins the next sweep
  pub turn_tells : (s : Sweep) (a : Place) (n : ℕ) (w : Tree) → s ≢ Over → HasEnded a → Tells s a n w → Tells (next_sweep s) (begun_in k g dir (next_sweep s) t a.tasks) n (rewound w)
  turn_tells First a n w more ended h =
      let lists : listed a.leaf ≡ [] = ap listed ended.leaf in
      let none : h.rest ≡ [] = no_rest a h.rest ended.visits h.stops in
      let all : h.before ≡ offers w.first = sym (append-nil h.before) ∙ ap (λ cs. h.before ++ cs) (sym (ap (λ ss. offers ss) none)) ∙ ap (λ cs. h.before ++ (cs ++ offers h.rest)) (sym lists) ∙ h.all in
      let tasks : keys w.tasks ≡ h.before = h.tasks ∙ ap (λ cs. h.before ++ cs) lists ∙ append-nil h.before in
      let back : reverse (offers w.second) ≡ offers w.first = ap reverse h.turned ∙ reverse-reverse (offers w.first) in
      let number : a.tasks ≡ length (offers w.second) = h.number ∙ ap length all ∙ sym (ap length h.turned ∙ length-reverse (offers w.first)) in
      let total : length w.tasks ≡ a.tasks = sym (keys_length w.tasks) ∙ ap length tasks ∙ sym h.number in
      record {
        rest = w.second;
        left = left_all w.second 0 refl;
        stops = h.back;
        gone = [];
        tasks = tasks ∙ all ∙ sym back ∙ sym (append-nil (reverse (offers w.second)));
        number = number;
        spawned = h.spawned ∙ sym total;
        collected = λ j o above at. absurd (let small = below w.tasks j o at in omega (arith, small, above, total));
      }
  turn_tells Second a n w more ended h = record {
    visits = refl;
    leaf = refl;
    tasks = none_left Second a n w second_later ended h;
    spawned = h.spawned;
    collected = h.collected;
  }
  turn_tells Over a n w more ended h = absurd (more refl)
