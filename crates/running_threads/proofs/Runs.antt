-- A run is a history of a core, and its progress tells of that core.
use Rattle.std.proofs.Common.{◌≡◌, ◌≢◌, ℕ, ◌<◌, List, [], ◌∷◌, length, refl, sym, subst, ◌∙◌, arith, Option, Some, None}
use Rattle.std.specs.Prelude.{slice_get}
use Rattle.peano_keys.specs.Grid.{Spacetree}
use Rattle.peano_keys.specs.Field.{States}
use Rattle.peano_curve.specs.declared.order.Direction.{Direction}
use Rattle.curve_cuts.specs.Cuts.{Cuts}
use Rattle.result_table.specs.declared.updates.Updates.{Ghosts}
use Rattle.solver_api.specs.Step.{UpdateRule}
use Rattle.task_core.specs.declared.event.Event.{Event}
use Rattle.task_core.specs.declared.event.Sweep.TheVariants.{Second, Over}
use Rattle.task_core.specs.Core.{Core, run}
use Rattle.task_core.proofs.Lists.{below, by_place}
use Rattle.task_pool.specs.declared.parts.Pool.{Pool}
use Rattle.task_pool.specs.declared.parts.Tree.{Tree}
use Rattle.pool_events.specs.Moments.{Moment}
use Rattle.pool_events.specs.Deeds.{Deed, Wins, Loses, Fetches, Publishes, ComesLate, Gathers, FindsIdle, FindsBusy, event_of}
use Rattle.pool_events.specs.Steps.{core_after, IsLegal, IsInTime}
use Rattle.pool_events.specs.Histories.{Happening, Visits, Exchanges, Spawns, Steals, Deeds, event_told, and_then, AreMoments, AllAgree, Happens, IsHistory, events_told, at_end}
use Rattle.pool_events.specs.Laws.{PoolsAreCores, NewPoolsAgree, DeedsAreEvents}
use Rattle.running_threads.specs.Places.{Progress, CollectsTask, Helps, HandCollects, GoesBy, at_start, Goes}
use Rattle.running_threads.specs.Runs.{Point, DoesOne, Changes, history_of, progress_after, IsRun, StepRun, core_told, progress_of, moments_of}
use Rattle.running_threads.specs.Laws.{succeeded, AreLegal}
use Rattle.running_threads.proofs.Lists.{there}
use Rattle.running_threads.proofs.Trees.{Tells, left_below}
use Rattle.running_threads.proofs.Cores.{TellsAll, start_tells, stays_tells, tree_at, visit_step, exchange_step, take_step, publish_step, collect_step, spawn_step}

-- all events, the first of which there may not be
pub run_then : (updated : UpdateRule) (c : Core) (o : Option Event) (es : List Event) → run updated c (and_then o es) ≡ run updated (core_after updated c o) es
run_then updated c None es = refl
run_then updated c (Some e) es = refl

module _ (k : Cuts) (g : Spacetree) (f : States) (dir : Direction) (updated : UpdateRule) where
  -- what a deed needs of the core, and what the progress tells of the core after it
  deed_step : (a b : Progress) (n m : ℕ → ℕ) (c : Core) (i : ℕ) (d : Deed) → i < k.trees → GoesBy i d a b → ((j : ℕ) → m j ≡ n j) → TellsAll k g f dir a n c
      → IsInTime c (n i) d × TellsAll k g f dir b m (core_after updated c (event_of i d))
  deed_step a b n m c i d small goes same h = by_deed d goes
    where
      in_time : a.sweep ≢ Over → c.sweep ≢ Over
      in_time more e = more (sym h.sweep ∙ e)

      helps : (d : Core) → Helps a b → TellsAll k g f dir a n d → (c.sweep ≢ Over) × TellsAll k g f dir b m d
      helps d goes next = (in_time goes.0, stays_tells k g f dir a b n m d goes.1 same next)

      spawned : (j : ℕ) → a.sweep ≡ Second → CollectsTask j (a.place i) (b.place i) → j < n i
      spawned j second collects =
          let w = tree_at k g f dir a n c i small h in
          let left = collects.left in
          left_below k g f dir i (a.place i) (n i) j w.0 (omega (arith, left)) (subst (λ s. Tells k g f dir i s (a.place i) (n i) w.0) second (h.trees i w.0 w.1))

      hand : (j : ℕ) → HandCollects i j a b → ((c.sweep ≡ Second) × (j < n i)) × TellsAll k g f dir b m (core_after updated c (event_of i (Gathers j)))
      hand j goes = ((h.sweep ∙ goes.0, spawned j goes.0 goes.1), collect_step k g f dir updated a b n m c i j small goes.0 goes.1 goes.2 same h)

      by_deed : (d : Deed) → GoesBy i d a b → IsInTime c (n i) d × TellsAll k g f dir b m (core_after updated c (event_of i d))
      by_deed (Wins s j) goes = helps _ goes (take_step k g f dir updated a n c s i j h)
      by_deed (Loses s j) goes = helps _ goes (take_step k g f dir updated a n c s i j h)
      by_deed (Fetches s j) goes = helps c goes h
      by_deed (Publishes s j) goes = helps _ goes (publish_step k g f dir updated a n c s i j h)
      by_deed (ComesLate s j) goes = helps _ goes (publish_step k g f dir updated a n c s i j h)
      by_deed (Gathers j) goes = hand j goes
      by_deed (FindsIdle j) goes = hand j goes
      by_deed (FindsBusy j) goes = hand j goes

  module _ {S : Type 0} {gh : Ghosts S} (p : Pool S gh) (trees : length p.trees.items ≡ k.trees) where
    -- how many tasks each hand has spawned
    abbrev counts : (ℕ → Moment S gh) → ℕ → ℕ
    counts ms i = (ms i).spawned

    abbrev T : Progress → (ℕ → Moment S gh) → Core → Type 0
    T a ms c = TellsAll k g f dir a (counts ms) c

    tree_small : (i : ℕ) (t : Tree S gh) → slice_get p.trees.items i ≡ Some t → i < k.trees
    tree_small i t at = subst (λ q. i < q) trees (below p.trees.items i t at)

    -- each happening of a run is one of the history
    pub happening_step : (a b : Progress) (ms ns : ℕ → Moment S gh) (c : Core) (x : Happening) → Goes k g dir x a b → Changes p x ms ns → T a ms c
        → Happens p c x ms ns × T b ns (core_after updated c (event_told x))
    happening_step a b ms ns c (Visits i) goes rests h = (rests, (visit_step k g f dir updated a b (counts ms) (counts ns) c i goes.0 goes.1 goes.2 (λ j. (rests j).1) h).1)
    happening_step a b ms ns c Exchanges goes rests h = (rests, (exchange_step k g f dir updated a b (counts ms) (counts ns) c goes (λ j. (rests j).1) h).1)
    happening_step a b ms ns c (Spawns i) goes changes h =
        let step = spawn_step k g f dir a b (counts ms) (counts ns) c i goes.0 goes.1 goes.2 goes.3 changes.0.more (λ j other. (changes.1 j other).1) h in
        ((record { offered = step.0; words = changes.0.words; more = changes.0.more }, changes.1), step.1)
    happening_step a b ms ns c (Steals i) goes rests h = (rests, stays_tells k g f dir a b (counts ms) (counts ns) c goes.1 (λ j. (rests j).1) h)
    happening_step a b ms ns c (Deeds i d) goes changes h =
        let does : DoesOne changes.0 d (ms i) (ns i) = changes.2 in
        let same = λ (j : ℕ). by_place {P = (ns j).spawned ≡ (ms j).spawned} i j (λ is. subst (λ q. (ns q).spawned ≡ (ms q).spawned) (sym is) does.spawned) (λ other. (changes.3 j other).1) in
        let step = deed_step a b (counts ms) (counts ns) c i d (tree_small i changes.0 changes.1) goes same h in
        ((changes.0, changes.1, record { task = does.task; in_time = step.0; does = does.does; spawned = does.spawned }, changes.3), step.1)

    pub run_is : (a : Progress) (ms : ℕ → Moment S gh) (c : Core) (xs : List (Point S gh)) → IsRun k g dir p a ms xs → T a ms c
        → IsHistory updated p c ms (history_of xs) × T (progress_after a xs) (at_end ms (history_of xs)) (run updated c (events_told (history_of xs)))
    run_is a ms c [] runs h = (tt, h)
    run_is a ms c (x ∷ xs) runs h =
        let step = happening_step a x.progress ms x.moments c x.happening runs.1 runs.2 h in
        let rest = run_is x.progress x.moments (core_after updated c (event_told x.happening)) xs runs.3 step.1 in (
          (runs.0, step.0, rest.0),
          subst (T (progress_after x.progress xs) (at_end x.moments (history_of xs))) (sym (run_then updated c (event_told x.happening) (events_told (history_of xs)))) rest.1,
        )

    module _ (cores : PoolsAreCores p) (deeds : DeedsAreEvents p) where
      -- all agree after one happening more
      agree_on : (c : Core) (x : Happening) (ms ns : ℕ → Moment S gh) → AreMoments p ms → AreMoments p ns → AllAgree p c ms → Happens p c x ms ns → AllAgree p (core_after updated c (event_told x)) ns
      agree_on c x ms ns before after agree happens = subst (λ d. AllAgree p d ns) (run_then updated c (event_told x) []) (cores updated c ms ((x, ns) ∷ []) before agree (after, happens, tt))

      legal_step : (a b : Progress) (ms ns : ℕ → Moment S gh) (c : Core) (x : Happening) → AreMoments p ms → AreMoments p ns → AllAgree p c ms → Goes k g dir x a b → Changes p x ms ns → Happens p c x ms ns → T a ms c
          → IsLegal updated c (event_told x) (succeeded x)
      legal_step a b ms ns c (Visits i) before after agree goes rests happens h = (visit_step k g f dir updated a b (counts ms) (counts ns) c i goes.0 goes.1 goes.2 (λ j. (rests j).1) h).0
      legal_step a b ms ns c Exchanges before after agree goes rests happens h = (exchange_step k g f dir updated a b (counts ms) (counts ns) c goes (λ j. (rests j).1) h).0
      legal_step a b ms ns c (Spawns i) before after agree goes changes happens h = tt
      legal_step a b ms ns c (Steals i) before after agree goes changes happens h = tt
      legal_step a b ms ns c (Deeds i d) before after agree goes changes happens h =
          (deeds updated c i happens.0 d (ms i) (ns i) happens.1 (before i happens.0 happens.1) (after i happens.0 happens.1) happens.2 (agree i happens.0 happens.1)).0

      pub run_legal : (a : Progress) (ms : ℕ → Moment S gh) (c : Core) (xs : List (Point S gh)) → AreMoments p ms → AllAgree p c ms → IsRun k g dir p a ms xs → T a ms c → AreLegal updated c xs
      run_legal a ms c [] before agree runs h = tt
      run_legal a ms c (x ∷ xs) before agree runs h =
          let step = happening_step a x.progress ms x.moments c x.happening runs.1 runs.2 h in (
            legal_step a x.progress ms x.moments c x.happening before runs.0 agree runs.1 runs.2 step.0 h,
            run_legal x.progress x.moments (core_after updated c (event_told x.happening)) xs runs.0 (agree_on c x.happening ms x.moments before runs.0 agree step.0) runs.3 step.1,
          )

module _ {S : Type 0} {gh : Ghosts S} (p : Pool S gh) (r : StepRun p) where
  -- how many tasks the hands have spawned at the end of a run
  abbrev pub spawned_at_end : ℕ → ℕ
  spawned_at_end i = (moments_of r i).spawned

  pub begun : TellsAll r.cuts r.grid r.field r.dir (at_start r.cuts r.grid r.dir) (λ i. (r.moments i).spawned) r.core
  begun = start_tells r.cuts r.grid r.field r.dir r.core (λ i. (r.moments i).spawned) r.begins.core (λ i small.
      let t = there p.trees.items i (subst (λ q. i < q) (sym r.begins.trees) small) in (r.begins.new i t.0 t.1).spawned)

  pub history : (updated : UpdateRule) → IsHistory updated p r.core r.moments (history_of r.points)
  history updated = (run_is r.cuts r.grid r.field r.dir updated p r.begins.trees (at_start r.cuts r.grid r.dir) r.moments r.core r.points r.run begun).0

  pub tells : (updated : UpdateRule) → TellsAll r.cuts r.grid r.field r.dir (progress_of r) spawned_at_end (core_told updated r)
  tells updated = (run_is r.cuts r.grid r.field r.dir updated p r.begins.trees (at_start r.cuts r.grid r.dir) r.moments r.core r.points r.run begun).1

  pub agree_first : NewPoolsAgree p → AllAgree p r.core r.moments
  agree_first new = new r.core r.moments r.begins.moments r.begins.new (λ i t at. (r.begins.core.trees i t at).tasks)

  pub legal : (updated : UpdateRule) → PoolsAreCores p → DeedsAreEvents p → NewPoolsAgree p → AreLegal updated r.core r.points
  legal updated cores deeds new = run_legal r.cuts r.grid r.field r.dir updated p r.begins.trees cores deeds (at_start r.cuts r.grid r.dir) r.moments r.core r.points r.begins.moments (agree_first new) r.run begun
