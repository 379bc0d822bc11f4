-- A history is a list of events of the core.
use Rattle.std.proofs.Common.{◌≡◌, ◌≢◌, ℕ, List, [], ◌∷◌, refl, sym, ap, subst, arith, Option, Some, None, IsSome}
use Rattle.std.specs.Prelude.{slice_get}
use mathlib.Core.Logic.{dite}
use native.Mathlib.Decide.{dec_lt}
use Rattle.result_table.specs.declared.updates.Updates.{Ghosts}
use Rattle.solver_api.specs.Step.{UpdateRule}
use Rattle.task_core.specs.declared.event.Event.{Event}
use Rattle.task_core.specs.declared.event.Event.TheVariants.{Visit, Exchange}
use Rattle.task_core.specs.Core.{Core, stepped, or_skipped, run}
use Rattle.task_core.specs.Work.{task_in}
use Rattle.task_core.specs.Replies.{word_in, word_at}
use Rattle.task_core.specs.Desks.{or_free, SharesWords}
use Rattle.task_core.proofs.Lists.{by_place}
use Rattle.task_pool.specs.declared.parts.Pool.{Pool}
use Rattle.pool_events.specs.Moments.{Moment}
use Rattle.pool_events.specs.Deeds.{Deed, Wins, Loses, Fetches, Publishes, ComesLate, Gathers, FindsIdle, FindsBusy, event_of}
use Rattle.pool_events.specs.Steps.{core_after, Agrees}
use Rattle.pool_events.specs.Histories.{Happening, Visits, Exchanges, Spawns, Steals, Deeds, event_told, and_then, AreMoments, AllAgree, Rests, SpawnsNext, Happens, IsHistory, events_told, at_end}
use Rattle.pool_events.proofs.Shares.{shares_on}
use Rattle.pool_events.proofs.Cores.{stays_added, take_leaves, publish_leaves, collect_leaves, visit_leaves, exchange_leaves}
use Rattle.pool_events.proofs.Steps.{deed_at}

-- a deed at one tree leaves the others of the core
deed_leaves : (updated : UpdateRule) (c : Core) (i j : ℕ) → j ≢ i → (d : Deed) → slice_get (core_after updated c (event_of i d)).trees j ≡ slice_get c.trees j
deed_leaves updated c i j other (Wins s k) = take_leaves updated c i j other s k
deed_leaves updated c i j other (Loses s k) = take_leaves updated c i j other s k
deed_leaves updated c i j other (Fetches s k) = refl
deed_leaves updated c i j other (Publishes s k) = publish_leaves updated c i j other s k
deed_leaves updated c i j other (ComesLate s k) = publish_leaves updated c i j other s k
deed_leaves updated c i j other (Gathers k) = collect_leaves updated c i j other k
deed_leaves updated c i j other (FindsIdle k) = collect_leaves updated c i j other k
deed_leaves updated c i j other (FindsBusy k) = collect_leaves updated c i j other k

module _ {S : Type 0} {g : Ghosts S} where
  -- a tree that rests agrees with a core that has the same words
  rests_on : (c d : Core) (j : ℕ) (m n : Moment S g) → ((k : ℕ) → or_free (word_at d j k) ≡ or_free (word_at c j k)) → ((k : ℕ) → IsSome (word_at c j k) → IsSome (word_at d j k)) → Rests m n → Agrees c j m → Agrees d j n
  rests_on c d j m n same more rests agrees = record {
    words = shares_on c d j n.desk.words same (subst (SharesWords c j) (sym rests.0) agrees.words);
    added = λ k small. let still = rests.1 in more k (agrees.added k (omega (arith, small, still)));
  }

  spawns_on : (c : Core) (i : ℕ) (m n : Moment S g) → SpawnsNext c i m n → Agrees c i m → Agrees c i n
  spawns_on c i m n next agrees = record {
    words = subst (SharesWords c i) (sym next.words) agrees.words;
    added = λ k small. dite (dec_lt k m.spawned)
        (λ old. agrees.added k old)
        (λ not. let more = next.more in let is : m.spawned ≡ k = omega (arith, small, not, more) in subst (λ q. IsSome (word_at c i q)) is next.offered);
  }

  module _ (updated : UpdateRule) (p : Pool S g) where
    happens_on : (c : Core) (h : Happening) (ms ns : ℕ → Moment S g) → AreMoments p ms → AreMoments p ns → AllAgree p c ms → Happens p c h ms ns → AllAgree p (core_after updated c (event_told h)) ns
    happens_on c (Visits i) ms ns before after agree rests j t at =
        rests_on c (or_skipped updated c (stepped updated c (Visit i))) j (ms j) (ns j) (λ k. visit_leaves updated c j k i) (λ k. stays_added updated c (Visit i) j k) (rests j) (agree j t at)
    happens_on c Exchanges ms ns before after agree rests j t at =
        rests_on c (or_skipped updated c (stepped updated c Exchange)) j (ms j) (ns j) (λ k. exchange_leaves updated c j k) (λ k. stays_added updated c Exchange j k) (rests j) (agree j t at)
    happens_on c (Steals i) ms ns before after agree rests j t at = rests_on c c j (ms j) (ns j) (λ k. refl) (λ k h. h) (rests j) (agree j t at)
    happens_on c (Spawns i) ms ns before after agree h j t at = by_place i j
        (λ is. subst (λ q. Agrees c q (ns q)) (sym is) (spawns_on c i (ms i) (ns i) h.0 (subst (λ q. Agrees c q (ms q)) is (agree j t at))))
        (λ other. rests_on c c j (ms j) (ns j) (λ k. refl) (λ k a. a) (h.1 j other) (agree j t at))
    happens_on c (Deeds i d) ms ns before after agree h j t at = by_place i j
        (λ is. subst (λ q. Agrees (core_after updated c (event_of i d)) q (ns q)) (sym is) (deed_at updated c i h.0 d (ms i) (ns i) (before i h.0 h.1) (after i h.0 h.1) h.2 (agree i h.0 h.1)).1)
        (λ other.
        let kept = deed_leaves updated c i j other d in
        rests_on c (core_after updated c (event_of i d)) j (ms j) (ns j)
        (λ k. ap (λ q. or_free (word_in (task_in q k))) kept)
        (λ k a. subst IsSome (sym (ap (λ q. word_in (task_in q k)) kept)) a)
        (h.3 j other)
        (agree j t at))

    run_then : (c : Core) (o : Option Event) (es : List Event) → run updated c (and_then o es) ≡ run updated (core_after updated c o) es
    run_then c None es = refl
    run_then c (Some e) es = refl

    pub history_is : (c : Core) (ms : ℕ → Moment S g) (hs : List (Happening × (ℕ → Moment S g))) → AreMoments p ms → AllAgree p c ms → IsHistory updated p c ms hs → AllAgree p (run updated c (events_told hs)) (at_end ms hs)
    history_is c ms [] before agree history = agree
    history_is c ms (h ∷ hs) before agree history =
        subst (λ d. AllAgree p d (at_end h.1 hs)) (sym (run_then c (event_told h.0) (events_told hs)))
        (history_is (core_after updated c (event_told h.0)) h.1 hs history.0 (happens_on c h.0 ms h.1 before history.0 agree history.1) history.2)
