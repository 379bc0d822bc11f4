-- Laws of pools, for whatever order of whatever threads: what they do is a list of events of the core of the step.
use Rattle.std.specs.Prelude.{◌≡◌, ℕ, ◌<◌, true, List, Some, slice_get}
use Rattle.result_table.specs.declared.updates.Updates.{Ghosts}
use Rattle.solver_api.specs.Step.{UpdateRule}
use Rattle.result_table.specs.declared.view.View.{View}
use Rattle.result_table.specs.Views.{has}
use Rattle.result_table.specs.Rule.{IsView}
use Rattle.task_core.specs.Core.{Core, run}
use Rattle.task_pool.specs.declared.parts.Tree.{Tree}
use Rattle.task_pool.specs.declared.parts.Pool.{Pool}
use Rattle.task_pool.specs.declared.parts.TreeHand.{TreeHand}
use Rattle.task_pool.specs.declared.parts.Helper.{Helper}
use Rattle.pool_events.specs.Moments.{Moment, IsMoment}
use Rattle.pool_events.specs.Manned.{IsManned, IsNew, HasNoTasks}
use Rattle.pool_events.specs.Deeds.{Deed, event_of, succeeds}
use Rattle.pool_events.specs.Steps.{core_after, IsLegal, Agrees}
use Rattle.pool_events.specs.Histories.{Happening, AreMoments, AllAgree, DoesAt, IsHistory, events_told, at_end}

module _ {S : Type 0} {g : Ghosts S} where
  -- each task that a seat of a tree's desk has claimed is one that the tree's hand spawned
  abbrev pub ClaimsWereSpawned : Pool S g → Type 0
  ClaimsWereSpawned p = (i : ℕ) (t : Tree S g) (m : Moment S g) (seat k : ℕ) (v : View S)
      → IsMoment t i m → IsView m.desk seat v → has v.claimed k ≡ true → k < m.spawned

  -- a won claim is Take, a publication is Publish, a collection is Collect, each of them legal; a claim that is lost and a publication that comes late are events that are not legal
  abbrev pub DeedsAreEvents : Pool S g → Type 0
  DeedsAreEvents p = (updated : UpdateRule) (c : Core) (i : ℕ) (t : Tree S g) (d : Deed)
      (m n : Moment S g)
      → slice_get p.trees.items i ≡ Some t → IsMoment t i m → IsMoment t i n → DoesAt t c d m n
      → Agrees c i m
      → IsLegal updated c (event_of i d) (succeeds d)
      × Agrees (core_after updated c (event_of i d)) i n

  -- so in each history of a pool the words of its desks are those of a core that ran the events of that history
  abbrev pub PoolsAreCores : Pool S g → Type 0
  PoolsAreCores p = (updated : UpdateRule) (c : Core) (ms : ℕ → Moment S g)
      (hs : List (Happening × (ℕ → Moment S g)))
      → AreMoments p ms → AllAgree p c ms → IsHistory updated p c ms hs
      → AllAgree p (run updated c (events_told hs)) (at_end ms hs)

  -- between the calls of its hands and helpers a pool is at such a moment
  abbrev pub PoolsHaveMoments : Pool S g → Type 0
  PoolsHaveMoments p = (i : ℕ) (t : Tree S g) (h : TreeHand S g) (helpers : List (Helper S g))
      (m : Moment S g)
      → slice_get p.trees.items i ≡ Some t → IsManned p t i h helpers m → IsMoment t i m

  -- a new pool agrees with a core that begins
  abbrev pub NewPoolsAgree : Pool S g → Type 0
  NewPoolsAgree p = (c : Core) (ms : ℕ → Moment S g) → AreMoments p ms
      → ((i : ℕ) (t : Tree S g) → slice_get p.trees.items i ≡ Some t → IsNew (ms i)) → HasNoTasks c
      → AllAgree p c ms
