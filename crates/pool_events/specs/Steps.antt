-- A desk's deed beside a core of the step: which core agrees with a tree of the pool, and when the deed is an event of it.
use Rattle.std.specs.Prelude.{◌≡◌, ◌≢◌, ℕ, ◌<◌, Bool, Option, Some, None, IsSome, is_some}
use Rattle.result_table.specs.declared.updates.Updates.{Ghosts}
use Rattle.solver_api.specs.Step.{UpdateRule}
use Rattle.task_core.specs.declared.event.Event.{Event}
use Rattle.task_core.specs.declared.event.Sweep.TheVariants.{Second, Over}
use Rattle.task_core.specs.Core.{Core, stepped, or_skipped}
use Rattle.task_core.specs.Replies.{word_at}
use Rattle.task_core.specs.Desks.{SharesWords}
use Rattle.pool_events.specs.Moments.{Moment}
use Rattle.pool_events.specs.Deeds.{Deed, Wins, Loses, Fetches, Publishes, ComesLate, Gathers, FindsIdle, FindsBusy}

-- the core after an event, if there is one
abbrev pub core_after : UpdateRule → Core → Option Event → Core
core_after updated c None = c
core_after updated c (Some e) = or_skipped updated c (stepped updated c e)

-- a step that succeeded or not is this event: it succeeded exactly where the event is legal
abbrev pub IsLegal : UpdateRule → Core → Option Event → Bool → Type 0
IsLegal updated c None won = Unit {0}
IsLegal updated c (Some e) won = won ≡ is_some (stepped updated c e)

-- when the engine lets a deed be done: tasks are taken and published until the step is over, and the hand collects in the second sweep what it spawned
abbrev pub IsInTime : Core → ℕ → Deed → Type 0
IsInTime c spawned (Wins s k) = c.sweep ≢ Over
IsInTime c spawned (Loses s k) = c.sweep ≢ Over
IsInTime c spawned (Fetches s k) = c.sweep ≢ Over
IsInTime c spawned (Publishes s k) = c.sweep ≢ Over
IsInTime c spawned (ComesLate s k) = c.sweep ≢ Over
IsInTime c spawned (Gathers k) = (c.sweep ≡ Second) × (k < spawned)
IsInTime c spawned (FindsIdle k) = (c.sweep ≡ Second) × (k < spawned)
IsInTime c spawned (FindsBusy k) = (c.sweep ≡ Second) × (k < spawned)

module _ {S : Type 0} {g : Ghosts S} where
  -- a tree of the core and a tree of the pool: the desk's words are those of the tree's tasks, and the tree has added each task that the hand has spawned
  pub record Agrees (c : Core) (tree : ℕ) (m : Moment S g) : Type 0 where
    pub words : SharesWords c tree m.desk.words
    pub added : (k : ℕ) → k < m.spawned → IsSome (word_at c tree k)
