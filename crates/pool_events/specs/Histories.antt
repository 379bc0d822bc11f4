-- What happens in a step between its beginning and its end, in any order of any threads, and the events that it is.
use Rattle.std.specs.Prelude.{◌≡◌, ◌≢◌, ℕ, ◌+◌, ◌<◌, List, [], ◌∷◌, Option, Some, None, IsSome, slice_get}
use Rattle.result_table.specs.declared.updates.Updates.{Ghosts}
use Rattle.solver_api.specs.Step.{UpdateRule}
use Rattle.result_table.specs.Seats.{size_of}
use Rattle.task_core.specs.declared.event.Event.{Event}
use Rattle.task_core.specs.declared.event.Event.TheVariants.{Visit, Exchange}
use Rattle.task_core.specs.Core.{Core}
use Rattle.task_core.specs.Replies.{word_at}
use Rattle.task_pool.specs.declared.parts.Tree.{Tree}
use Rattle.task_pool.specs.declared.parts.Pool.{Pool}
use Rattle.pool_events.specs.Moments.{Moment, IsMoment}
use Rattle.pool_events.specs.Deeds.{Deed, task_of, event_of, Does}
use Rattle.pool_events.specs.Steps.{core_after, IsInTime, Agrees}

-- A tree makes a visit; an exchange is made; a tree's hand spawns a task; a task is taken from a tree's deque; a seat of a tree's desk does a deed. The tree stands first.
pub data Happening : Type 0 where
  Visits : ℕ → Happening
  Exchanges : Happening
  Spawns : ℕ → Happening
  Steals : ℕ → Happening
  Deeds : ℕ → Deed → Happening

-- the event that it is
abbrev pub event_told : Happening → Option Event
event_told (Visits i) = Some (Visit i)
event_told Exchanges = Some Exchange
event_told (Spawns i) = None
event_told (Steals i) = None
event_told (Deeds i d) = event_of i d

-- an event, where there is one, before others
abbrev pub and_then : Option Event → List Event → List Event
and_then None es = es
and_then (Some e) es = e ∷ es

module _ {S : Type 0} {g : Ghosts S} where
  -- moments of all trees of a pool, by number
  abbrev pub AreMoments : Pool S g → (ℕ → Moment S g) → Type 0
  AreMoments p ms = (i : ℕ) (t : Tree S g) → slice_get p.trees.items i ≡ Some t
      → IsMoment t i (ms i)

  -- each tree of the core agrees with the tree of the pool
  abbrev pub AllAgree : Pool S g → Core → (ℕ → Moment S g) → Type 0
  AllAgree p c ms = (i : ℕ) (t : Tree S g) → slice_get p.trees.items i ≡ Some t → Agrees c i (ms i)

  -- no word of a tree's desk changed, and its hand spawned nothing
  abbrev pub Rests : Moment S g → Moment S g → Type 0
  Rests m n = (n.desk.words ≡ m.desk.words) × (n.spawned ≡ m.spawned)

  -- the desks and hands of all other trees rest
  abbrev pub OthersRest : ℕ → (ℕ → Moment S g) → (ℕ → Moment S g) → Type 0
  OthersRest i ms ns = (j : ℕ) → j ≢ i → Rests (ms j) (ns j)

  -- a hand spawns a task that its tree has added, the next one by number
  pub record SpawnsNext (c : Core) (i : ℕ) (m n : Moment S g) : Type 0 where
    pub offered : IsSome (word_at c i m.spawned)
    pub words : n.desk.words ≡ m.desk.words
    pub more : n.spawned ≡ m.spawned + 1

  -- a seat of a tree's desk does a deed
  pub record DoesAt (t : Tree S g) (c : Core) (d : Deed) (m n : Moment S g) : Type 0 where
    pub task : task_of d < size_of t.desk
    pub in_time : IsInTime c m.spawned d
    pub does : Does d m.desk n.desk
    pub spawned : n.spawned ≡ m.spawned

  -- what happens leads from these moments of the trees to those; what is in the deques may have changed besides
  abbrev pub Happens : Pool S g → Core → Happening → (ℕ → Moment S g) → (ℕ → Moment S g) → Type 0
  Happens p c (Visits i) ms ns = (j : ℕ) → Rests (ms j) (ns j)
  Happens p c Exchanges ms ns = (j : ℕ) → Rests (ms j) (ns j)
  Happens p c (Spawns i) ms ns = SpawnsNext c i (ms i) (ns i) × OthersRest i ms ns
  Happens p c (Steals i) ms ns = (j : ℕ) → Rests (ms j) (ns j)
  Happens p c (Deeds i d) ms ns = (t : Tree S g) × (slice_get p.trees.items i ≡ Some t)
      × DoesAt t c d (ms i) (ns i) × OthersRest i ms ns

  -- all that happens in a list, each to the moments that stand beside it, with the core that the events so far lead to
  abbrev pub IsHistory : UpdateRule → Pool S g → Core → (ℕ → Moment S g)
      → List (Happening × (ℕ → Moment S g)) → Type 0
  IsHistory updated p c ms [] = Unit {0}
  IsHistory updated p c ms (h ∷ hs) = AreMoments p h.1 × Happens p c h.0 ms h.1
      × IsHistory updated p (core_after updated c (event_told h.0)) h.1 hs

  -- the events of a history, and the moments at its end
  abbrev pub events_told : List (Happening × (ℕ → Moment S g)) → List Event
  events_told [] = []
  events_told (h ∷ hs) = and_then (event_told h.0) (events_told hs)

  -- the moments after the last of some happenings, or those before where there is none
  abbrev pub at_end : (ℕ → Moment S g) → List (Happening × (ℕ → Moment S g)) → ℕ → Moment S g
  at_end ms [] = ms
  at_end ms (h ∷ hs) = at_end h.1 hs
