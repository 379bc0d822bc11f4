-- What a seat may do at the word of a task, as the contracts of the desk tell it, and which event of a step that is.
use Rattle.std.specs.Prelude.{◌≡◌, ◌≢◌, ℕ, Bool, true, false, Option, Some, None}
use lib.ListN.{get_elem?}
use Rattle.result_table.specs.declared.updates.Updates.{Ghosts}
use Rattle.result_table.specs.declared.view.View.{View}
use Rattle.result_table.specs.Views.{DeskState, has, with_claimed, with_lost, with_filling, with_published, with_late, with_gathered, with_idle, with_busy}
use Rattle.result_table.specs.Rule.{IsView}
use Rattle.result_table.specs.Plays.{IsFresh}
use Rattle.result_table.specs.Seats.{IsUncollected}
use Rattle.task_core.specs.declared.event.Event.{Event}
use Rattle.task_core.specs.declared.event.Event.TheVariants.{Take, Publish, Collect}

-- A seat wins or loses the claim of a task, has its slot out, publishes its result or comes too late with it; the first seat gathers a task, or finds it idle or busy. The seat stands first, then the task.
pub data Deed : Type 0 where
  Wins : ℕ → ℕ → Deed
  Loses : ℕ → ℕ → Deed
  Fetches : ℕ → ℕ → Deed
  Publishes : ℕ → ℕ → Deed
  ComesLate : ℕ → ℕ → Deed
  Gathers : ℕ → Deed
  FindsIdle : ℕ → Deed
  FindsBusy : ℕ → Deed

-- the seat that did it: seat 0 gathers
abbrev pub seat_of : Deed → ℕ
seat_of (Wins s k) = s
seat_of (Loses s k) = s
seat_of (Fetches s k) = s
seat_of (Publishes s k) = s
seat_of (ComesLate s k) = s
seat_of (Gathers k) = 0
seat_of (FindsIdle k) = 0
seat_of (FindsBusy k) = 0

-- the task that it was done to
abbrev pub task_of : Deed → ℕ
task_of (Wins s k) = k
task_of (Loses s k) = k
task_of (Fetches s k) = k
task_of (Publishes s k) = k
task_of (ComesLate s k) = k
task_of (Gathers k) = k
task_of (FindsIdle k) = k
task_of (FindsBusy k) = k

-- the event of tree i that it is; to have a slot out is none
abbrev pub event_of : ℕ → Deed → Option Event
event_of i (Wins s k) = Some (Take s i k)
event_of i (Loses s k) = Some (Take s i k)
event_of i (Fetches s k) = None
event_of i (Publishes s k) = Some (Publish s i k)
event_of i (ComesLate s k) = Some (Publish s i k)
event_of i (Gathers k) = Some (Collect i k)
event_of i (FindsIdle k) = Some (Collect i k)
event_of i (FindsBusy k) = Some (Collect i k)

-- whether the call of the desk answered that it did what it was asked for; a collection always does
abbrev pub succeeds : Deed → Bool
succeeds (Wins s k) = true
succeeds (Loses s k) = false
succeeds (Fetches s k) = true
succeeds (Publishes s k) = true
succeeds (ComesLate s k) = false
succeeds (Gathers k) = true
succeeds (FindsIdle k) = true
succeeds (FindsBusy k) = true

module _ {S : Type 0} where
  -- what the seat knows after it
  abbrev pub knows : Deed → View S → View S
  knows (Wins s k) v = with_claimed v k
  knows (Loses s k) v = with_lost v k
  knows (Fetches s k) v = with_filling v k
  knows (Publishes s k) v = with_published v k
  knows (ComesLate s k) v = with_late v k
  knows (Gathers k) v = with_gathered v k
  knows (FindsIdle k) v = with_idle v k
  knows (FindsBusy k) v = with_busy v k

  -- what it knew before: a claim that is won is new to the seat, a result is published once and of a claimed task, a task is collected once
  abbrev pub Knew : Deed → View S → Type 0
  Knew (Wins s k) v = IsFresh v k
  Knew (Loses s k) v = Unit {0}
  Knew (Fetches s k) v = Unit {0}
  Knew (Publishes s k) v = (has v.claimed k ≡ true) × (has v.published k ≡ false)
  Knew (ComesLate s k) v = Unit {0}
  Knew (Gathers k) v = IsUncollected v k
  Knew (FindsIdle k) v = IsUncollected v k
  Knew (FindsBusy k) v = IsUncollected v k

module _ {S : Type 0} {g : Ghosts S} where
  -- between two moments of a desk one seat did this: it knows more, and no other seat does
  pub record Does (d : Deed) (m n : DeskState S g) : Type 0 where
    pub view : View S
    pub before : IsView m (seat_of d) view
    pub knew : Knew d view
    pub after : IsView n (seat_of d) (knows d view)
    pub others : (i : ℕ) → i ≢ seat_of d → get_elem? n.views i ≡ get_elem? m.views i
