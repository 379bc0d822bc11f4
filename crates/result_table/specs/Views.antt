-- What a seat knows, and how it comes to know more; the words, the slots and the views of a desk.
use Rattle.std.specs.Prelude.{◌≡◌, ℕ, ◌==◌, ◌||◌, Bool, false, List, [], ◌∷◌, Option, Some, None}
use mathlib.Core.Option.{Option as Maybe, some}
use lib.ListN.{get_elem?}
use Rattle.atomic_table.specs.Table.{State}
use Rattle.result_table.specs.declared.updates.Updates.{Ghosts}
use Rattle.result_table.specs.declared.done.Done.{Done}
use Rattle.result_table.specs.declared.view.View.{View}
use Rattle.result_table.specs.Seen.{task_of, solver_of}

-- k is one of the numbers
abbrev pub has : List ℕ → ℕ → Bool
has [] k = false
has (x ∷ xs) k = (k == x) || has xs k

-- k is the number, if there is one
abbrev pub is_number : Option ℕ → ℕ → Bool
is_number None k = false
is_number (Some x) k = x == k

-- a seat that knows nothing
abbrev pub newcomer : {S : Type 0} → S → ℕ → ℕ → View S
newcomer solver n made =
    record {
      number = n;
      solver = solver;
      made = made;
      claimed = [];
      published = [];
      lost = [];
      late = [];
      filling = None;
      gathered = [];
      idle = [];
      busy = [];
    }

module _ {S : Type 0} where
  -- a view that has claimed task `k` besides
  abbrev pub with_claimed : View S → ℕ → View S
  with_claimed v k = record v { claimed = k ∷ v.claimed }

  -- that has lost it to another claim
  abbrev pub with_lost : View S → ℕ → View S
  with_lost v k = record v { lost = k ∷ v.lost }

  -- that is putting its result into its slot
  abbrev pub with_filling : View S → ℕ → View S
  with_filling v k = record v { filling = Some k }

  -- that has published it
  abbrev pub with_published : View S → ℕ → View S
  with_published v k = record v { published = k ∷ v.published; filling = None }

  -- that found it late
  abbrev pub with_late : View S → ℕ → View S
  with_late v k = record v { late = k ∷ v.late; filling = None }

  -- that has gathered it
  abbrev pub with_gathered : View S → ℕ → View S
  with_gathered v k = record v { gathered = k ∷ v.gathered }

  -- that found it idle: claimed by none
  abbrev pub with_idle : View S → ℕ → View S
  with_idle v k = record v { idle = k ∷ v.idle }

  -- that found it busy: claimed, and not yet published
  abbrev pub with_busy : View S → ℕ → View S
  with_busy v k = record v { busy = k ∷ v.busy }

  -- that knows of so many seats
  abbrev pub with_made : View S → ℕ → View S
  with_made v n = record v { made = n }

-- the slots that are at home, each with what it has; a slot that is out with a seat is none
abbrev pub Homes : (S : Type 0) → Ghosts S → Type 0
Homes S g = List (Maybe (Option (Done S g)))

-- the words, the slots and the views of a desk
abbrev pub DeskState : (S : Type 0) → Ghosts S → Type 0
DeskState S g = State (Option (Done S g)) (View S)

module _ {S : Type 0} {g : Ghosts S} where
  -- the slot has this solver's result of task k
  pub record HasResult (solver : S) (k : ℕ) (y : Option (Done S g)) : Type 0 where
    pub done : Done S g
    pub is : y ≡ Some done
    pub task : (task_of done).task ≡ k
    pub by : solver_of done ≡ solver

  -- slot k is at home
  abbrev pub IsAtHome : Homes S g → ℕ → Type 0
  IsAtHome homes k = (y : Option (Done S g)) × (get_elem? homes k ≡ some (some y))

  -- and has this solver's result of task k
  abbrev pub IsResultAtHome : S → Homes S g → ℕ → Type 0
  IsResultAtHome solver homes k = (y : Option (Done S g)) × (get_elem? homes k ≡ some (some y))
      × HasResult solver k y
