-- What each step on a task's word tells the seat that makes it.
use Rattle.std.specs.Prelude.{◌≡◌, ℕ, zero, suc, ◌-◌, ◌==◌, Bool, false, ◌∷◌, Option, MatchBool}
use Rattle.atomic_table.specs.Table.{Step, Me, rest}
use Rattle.result_table.specs.declared.updates.Updates.{Ghosts}
use Rattle.result_table.specs.declared.done.Done.{Done}
use Rattle.result_table.specs.declared.view.View.{View}
use Rattle.result_table.specs.Views.{HasResult, has, with_claimed, with_lost, with_filling, with_published, with_late, with_gathered, with_idle, with_busy}

-- a seat's view and the slots that are out with it
abbrev pub Mine : (S : Type 0) → Ghosts S → Type 0
Mine S g = Me (Option (Done S g)) (View S)

-- a task that this seat never claimed, and so neither published nor found late
abbrev pub IsFresh : {S : Type 0} → View S → ℕ → Type 0
IsFresh v k = (has v.claimed k ≡ false) × (has v.published k ≡ false) × (has v.late k ≡ false)

module _ {S : Type 0} {g : Ghosts S} where
  -- the task of a word
  abbrev pub number_of : Step (Option (Done S g)) → ℕ
  number_of s = s.word - 1

  -- a claim that was won, or lost
  abbrev pub Claimed : Bool → ℕ → Mine S g → Mine S g → Type 0
  Claimed won k v w = (w.1 ≡ v.1)
      × MatchBool won ((w.0 ≡ with_claimed v.0 k) × IsFresh v.0 k) (w.0 ≡ with_lost v.0 k)

  -- it was won where the word found was Free
  abbrev pub Claims : Step (Option (Done S g)) → Mine S g → ℕ → Mine S g → Type 0
  Claims s v found w = Claimed (found == s.first) (number_of s) v w

  -- the slot of a task that this seat claimed comes out
  abbrev pub Fetches : Step (Option (Done S g)) → Mine S g → ℕ → Mine S g → Type 0
  Fetches s v found w = (w.0 ≡ with_filling v.0 (number_of s))
      × ((y : Option (Done S g)) × (w.1 ≡ (number_of s, y) ∷ v.1))

  -- the result in the slot that is out is published, or came late and stays out
  abbrev pub Ended : Bool → ℕ → Mine S g → Mine S g → Type 0
  Ended won k v w =
      MatchBool won (w ≡ (with_published v.0 k, rest v.1)) (w ≡ (with_late v.0 k, v.1))

  -- it was published where the word found was Taken by this seat
  abbrev pub Publishes : Step (Option (Done S g)) → Mine S g → ℕ → Mine S g → Type 0
  Publishes s v found w = Ended (found == s.first) (number_of s) v w

  -- the word found was Free, Published, or that of a seat
  abbrev pub CollectedAt : ℕ → ℕ → Mine S g → Mine S g → Type 0
  CollectedAt zero k v w = w ≡ (with_idle v.0 k, v.1)
  CollectedAt (suc zero) k v w = (w.0 ≡ with_gathered v.0 k)
      × ((y : Option (Done S g)) × (w.1 ≡ (k, y) ∷ v.1) × HasResult v.0.solver k y)
  CollectedAt (suc (suc n)) k v w = w ≡ (with_busy v.0 k, v.1)

  -- a collection at the word of a step, by what it found there
  abbrev pub Collects : Step (Option (Done S g)) → Mine S g → ℕ → Mine S g → Type 0
  Collects s v found w = CollectedAt found (number_of s) v w
