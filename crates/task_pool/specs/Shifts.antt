-- How long a helper works.
use Rattle.std.specs.Prelude.{◌⊎◌, ℕ, ◌+◌, ◌==◌, ◌<◌, ◌≤◌, List, [], ◌∷◌, if◌then◌else◌}
use Rattle.task_pool.specs.declared.shift.Shift.{Shift}
use Rattle.task_pool.specs.declared.shift.Work.{Work}

-- a helper ends after 16,384 rounds in a row that took nothing, or once it has taken as many tasks as all desks have
abbrev pub IsOver : ℕ → ℕ → ℕ → Type 0
IsOver all quiet taken = (16384 ≤ quiet) ⊎ (all ≤ taken)

-- it goes on where neither is so
abbrev pub GoesOn : ℕ → ℕ → ℕ → Type 0
GoesOn all quiet taken = (quiet < 16384) × (taken < all)

-- how many tasks each round took, the last round first: how many these are together
abbrev pub taken_in : List ℕ → ℕ
taken_in [] = 0
taken_in (n ∷ rounds) = taken_in rounds + n

-- and how many rounds in a row took nothing up to the last one
abbrev pub quiet_for : List ℕ → ℕ
quiet_for [] = 0
quiet_for (n ∷ rounds) = if n == 0 then quiet_for rounds + 1 else 0

-- before each of these rounds it had to go on
abbrev pub WentOn : ℕ → List ℕ → Type 0
WentOn all [] = Unit {0}
WentOn all (n ∷ rounds) = GoesOn all (quiet_for rounds) (taken_in rounds) × WentOn all rounds

-- the rounds of a helper that has ended: it had to go on before each of them, and after them not
pub record EndsAfter (all : ℕ) (rounds : List ℕ) : Type 0 where
  pub went : WentOn all rounds
  pub over : IsOver all (quiet_for rounds) (taken_in rounds)

-- what stands after one round more
abbrev pub after_round : Shift → Work → Shift
after_round s w =
    record {
      quiet = if w.taken == 0 then s.quiet + 1 else 0;
      taken = s.taken + w.taken;
      published = s.published + w.published;
    }
