-- The tasks of a tree over both sweeps of a step.
use Rattle.std.specs.Prelude.{◌≡◌, ◌⊎◌, ℕ, ◌+◌, ◌-◌, ◌^◌, ◌<◌, ◌≤◌, true}
use Rattle.peano_keys.specs.Grid.{Spacetree}
use Rattle.solver_api.specs.Step.{IsLeafOf}
use Rattle.curve_cuts.specs.Cuts.{Cuts, Owns}
use Rattle.curve_cuts.specs.Enclave.{IsEnclave}
use Rattle.spacetree.specs.Counts.{CountsCells}
use Rattle.result_table.specs.declared.view.View.{View}
use Rattle.result_table.specs.Views.{has}
use Rattle.task_pool.specs.Seen.{Collects}

-- what is seen of a tree's tasks: the tree, the solver, how many places its desk has, how many tasks were spawned, the number below which none was gathered,
-- and what the tree's seat knows
pub record TasksSeen (S : Type 0) : Type 0 where
  pub tree : ℕ
  pub solver : S
  pub size : ℕ
  pub spawned : ℕ
  pub left : ℕ
  pub seat : View S

-- the number of a leaf that no desk had a place for
abbrev pub no_task : ℕ
no_task = 2 ^ 32 - 1

module _ {S : Type 0} where
  -- a leaf is spawned as the next task, where the desk has a place for one more
  abbrev pub Offers : TasksSeen S → ℕ → TasksSeen S → Type 0
  Offers a number b =
      ((a.spawned < a.size) × (number ≡ a.spawned) × (b ≡ record a { spawned = a.spawned + 1 }))
      ⊎ ((a.size ≤ a.spawned) × (number ≡ no_task) × (b ≡ a))

  -- nothing was done but that tasks were spawned
  abbrev pub Spawns : TasksSeen S → TasksSeen S → Type 0
  Spawns a b = b ≡ record a { spawned = b.spawned }

  -- before the first answer the numbers below those that were spawned are left
  abbrev pub Turns : TasksSeen S → TasksSeen S → Type 0
  Turns a b = ((a.spawned < a.left) × (b ≡ record a { left = a.spawned }))
      ⊎ ((a.left ≤ a.spawned) × (b ≡ a))

  -- an answer gathers the greatest number that is left
  abbrev pub Answers : TasksSeen S → TasksSeen S → Type 0
  Answers a b =
      ((0 < a.left) × Collects (a.left - 1) a.seat b.seat
      × (b ≡ record a { left = a.left - 1; seat = b.seat }))
      ⊎ ((a.left ≡ 0) × (b ≡ a))

  -- a number was gathered, or found idle or busy
  abbrev pub IsCollected : View S → ℕ → Type 0
  IsCollected v k = (has v.gathered k ≡ true) ⊎ ((has v.idle k ≡ true) ⊎ (has v.busy k ≡ true))

  -- all numbers below one were
  abbrev pub CollectedAll : View S → ℕ → Type 0
  CollectedAll v n = (k : ℕ) → k < n → IsCollected v k

-- a desk has a place for each leaf that a tree owns
abbrev pub HasPlaces : Cuts → Spacetree → ℕ → ℕ → Type 0
HasPlaces k g t size = (n : ℕ) × CountsCells (λ c. Owns k t c × IsLeafOf g c) n × (n ≤ size)

-- as many tasks were spawned as a tree has enclave leaves, no more than so many
abbrev pub SpawnedAll : Cuts → Spacetree → ℕ → ℕ → ℕ → Type 0
SpawnedAll k g t most spawned = CountsCells (IsEnclave k g t) spawned × (spawned ≤ most)
