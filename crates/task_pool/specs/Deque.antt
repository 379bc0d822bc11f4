-- The rule of a tree's deque: what is in it, and what was taken from it, are the tasks that the tree's hand spawned, none of them twice.
use Rattle.std.specs.Prelude.{◌≡◌, ℕ, ◌+◌, ◌≤◌, ◌==◌, ◌&&◌, Bool, true, List, [], ◌∷◌, if◌then◌else◌}
use mathlib.Core.Option.{some}
use lib.ListN.{get_elem?}
use Rattle.task_pool.specs.declared.job.Job.{Job}
use Rattle.task_pool.specs.declared.log.Log.{Log}

-- what a user of a deque knows, by its parts
abbrev pub log : Bool → List Job → List Job → Log
log a spawned taken = record { spawns = a; spawned = spawned; taken = taken }

-- how many of the tasks pass a test
abbrev pub count : (Job → Bool) → List Job → ℕ
count p [] = 0
count p (x ∷ xs) = (if p x then 1 else 0) + count p xs

-- a number of each log, added up
abbrev pub total : (Log → ℕ) → List Log → ℕ
total f [] = 0
total f (v ∷ vs) = f v + total f vs

-- a task of this number
abbrev pub has_number : ℕ → Job → Bool
has_number n x = x.task.task == n

-- a task of this tree and of this number
abbrev pub is_task : ℕ → ℕ → Job → Bool
is_task tree n x = (x.task.tree == tree) && (x.task.task == n)

-- the rule, where the tree's hand spawned these tasks
pub record Keeps (items : List Job) (views : List Log) (spawned : List Job) : Type 0 where
  -- the hand alone spawns, and knows all that was spawned
  pub owner : (port : ℕ) (v : Log) → get_elem? views port ≡ some v → v.spawns ≡ true
      → (port ≡ 0) × (v.spawned ≡ spawned)
  -- no number was spawned twice
  pub once : (n : ℕ) → count (has_number n) spawned ≤ 1
  -- whatever is asked of tasks, as many of those spawned have it as of those that were taken and are still there
  pub balance : (p : Job → Bool)
      → count p spawned ≡ total (λ v. count p v.taken) views + count p items

-- so for some list of spawned tasks
abbrev pub IsFair : List Job → List Log → Type 0
IsFair items views = (spawned : List Job) × Keeps items views spawned
