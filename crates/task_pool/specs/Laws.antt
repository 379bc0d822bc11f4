-- Laws of a tree's deque, of whatever is in it and its users know between two steps.
use Rattle.std.specs.Prelude.{◌≡◌, ℕ, ◌≤◌, Bool, List}
use mathlib.Core.Option.{some}
use lib.ListN.{get_elem?}
use Rattle.task_pool.specs.declared.job.Job.{Job}
use Rattle.task_pool.specs.declared.log.Log.{Log}
use Rattle.result_table.specs.declared.updates.Updates.{Ghosts}
use Rattle.task_pool.specs.declared.parts.TreeHand.{TreeHand}
use Rattle.task_pool.specs.Seen.{spawned_of, hand_log}
use Rattle.task_pool.specs.Deque.{count, total, has_number, Keeps}

-- what a helper took are tasks that the tree's hand spawned: whatever is asked of tasks, as many of those spawned have it at least
abbrev pub TakenWasSpawned : Type 0
TakenWasSpawned = (items : List Job) (views : List Log) (spawned : List Job) (port : ℕ) (v : Log)
    (p : Job → Bool)
    → Keeps items views spawned → get_elem? views port ≡ some v → count p v.taken ≤ count p spawned

-- all helpers together took no number twice
abbrev pub TakenOnce : Type 0
TakenOnce = (items : List Job) (views : List Log) (spawned : List Job) (n : ℕ)
    → Keeps items views spawned → total (λ v. count (has_number n) v.taken) views ≤ 1

-- a hand numbers its tasks from 0 upwards: those in its deque have numbers below how many it has spawned
abbrev pub NumbersAreBelow : {S : Type 0} {g : Ghosts S} → TreeHand S g → Type 0
NumbersAreBelow h = (n : ℕ) → spawned_of h ≤ n → count (has_number n) (hand_log h).spawned ≡ 0
