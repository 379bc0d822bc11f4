-- A tree of a pool between two atomic steps, and what holds of it whatever the threads have done.
use Rattle.std.specs.Prelude.{◌≡◌, ℕ, ◌<◌, ◌≤◌, true, List}
use mathlib.Core.Option.{some}
use lib.ListN.{get_elem?}
use Rattle.result_table.specs.declared.updates.Updates.{Ghosts}
use Rattle.result_table.specs.declared.view.View.{View}
use Rattle.result_table.specs.Views.{DeskState, has}
use Rattle.result_table.specs.Rule.{DeskRule, IsView}
use Rattle.task_pool.specs.declared.job.Job.{Job}
use Rattle.task_pool.specs.declared.log.Log.{Log}
use Rattle.task_pool.specs.declared.parts.Tree.{Tree}
use Rattle.task_pool.specs.Deque.{count, has_number, is_task, Keeps}

-- the words, the slots and the views of the tree's desk, what is in its deque and what the deque's users know, and how many tasks its hand has spawned
pub record Moment (S : Type 0) (g : Ghosts S) : Type 0 where
  pub desk : DeskState S g
  pub queue : List Job
  pub logs : List Log
  pub spawned : ℕ

-- some user of the deque took a task of this tree and of number k from it
abbrev pub IsTaken : List Log → ℕ → ℕ → Type 0
IsTaken logs tree k = (port : ℕ) × (l : Log) × (get_elem? logs port ≡ some l)
    × (0 < count (is_task tree k) l.taken)

module _ {S : Type 0} {g : Ghosts S} where
  -- a moment of a tree's desk, deque and hand
  pub record IsMoment (t : Tree S g) (tree : ℕ) (m : Moment S g) : Type 0 where
    -- the rule of the tree's desk, and the rule of its deque, into which its hand put these tasks
    pub desk : DeskRule t.desk.table.shared.key m.desk
    pub put_in : List Job
    pub deque : Keeps m.queue m.logs put_in
    -- the hand numbers the tasks that it spawns from 0 upwards
    pub numbers : (n : ℕ) → m.spawned ≤ n → count (has_number n) put_in ≡ 0
    -- a seat claims no task but one that was taken from the deque
    pub claimed : (seat k : ℕ) (v : View S) → IsView m.desk seat v → has v.claimed k ≡ true
        → IsTaken m.logs tree k
