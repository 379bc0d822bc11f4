-- What a seat has claimed was spawned by the hand of its tree.
use Rattle.std.proofs.Common.{◌≡◌, ℕ, ◌<◌, ◌≤◌, eqb, cond, Bool, true, false, ◌&&◌, List, [], ◌∷◌, arith}
use mathlib.Core.Logic.{dite}
use native.Mathlib.Decide.{dec_lt}
use Rattle.result_table.specs.declared.updates.Updates.{Ghosts}
use Rattle.result_table.specs.declared.view.View.{View}
use Rattle.result_table.specs.Views.{has}
use Rattle.result_table.specs.Rule.{IsView}
use Rattle.task_pool.specs.declared.job.Job.{Job}
use Rattle.task_pool.specs.declared.parts.Tree.{Tree}
use Rattle.task_pool.specs.Deque.{count, has_number, is_task}
use Rattle.task_pool.proofs.Moves.{taken_spawned}
use Rattle.pool_events.specs.Moments.{Moment, IsMoment}

one_less : (a b : Bool) → cond (a && b) 1 0 ≤ cond b 1 0
one_less true b = omega arith
one_less false true = omega arith
one_less false false = omega arith

-- tasks of a tree and of a number are tasks of that number
count_less : (tree k : ℕ) (xs : List Job) → count (is_task tree k) xs ≤ count (has_number k) xs
count_less tree k [] = omega arith
count_less tree k (x ∷ xs) = let one = one_less (eqb x.task.tree tree) (eqb x.task.task k) in omega (arith, one, count_less tree k xs)

pub claimed_spawned : {S : Type 0} {g : Ghosts S} (t : Tree S g) (tree : ℕ) (m : Moment S g) (seat k : ℕ) (v : View S) → IsMoment t tree m → IsView m.desk seat v → has v.claimed k ≡ true → k < m.spawned
claimed_spawned t tree m seat k v is at e = dite (dec_lt k m.spawned) (λ below. below) (λ not.
    let taken = is.claimed seat k v at e in
    let put = taken_spawned m.queue m.logs is.put_in taken.0 taken.1 (is_task tree k) is.deque taken.2 in
    let none = is.numbers k (omega (arith, not)) in
    absurd (omega (arith, taken.3, put, none, count_less tree k is.put_in)))
