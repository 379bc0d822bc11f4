-- What callers see of a pool, of the hands of its trees and of its helpers.
use Rattle.std.specs.Prelude.{◌≡◌, ◌⊎◌, ℕ, ◌+◌, ◌*◌, ◌<◌, ◌≤◌, ◌^◌, true, List, [], ◌∷◌, length, slice_index_or, vec_len}
use Rattle.crossbeam_deque.specs.Handles.{IsPassOf, stealer_deque, worker_deque, worker_view, view}
use Rattle.result_table.specs.declared.updates.Updates.{Ghosts}
use Rattle.result_table.specs.declared.view.View.{View}
use Rattle.result_table.specs.Seats.{IsSeatOf, view_of, size_of, desk_solver}
use Rattle.result_table.specs.Views.{has, with_gathered, with_idle, with_busy}
use Rattle.task_pool.specs.Deque.{count, is_task}
use Rattle.task_pool.specs.declared.log.Log.{Log}
use Rattle.task_pool.specs.declared.parts.Tree.{Tree}
use Rattle.task_pool.specs.declared.parts.Pool.{Pool}
use Rattle.task_pool.specs.declared.parts.TreeHand.{TreeHand}
use Rattle.task_pool.specs.declared.parts.Post.{Post}
use Rattle.task_pool.specs.declared.parts.Helper.{Helper}

-- task k was gathered, or found idle or busy, and nothing else of the view changed
abbrev pub Collects : {S : Type 0} → ℕ → View S → View S → Type 0
Collects k v w = (w ≡ with_gathered v k) ⊎ ((w ≡ with_idle v k) ⊎ (w ≡ with_busy v k))

module _ {S : Type 0} {g : Ghosts S} where
  -- the solver of a pool
  abbrev pub pool_solver : Pool S g → S
  pool_solver p = p.solver.value

  -- how many trees a pool has
  abbrev pub tree_count : Pool S g → ℕ
  tree_count p = vec_len p.trees

  -- how many tasks the desks of these trees have
  abbrev pub tasks_in : List (Tree S g) → ℕ
  tasks_in [] = 0
  tasks_in (t ∷ ts) = size_of t.desk + tasks_in ts

  -- how many tasks all desks of the pool have
  abbrev pub task_count : Pool S g → ℕ
  task_count p = tasks_in p.trees.items

  -- what the hand's seat, seat 0 of its tree's desk, knows
  abbrev pub hand_view : TreeHand S g → View S
  hand_view h = view_of h.seat

  -- the tree of a hand
  abbrev pub tree_of : TreeHand S g → ℕ
  tree_of h = h.tree

  -- how many tasks a hand spawned
  abbrev pub spawned_of : TreeHand S g → ℕ
  spawned_of h = h.spawned

  -- what the hand knows as a user of its tree's deque: the tasks that it put there
  abbrev pub hand_log : TreeHand S g → Log
  hand_log h = worker_view h.worker

  -- the desk of a tree has this many tasks
  abbrev pub HasTasks : Pool S g → ℕ → ℕ → Type 0
  HasTasks p tree n = (x : Tree S g) → size_of (slice_index_or p.trees.items tree x).desk ≡ n

  -- k is the number of a task of the tree
  abbrev pub IsTaskOf : Pool S g → ℕ → ℕ → Type 0
  IsTaskOf p tree k = (x : Tree S g) → k < size_of (slice_index_or p.trees.items tree x).desk

  -- 1 to 64 trees, whose desks have the pool's solver
  pub record IsPool (p : Pool S g) : Type 0 where
    pub some : 0 < vec_len p.trees
    pub few : vec_len p.trees ≤ 64
    pub total : p.total ≡ tasks_in p.trees.items
    pub most : p.total ≤ vec_len p.trees * 2 ^ 32
    pub solver : (i : ℕ) (x : Tree S g) → i < vec_len p.trees
        → desk_solver (slice_index_or p.trees.items i x).desk ≡ p.solver.value

  -- a hand of this pool: seat 0 of its tree's desk, at which it claims no task, and the end of that tree's deque at which tasks are put
  pub record IsHandOf (p : Pool S g) (h : TreeHand S g) : Type 0 where
    pub pool : IsPool p
    pub tree : h.tree < vec_len p.trees
    pub first : (view_of h.seat).number ≡ 0
    pub idle : (view_of h.seat).claimed ≡ []
    pub seat : (x : Tree S g) → IsSeatOf (slice_index_or p.trees.items h.tree x).desk h.seat
    pub deque : (x : Tree S g)
        → worker_deque h.worker ≡ stealer_deque (slice_index_or p.trees.items h.tree x).stealer

  -- a helper's place at a tree: a seat of its desk and a pass of its deque. Each task that the seat claimed is one that the pass took, of this tree and of that number
  pub record IsPostAt (t : Tree S g) (tree : ℕ) (p : Post S g) : Type 0 where
    pub seat : IsSeatOf t.desk p.seat
    pub pass : IsPassOf (stealer_deque t.stealer) p.pass
    pub claimed : (k : ℕ) → has (view_of p.seat).claimed k ≡ true
        → 0 < count (is_task tree k) (view p.pass).taken

  -- a helper of this pool has a place at each tree
  pub record IsHelperOf (p : Pool S g) (h : Helper S g) : Type 0 where
    pub pool : IsPool p
    pub all : vec_len h.posts ≡ vec_len p.trees
    pub posts : (i : ℕ) (x : Tree S g) (y : Post S g) → i < vec_len p.trees
        → IsPostAt (slice_index_or p.trees.items i x) i (slice_index_or h.posts.items i y)

  -- how many results the seats of these places published, and how many tasks their passes took
  abbrev pub published_at : List (Post S g) → ℕ
  published_at [] = 0
  published_at (p ∷ ps) = length (view_of p.seat).published + published_at ps

  -- how many tasks the passes of some posts took
  abbrev pub taken_at : List (Post S g) → ℕ
  taken_at [] = 0
  taken_at (p ∷ ps) = length (view p.pass).taken + taken_at ps

  -- how many results a helper published
  abbrev pub published_by : Helper S g → ℕ
  published_by h = published_at h.posts.items

  -- how many tasks a helper took
  abbrev pub taken_by : Helper S g → ℕ
  taken_by h = taken_at h.posts.items
