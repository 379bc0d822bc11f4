-- A pool while its trees are added.
use Rattle.std.specs.Prelude.{◌≡◌, ℕ, ◌+◌, ◌*◌, ◌<◌, ◌≤◌, ◌^◌, [], List, slice_index, slice_index_or, vec_len}
use Rattle.crossbeam_deque.specs.Handles.{stealer_deque, worker_deque}
use Rattle.result_table.specs.declared.updates.Updates.{Ghosts}
use Rattle.result_table.specs.declared.parts.DeskSeat.{DeskSeat}
use Rattle.result_table.specs.Seats.{IsSeatOf, view_of, size_of, desk_solver}
use Rattle.result_table.specs.Views.{newcomer}
use Rattle.task_pool.specs.declared.parts.Tree.{Tree}
use Rattle.task_pool.specs.declared.parts.TreeHand.{TreeHand}
use Rattle.task_pool.specs.declared.parts.Post.{Post}
use Rattle.task_pool.specs.declared.parts.Helper.{Helper}
use Rattle.task_pool.specs.declared.pool.Building.{Building}
use Rattle.task_pool.specs.Seen.{IsPostAt, tasks_in}

module _ {S : Type 0} {g : Ghosts S} where
  -- a seat of the tree's desk that has claimed nothing
  abbrev pub IsFreshSeat : Tree S g → DeskSeat S g → Type 0
  IsFreshSeat t s = IsSeatOf t.desk s × ((view_of s).claimed ≡ [])

  -- a helper with its places at the first n trees
  pub record IsPlaced (trees : List (Tree S g)) (n : ℕ) (h : Helper S g) : Type 0 where
    pub all : vec_len h.posts ≡ n
    pub posts : (i : ℕ) (x : Tree S g) (y : Post S g) → i < n
        → IsPostAt (slice_index_or trees i x) i (slice_index_or h.posts.items i y)

  -- a new hand of a tree
  pub record IsNewHand (t : Tree S g) (tree : ℕ) (solver : S) (workers : ℕ)
      (h : TreeHand S g) : Type 0 where
    pub tree_is : h.tree ≡ tree
    pub seat : IsSeatOf t.desk h.seat
    pub view : view_of h.seat ≡ newcomer solver 0 (workers + 1)
    pub deque : worker_deque h.worker ≡ stealer_deque t.stealer
    pub none : h.spawned ≡ 0

  -- the first n trees of the pool, with their hands, and each helper's places at them
  pub record IsBuilt (tasks : List ℕ) (workers : ℕ) (solver : S) (n : ℕ)
      (b : Building S g) : Type 0 where
    pub trees : vec_len b.trees ≡ n
    pub sizes : (i : ℕ) (x : Tree S g) → i < n
        → size_of (slice_index_or b.trees.items i x).desk ≡ slice_index tasks i
    pub solvers : (i : ℕ) (x : Tree S g) → i < n
        → desk_solver (slice_index_or b.trees.items i x).desk ≡ solver
    pub total : b.total ≡ tasks_in b.trees.items
    pub most : b.total ≤ n * 2 ^ 32
    pub hands : vec_len b.hands ≡ n
    pub hand : (i : ℕ) (x : Tree S g) (y : TreeHand S g) → i < n
        → IsNewHand (slice_index_or b.trees.items i x) i solver workers
        (slice_index_or b.hands.items i y)
    pub helpers : vec_len b.helpers ≡ workers
    pub helper : (j : ℕ) (h : Helper S g) → j < workers
        → IsPlaced b.trees.items n (slice_index_or b.helpers.items j h)
