-- A pool whose hands and helpers are at rest, and one that has just been made.
use Rattle.std.specs.Prelude.{◌≡◌, ◌⊎◌, ℕ, List, [], Some, slice_get}
use mathlib.Core.Option.{some}
use lib.ListN.{get_elem?}
use Rattle.crossbeam_deque.specs.Handles.{view}
use Rattle.result_table.specs.declared.updates.Updates.{Ghosts}
use Rattle.result_table.specs.declared.view.View.{View}
use Rattle.result_table.specs.Rule.{DeskRule, IsView}
use Rattle.result_table.specs.Seats.{IsUncollected, view_of}
use Rattle.task_core.specs.Core.{Core, Tree as CoreTree}
use Rattle.task_pool.specs.declared.log.Log.{Log}
use Rattle.task_pool.specs.declared.parts.Pool.{Pool}
use Rattle.task_pool.specs.declared.parts.Tree.{Tree}
use Rattle.task_pool.specs.declared.parts.TreeHand.{TreeHand}
use Rattle.task_pool.specs.declared.parts.Helper.{Helper}
use Rattle.task_pool.specs.declared.parts.Post.{Post}
use Rattle.task_pool.specs.Deque.{IsFair}
use Rattle.task_pool.specs.Seen.{IsHandOf, IsHelperOf, tree_of, spawned_of, hand_view, hand_log}
use Rattle.pool_events.specs.Moments.{Moment}

module _ {S : Type 0} {g : Ghosts S} where
  -- a helper's place at the tree has this view, and its pass is a user of the deque
  pub record IsHelpers (helpers : List (Helper S g)) (tree : ℕ) (logs : List Log)
      (v : View S) : Type 0 where
    pub number : ℕ
    pub helper : Helper S g
    pub is : slice_get helpers number ≡ Some helper
    pub post : Post S g
    pub place : slice_get helper.posts.items tree ≡ Some post
    pub sees : v ≡ view_of post.seat
    pub port : ℕ
    pub log : get_elem? logs port ≡ some (view post.pass)

  -- a tree of a pool whose seats and users of the deque are those of its hand and of these helpers
  pub record IsManned (p : Pool S g) (t : Tree S g) (tree : ℕ) (h : TreeHand S g)
      (helpers : List (Helper S g)) (m : Moment S g) : Type 0 where
    pub hand : IsHandOf p h
    pub tree_is : tree_of h ≡ tree
    pub helper : (j : ℕ) (x : Helper S g) → slice_get helpers j ≡ Some x → IsHelperOf p x
    pub desk : DeskRule t.desk.table.shared.key m.desk
    pub deque : IsFair m.queue m.logs
    pub spawned : m.spawned ≡ spawned_of h
    pub log : get_elem? m.logs 0 ≡ some (hand_log h)
    pub seats : (i : ℕ) (v : View S) → IsView m.desk i v
        → (v ≡ hand_view h) ⊎ IsHelpers helpers tree m.logs v

  -- no task of the tree was spawned, nor collected
  pub record IsNew (m : Moment S g) : Type 0 where
    pub spawned : m.spawned ≡ 0
    pub collected : (k : ℕ) (v : View S) → IsView m.desk 0 v → IsUncollected v k

-- no tree of the core has a task
abbrev pub HasNoTasks : Core → Type 0
HasNoTasks c = (i : ℕ) (t : CoreTree) → slice_get c.trees i ≡ Some t → t.tasks ≡ []
