-- The trees of a step as a program keeps them, and what its calls make of them.
use Rattle.std.specs.Prelude.{◌≡◌, ℕ, ◌+◌, ◌≤◌, List, [], ◌∷◌, ◌++◌, length, slice_get, slice_set, Option, Some, None}
use Rattle.solver_api.specs.Parts.{HaveParts}
use Rattle.result_table.specs.declared.word.Word.TheVariants as word
use Rattle.task_core.specs.declared.stop.Leaf.{Leaf}
use Rattle.task_core.specs.declared.stop.Offered.{Offered}
use Rattle.task_core.specs.declared.stop.Stop.{Stop}
use Rattle.task_core.specs.declared.stop.Stop.TheVariants.{Pass, Compute, Offer}
use Rattle.task_core.specs.declared.event.Sweep.{Sweep}
use Rattle.task_core.specs.Core.{Answers, Tree, Core, stops}
use Rattle.task_core.specs.Opening.{Each}

-- a leaf for the kernel of a solver whose states have `n` values
pub record IsServed (n : ℕ) (l : Leaf) : Type 0 where
  pub level : l.key.level ≤ 12
  pub parts : HaveParts n l.own l.sides

-- a visit of such a leaf, or one that passes by
abbrev pub IsServedStop : ℕ → Stop → Type 0
IsServedStop n Pass = Unit {0}
IsServedStop n (Compute l) = IsServed n l
IsServedStop n (Offer l) = IsServed n l

-- a task of such a leaf
abbrev pub IsServedTask : ℕ → Offered → Type 0
IsServedTask n o = IsServed n o.leaf

-- a tree all of whose leaves are such
pub record IsServedTree (n : ℕ) (t : Tree) : Type 0 where
  pub first : Each (IsServedStop n) t.first
  pub second : Each (IsServedStop n) t.second
  pub tasks : Each (IsServedTask n) t.tasks

-- so is each of some trees
abbrev pub AreServed : ℕ → List Tree → Type 0
AreServed n ts = Each (IsServedTree n) ts

-- how many values states have, and the trees
pub record Trees : Type 0 where
  pub parts : ℕ
  pub trees : List Tree

-- the next visit of a tree in a sweep, none where it made all or there is no tree
abbrev pub next_in : Sweep → Option Tree → Option Stop
next_in s None = None
next_in s (Some t) = slice_get (stops s t) t.made

-- a task of a tree
abbrev pub task_in : Option Tree → ℕ → Option Offered
task_in None k = None
task_in (Some t) k = slice_get t.tasks k

-- a tree after one more visit
abbrev pub passed : Tree → Tree
passed t = record t { made = t.made + 1 }

-- a tree with one more task, which is Free
abbrev pub offering : Leaf → Tree → Tree
offering l t = record t { tasks = t.tasks ++ record { leaf = l; word = word.Free } ∷ [] }

-- a tree with another task in a place
abbrev pub with_task : ℕ → Offered → Tree → Tree
with_task k o t = record t { tasks = slice_set t.tasks k o }

-- trees of which the one in a place is changed, where there is one
abbrev pub changed_at : (Tree → Tree) → List Tree → ℕ → Option Tree → List Tree
changed_at f ts i None = ts
changed_at f ts i (Some t) = slice_set ts i (f t)

-- trees of which one, by its place, is changed
abbrev pub changed : (Tree → Tree) → Trees → ℕ → Trees
changed f ts i = record ts { trees = changed_at f ts.trees i (slice_get ts.trees i) }

-- a core in which the tree in a place is changed, and the answers are others
abbrev pub with_tree : (Tree → Tree) → Core → ℕ → Answers → Core
with_tree f c i a =
    record { sweep = c.sweep; trees = changed_at f c.trees i (slice_get c.trees i); answers = a }
