-- What the calls of a core answer.
use Rattle.std.specs.Prelude.{◌≡◌, ℕ, ◌+◌, ◌<◌, List, [], ◌∷◌, length, map, take, slice_get, Option, Some, None, is_some, if◌then◌else◌}
use Rattle.std.specs.FinMap as fin
use Rattle.peano_keys.specs.declared.cell.CellKey.{CellKey}
use Rattle.peano_keys.specs.declared.state.State.{State}
use Rattle.solver_api.specs.declared.solver.Solver.{Ghosts}
use Rattle.solver_api.specs.Step.{UpdateRule}
use Rattle.result_table.specs.declared.word.Word.{Word}
use Rattle.task_core.specs.declared.stop.Leaf.{Leaf}
use Rattle.task_core.specs.declared.stop.Offered.{Offered}
use Rattle.task_core.specs.declared.event.Event.{Event}
use Rattle.task_core.specs.declared.event.Reply.{Reply}
use Rattle.task_core.specs.declared.event.Reply.TheVariants.{Applied, Skipped}
use Rattle.task_core.specs.declared.event.Sweep.{Sweep}
use Rattle.task_core.specs.declared.machine.Core.{Core as Program}
use Rattle.task_core.specs.Core.{Core, all_made, rewound, put, put_missing, visited, moved, take_move, publish_move, collect_move, in_sweep, stepped, or_skipped, run}
use Rattle.task_core.specs.Work.{task_in, passed, offering, with_tree}

module _ {S : Type 0} {g : Ghosts S} where
  -- a program's core as a machine
  abbrev pub core_of : Program S g → Core
  core_of c = record { sweep = c.sweep; trees = c.forest.trees; answers = c.answers }

  -- its solver
  abbrev pub solver_of : Program S g → S
  solver_of c = c.solver

-- the reply to an event that leads to some core, or is not legal: it is applied, and the core is then that one; or it is skipped, and nothing changes
abbrev pub Replies : Option Core → Core → Reply → Core → Type 0
Replies None c reply d = (reply ≡ Skipped) × (d ≡ c)
Replies (Some e) c reply d = (reply ≡ Applied) × (d ≡ e)

-- so for what is done to the core itself
abbrev pub RepliesBy : (Core → Option Core) → Core → Core → Reply → Type 0
RepliesBy does c d reply = Replies (does c) c reply d

-- a tree's next visit offers a leaf as a task
abbrev pub does_offer : ℕ → Leaf → Core → Option Core
does_offer i leaf c = Some (with_tree (λ t. passed (offering leaf t)) c i c.answers)

module _ (updated : UpdateRule) where
  -- a tree's next visit computes a leaf
  abbrev pub does_compute : ℕ → Leaf → Core → Option Core
  does_compute i leaf c = Some (with_tree passed c i (put updated c.answers leaf))

  -- it computes a leaf that was offered, where nobody has
  abbrev pub does_gather : ℕ → Leaf → Core → Option Core
  does_gather i leaf c = Some (with_tree passed c i (put_missing updated c.answers leaf))

  -- a tree makes its next visit
  abbrev pub does_visit : ℕ → Core → Option Core
  does_visit i c = visited updated c i (slice_get c.trees i)

  -- an actor takes a task of a tree
  abbrev pub does_take : ℕ → ℕ → ℕ → Core → Option Core
  does_take actor i k c = moved updated c i k (slice_get c.trees i) (take_move updated actor)

  -- an actor publishes the answer of its task
  abbrev pub does_publish : ℕ → ℕ → ℕ → Core → Option Core
  does_publish actor i k c = moved updated c i k (slice_get c.trees i) (publish_move updated actor)

  -- a task is collected
  abbrev pub does_collect : ℕ → ℕ → Core → Option Core
  does_collect i k c = moved updated c i k (slice_get c.trees i) (collect_move updated)

  -- an event while the trees are in a sweep
  abbrev pub does_in : Sweep → Event → Core → Option Core
  does_in sweep event c = in_sweep updated sweep c event

  -- an event
  abbrev pub does : Event → Core → Option Core
  does event c = stepped updated c event

-- how many events of a list are legal, each after those before it
abbrev pub applied : UpdateRule → Core → List Event → ℕ
applied updated c [] = 0
applied updated c (e ∷ es) = (if is_some (stepped updated c e) then 1 else 0)
    + applied updated (or_skipped updated c (stepped updated c e)) es

-- a core has run the first few events of a list, and not all of them
abbrev pub RanSome : UpdateRule → Core → List Event → Core → Type 0
RanSome updated c es d = (k : ℕ) × (k < length es) × (d ≡ run updated c (take k es))

-- the word of a task
abbrev pub word_in : Option Offered → Option Word
word_in None = None
word_in (Some o) = Some o.word

-- the word of task k of tree i, none where that tree has not added it
abbrev pub word_at : Core → ℕ → ℕ → Option Word
word_at c i k = word_in (task_in (slice_get c.trees i) k)

-- what a leaf's answer gives: none where there is no answer yet, or the answer is none
abbrev pub given : Option (Option State) → Option State
given None = None
given (Some a) = a

-- what the answer of a leaf gives in a core
abbrev pub result_at : Core → CellKey → Option State
result_at c k = given (fin.get c.answers k)

-- the exchange after a sweep, which begins another one: none where some tree has visits left
abbrev pub turned_to : Sweep → Sweep → Core → Option Core
turned_to s next c = if all_made s c.trees
    then Some (record { sweep = next; trees = map rewound c.trees; answers = c.answers }) else None

-- how many events a reply counts as applied
abbrev pub applied_by : Reply → ℕ
applied_by Applied = 1
applied_by Skipped = 0
