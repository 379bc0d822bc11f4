-- The core: one step of all trees as a machine, and what each event does to it.
use Rattle.std.specs.Prelude.{ℕ, ◌+◌, ◌==◌, Bool, List, [], ◌∷◌, ◌++◌, length, map, slice_get, slice_set, Option, Some, None, is_some, if◌then◌else◌}
use Rattle.std.specs.List.{list_all}
use Rattle.std.specs.FinMap as fin
use Rattle.peano_keys.specs.declared.state.State.{State}
use Rattle.peano_keys.specs.Cell.{key_cmp}
use Rattle.solver_api.specs.Step.{UpdateRule}
use Rattle.result_table.specs.declared.word.Word.{Word}
use Rattle.result_table.specs.declared.word.Word.TheVariants as word
use Rattle.result_table.specs.Words.{taken, published, collected}
use Rattle.task_core.specs.declared.stop.Leaf.{Leaf}
use Rattle.task_core.specs.declared.stop.Offered.{Offered}
use Rattle.task_core.specs.declared.stop.Stop.{Stop}
use Rattle.task_core.specs.declared.stop.Stop.TheVariants.{Pass, Compute, Offer}
use Rattle.task_core.specs.declared.event.Event.{Event}
use Rattle.task_core.specs.declared.event.Event.TheVariants.{Visit, Take, Publish, Collect, Exchange}
use Rattle.task_core.specs.declared.event.Sweep.{Sweep}
use Rattle.task_core.specs.declared.event.Sweep.TheVariants.{First, Second, Over}

-- the answers of kernels, by leaf; an answer is none where a new value leaves its range
abbrev pub Answers : Type 0
Answers = fin.FinMap key_cmp (Option State)

-- a tree: its visits in both sweeps, how many of the present one it made, and its tasks by number
pub record Tree : Type 0 where
  pub first : List Stop
  pub second : List Stop
  pub made : ℕ
  pub tasks : List Offered

-- a step of all trees: the sweep that they are in, the trees, and the answers so far
pub record Core : Type 0 where
  pub sweep : Sweep
  pub trees : List Tree
  pub answers : Answers

-- the visits of a tree in a sweep
abbrev pub stops : Sweep → Tree → List Stop
stops First t = t.first
stops Second t = t.second
stops Over t = []

-- every tree has made all visits of the sweep
abbrev pub all_made : Sweep → List Tree → Bool
all_made s ts = list_all (λ t. t.made == length (stops s t)) ts

-- the tasks after a visit: in the first sweep an offered leaf becomes a task, which is Free
abbrev pub tasks_after : Sweep → List Offered → Stop → List Offered
tasks_after First ts Pass = ts
tasks_after First ts (Compute l) = ts
tasks_after First ts (Offer l) = ts ++ record { leaf = l; word = word.Free } ∷ []
tasks_after Second ts s = ts
tasks_after Over ts s = ts

-- a tree before its first visit of a sweep
abbrev pub rewound : Tree → Tree
rewound t = record { first = t.first; second = t.second; made = 0; tasks = t.tasks }

module _ (updated : UpdateRule) where
  -- the kernel's answer on a leaf
  abbrev pub answer_of : Leaf → Option State
  answer_of l = updated l.own l.sides l.key.level

  -- the leaf has the kernel's answer
  abbrev pub put : Answers → Leaf → Answers
  put a l = fin.insert a l.key (answer_of l)

  -- where it had none
  abbrev pub put_missing : Answers → Leaf → Answers
  put_missing a l = if is_some (fin.get a l.key) then a else put a l

  -- the answers after a visit: the first sweep computes the skeleton leaves, the second the offered leaves that nobody has computed
  abbrev pub answers_after : Sweep → Answers → Stop → Answers
  answers_after First a Pass = a
  answers_after First a (Compute l) = put a l
  answers_after First a (Offer l) = a
  answers_after Second a Pass = a
  answers_after Second a (Compute l) = a
  answers_after Second a (Offer l) = put_missing a l
  answers_after Over a s = a

  -- a tree makes its next visit, where it has one
  abbrev pub visited_at : Core → ℕ → Tree → Option Stop → Option Core
  visited_at c i t None = None
  visited_at c i t (Some s) = Some
      (record {
        sweep = c.sweep;
        trees = slice_set c.trees i
            (record {
              first = t.first;
              second = t.second;
              made = t.made + 1;
              tasks = tasks_after c.sweep t.tasks s;
            });
        answers = answers_after c.sweep c.answers s;
      })

  -- so of a tree that may not be there
  abbrev pub visited : Core → ℕ → Option Tree → Option Core
  visited c i None = None
  visited c i (Some t) = visited_at c i t (slice_get (stops c.sweep t) t.made)

  -- the word of task k of tree i becomes w, and the answers a
  abbrev pub worded : Core → ℕ → ℕ → Tree → Offered → Answers → Option Word → Option Core
  worded c i k t o a None = None
  worded c i k t o a (Some w) = Some
      (record {
        sweep = c.sweep;
        trees = slice_set c.trees i
            (record {
              first = t.first;
              second = t.second;
              made = t.made;
              tasks = slice_set t.tasks k (record { leaf = o.leaf; word = w });
            });
        answers = a;
      })

  -- what an event does to the word and the leaf of a task
  pub record Move : Type 0 where
    pub word : Word → Option Word
    pub answers : Answers → Leaf → Answers

  -- a task of a tree, where there is one, moves by an event
  abbrev pub moved_at : Core → ℕ → ℕ → Tree → Option Offered → Move → Option Core
  moved_at c i k t None m = None
  moved_at c i k t (Some o) m = worded c i k t o (m.answers c.answers o.leaf) (m.word o.word)

  -- so of a task by its number, in a tree that may not be there
  abbrev pub moved : Core → ℕ → ℕ → Option Tree → Move → Option Core
  moved c i k None m = None
  moved c i k (Some t) m = moved_at c i k t (slice_get t.tasks k) m

  -- a task is taken by an actor
  abbrev pub take_move : ℕ → Move
  take_move actor = record { word = taken actor; answers = λ a l. a }

  -- an actor publishes the answer of its task
  abbrev pub publish_move : ℕ → Move
  publish_move actor = record { word = published actor; answers = put }

  -- a task is collected
  abbrev pub collect_move : Move
  collect_move = record { word = collected; answers = λ a l. a }

  -- what an event does while the trees are in a sweep; none where it is not legal. A task is collected in the second sweep alone
  abbrev pub in_sweep : Sweep → Core → Event → Option Core
  in_sweep First c (Visit i) = visited c i (slice_get c.trees i)
  in_sweep First c (Take actor i k) = moved c i k (slice_get c.trees i) (take_move actor)
  in_sweep First c (Publish actor i k) = moved c i k (slice_get c.trees i) (publish_move actor)
  in_sweep First c (Collect i k) = None
  in_sweep First c Exchange = if all_made First c.trees
      then Some (record { sweep = Second; trees = map rewound c.trees; answers = c.answers })
      else None
  in_sweep Second c (Visit i) = visited c i (slice_get c.trees i)
  in_sweep Second c (Take actor i k) = moved c i k (slice_get c.trees i) (take_move actor)
  in_sweep Second c (Publish actor i k) = moved c i k (slice_get c.trees i) (publish_move actor)
  in_sweep Second c (Collect i k) = moved c i k (slice_get c.trees i) collect_move
  in_sweep Second c Exchange = if all_made Second c.trees
      then Some (record { sweep = Over; trees = map rewound c.trees; answers = c.answers })
      else None
  in_sweep Over c e = None

  -- what an event does; none where it is not legal
  abbrev pub stepped : Core → Event → Option Core
  stepped c e = in_sweep c.sweep c e

  -- an event that is not legal is skipped
  abbrev pub or_skipped : Core → Option Core → Core
  or_skipped c None = c
  or_skipped c (Some d) = d

  -- all events of a list, one after another
  abbrev pub run : Core → List Event → Core
  run c [] = c
  run c (e ∷ es) = run (or_skipped c (stepped c e)) es
