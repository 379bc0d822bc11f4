-- Laws of runs: what the threads of a pool do in a step is a history of the core that begins with it, whatever the order.
use Rattle.std.specs.Prelude.{◌≡◌, ◌≢◌, ℕ, ◌+◌, ◌<◌, ◌≤◌, Bool, true, List, [], ◌∷◌, ◌++◌, Some, slice_get}
use Rattle.std.specs.FinMap as fin
use Rattle.peano_keys.specs.declared.cell.CellKey.{CellKey}
use Rattle.result_table.specs.declared.updates.Updates.{Ghosts}
use Rattle.result_table.specs.declared.word.Word.TheVariants.{Collected}
use Rattle.solver_api.specs.Step.{UpdateRule, IsLeafOf, new_state}
use Rattle.task_core.specs.declared.event.Event.{Event}
use Rattle.task_core.specs.declared.event.Sweep.{Sweep}
use Rattle.task_core.specs.declared.event.Sweep.TheVariants.{First, Second, Over}
use Rattle.task_core.specs.declared.stop.Offered.{Offered}
use Rattle.task_core.specs.Core.{Core, run}
use Rattle.task_core.specs.Work.{task_in}
use Rattle.task_core.specs.Replies.{word_at}
use Rattle.task_pool.specs.declared.parts.Pool.{Pool}
use Rattle.pool_events.specs.Deeds.{Deed, succeeds}
use Rattle.pool_events.specs.Steps.{core_after, IsLegal}
use Rattle.pool_events.specs.Histories.{Happening, Visits, Exchanges, Spawns, Steals, Deeds, event_told, AllAgree, IsHistory}
use Rattle.running_threads.specs.Places.{Place, HasEnded, CanGoOn, IsCollectionOf}
use Rattle.running_threads.specs.Runs.{Point, history_of, StepRun, core_told, progress_at, moments_at, progress_of, moments_of}

-- whether a call answered that it did what it was asked for; a visit and an exchange always do
abbrev pub succeeded : Happening → Bool
succeeded (Visits i) = true
succeeded Exchanges = true
succeeded (Spawns i) = true
succeeded (Steals i) = true
succeeded (Deeds i d) = succeeds d

-- a task of a tree of a core is of this leaf
pub record HasLeaf (c : Core) (i n : ℕ) (l : CellKey) : Type 0 where
  pub task : Offered
  pub there : task_in (slice_get c.trees i) n ≡ Some task
  pub leaf : task.leaf.key ≡ l

-- the number of the task that a hand spawns or collects next: it spawns the next one, and collects the greatest that is left
abbrev pub IsNextNumber : Sweep → ℕ → Place → ℕ → Type 0
IsNextNumber First spawned a n = n ≡ spawned
IsNextNumber Second spawned a n = a.tasks ≡ n + 1
IsNextNumber Over spawned a n = ⊥

module _ {S : Type 0} {g : Ghosts S} where
  -- each event of a list is legal after those before it, or not legal, as the call answered
  abbrev pub AreLegal : UpdateRule → Core → List (Point S g) → Type 0
  AreLegal updated c [] = Unit {0}
  AreLegal updated c (x ∷ xs) = IsLegal updated c (event_told x.happening) (succeeded x.happening)
      × AreLegal updated (core_after updated c (event_told x.happening)) xs

  -- a run of a pool is a history of the core that begins with the step
  abbrev pub RunsAreHistories : Pool S g → Type 0
  RunsAreHistories p = (updated : UpdateRule) (r : StepRun p)
      → IsHistory updated p r.core r.moments (history_of r.points)

  -- so at each point the words of all desks are those of the core that ran the events so far
  abbrev pub RunsAgree : Pool S g → Type 0
  RunsAgree p = (updated : UpdateRule) (r : StepRun p)
      → AllAgree p (core_told updated r) (moments_of r)

  -- each visit and each exchange is legal, and so are a won claim, a publication and a collection; a lost claim and a late publication are not
  abbrev pub RunsAreLegal : Pool S g → Type 0
  RunsAreLegal p = (updated : UpdateRule) (r : StepRun p) → AreLegal updated r.core r.points

  -- where a tree is at an enclave leaf, the number that its hand spawns or collects next is that of the leaf's task
  abbrev pub NumbersAreOfLeaves : Pool S g → Type 0
  NumbersAreOfLeaves p = (updated : UpdateRule) (r : StepRun p) (i : ℕ) (l : CellKey)
      → i < r.cuts.trees → ((progress_of r).place i).leaf ≡ Some l
      → (n : ℕ)
      × IsNextNumber (progress_of r).sweep (moments_of r i).spawned ((progress_of r).place i) n
      × HasLeaf (core_told updated r) i n l

  -- at some point of a run a tree's hand spawns task n at a leaf
  pub record SpawnsAt {p : Pool S g} (r : StepRun p) (i n : ℕ) (l : CellKey) : Type 0 where
    pub before : List (Point S g)
    pub point : Point S g
    pub after : List (Point S g)
    pub points : r.points ≡ before ++ point ∷ after
    pub happening : point.happening ≡ Spawns i
    pub leaf : ((progress_at r before).place i).leaf ≡ Some l
    pub number : (moments_at r before i).spawned ≡ n

  -- at some point it collects task n at a leaf
  pub record CollectsAt {p : Pool S g} (r : StepRun p) (i n : ℕ) (l : CellKey) : Type 0 where
    pub before : List (Point S g)
    pub point : Point S g
    pub after : List (Point S g)
    pub points : r.points ≡ before ++ point ∷ after
    pub deed : Deed
    pub happening : point.happening ≡ Deeds i deed
    pub collects : IsCollectionOf n deed
    pub leaf : ((progress_at r before).place i).leaf ≡ Some l

  -- a leaf is collected by the number by which it was spawned
  abbrev pub LeavesKeepNumbers : Pool S g → Type 0
  LeavesKeepNumbers p = (r : StepRun p) (i n : ℕ) (l m : CellKey)
      → SpawnsAt r i n l → CollectsAt r i n m → m ≡ l

  -- a tree that has not ended its sweep can go on in it
  abbrev pub TreesGoOn : Pool S g → Type 0
  TreesGoOn p = (r : StepRun p) (i : ℕ) → i < r.cuts.trees
      → CanGoOn r.cuts r.grid i (progress_of r).sweep ((progress_of r).place i)

  -- from the second sweep on the numbers that are not left are collected
  abbrev pub OthersAreCollected : Pool S g → Type 0
  OthersAreCollected p = (updated : UpdateRule) (r : StepRun p) (i n : ℕ)
      → i < r.cuts.trees → (progress_of r).sweep ≢ First
      → ((progress_of r).place i).tasks ≤ n → n < (moments_of r i).spawned
      → word_at (core_told updated r) i n ≡ Some Collected

  -- and none is left when a tree has ended its secondary sweep
  abbrev pub NoneIsLeft : Pool S g → Type 0
  NoneIsLeft p = (r : StepRun p) (i : ℕ)
      → i < r.cuts.trees → (progress_of r).sweep ≢ First → HasEnded ((progress_of r).place i)
      → ((progress_of r).place i).tasks ≡ 0

  -- after the second exchange each leaf has the kernel's answer
  abbrev pub RunsAnswer : Pool S g → Type 0
  RunsAnswer p = (updated : UpdateRule) (r : StepRun p)
      → (progress_of r).sweep ≡ Over → (c : CellKey) → IsLeafOf r.grid c
      → fin.get (core_told updated r).answers c ≡ Some (new_state updated r.grid r.field c)

-- a task keeps its leaf
abbrev pub TasksKeepLeaves : Type 0
TasksKeepLeaves = (updated : UpdateRule) (c : Core) (events : List Event) (i n : ℕ) (l : CellKey)
    → HasLeaf c i n l → HasLeaf (run updated c events) i n l
