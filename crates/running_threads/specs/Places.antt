-- How far the trees of a step have come, told by their visits and by numbers of tasks alone, and how each happening leads them on.
use Rattle.std.specs.Prelude.{◌≡◌, ◌≢◌, ℕ, ◌+◌, ◌<◌, List, [], ◌∷◌, Option, Some, None}
use Rattle.peano_keys.specs.declared.cell.CellKey.{CellKey}
use Rattle.peano_keys.specs.Grid.{Spacetree}
use Rattle.peano_curve.specs.declared.order.Direction.{Direction}
use Rattle.curve_cuts.specs.Cuts.{Cuts}
use Rattle.curve_cuts.specs.Enclave.{IsEnclave}
use Rattle.sweep_visits.specs.Visits.{Visit, enter, leave, visits_of}
use Rattle.sweep_visits.specs.Runs.{turned_round}
use Rattle.task_core.specs.declared.event.Sweep.{Sweep}
use Rattle.task_core.specs.declared.event.Sweep.TheVariants.{First, Second, Over}
use Rattle.task_core.specs.Visits.{plan_of}
use Rattle.pool_events.specs.Deeds.{Deed, Wins, Loses, Fetches, Publishes, ComesLate, Gathers, FindsIdle, FindsBusy}
use Rattle.pool_events.specs.Histories.{Happening, Visits, Exchanges, Spawns, Steals, Deeds}

-- Where a tree is: the visits that its sweep has still to make, the enclave leaf that it has entered and whose task its hand has still to spawn or to collect, and how many tasks are spawned and not collected.
pub record Place : Type 0 where
  pub to_come : List Visit
  pub leaf : Option CellKey
  pub tasks : ℕ

-- how far a step has come: the sweep that the trees are in, and where each of them is
pub record Progress : Type 0 where
  pub sweep : Sweep
  pub place : ℕ → Place

module _ (k : Cuts) (grid : Spacetree) (t : ℕ) where
  -- after a visit the tree is at the leaf that it entered, where this is an enclave of it, and else at none
  abbrev pub IsAtAfter : Visit → Option CellKey → Type 0
  IsAtAfter (enter c) (Some l) = IsEnclave k grid t c × (l ≡ c)
  IsAtAfter (enter c) None = ¬ IsEnclave k grid t c
  IsAtAfter (leave c) l = l ≡ None

  -- The tree makes its next visit: a call of the sweep's enter or leave, told at its beginning. It is at no leaf before, since the visitor spawns or collects the task of a leaf inside the call that enters the leaf.
  pub record MakesVisit (a b : Place) : Type 0 where
    pub visit : Visit
    pub before : a ≡ record { to_come = visit ∷ b.to_come; leaf = None; tasks = b.tasks }
    pub leaf : IsAtAfter visit b.leaf

-- the hand spawns the task of the leaf that the tree is at, as the primary sweep's visitor does at each enclave leaf that it enters
pub record SpawnsTask (a b : Place) : Type 0 where
  pub leaf : CellKey
  pub at : a.leaf ≡ Some leaf
  pub after : b ≡ record a { leaf = None; tasks = a.tasks + 1 }

-- the hand collects the greatest number that is left for the leaf that the tree is at, as the secondary sweep's visitor does at each enclave leaf that it enters
pub record CollectsTask (n : ℕ) (a b : Place) : Type 0 where
  pub leaf : CellKey
  pub at : a.leaf ≡ Some leaf
  pub left : a.tasks ≡ n + 1
  pub after : b ≡ record a { leaf = None; tasks = n }

-- a tree has made all visits of its sweep, and is at no leaf
pub record HasEnded (a : Place) : Type 0 where
  pub visits : a.to_come ≡ []
  pub leaf : a.leaf ≡ None

-- a tree has ended its sweep, or can go on in it by one of these ways
pub data CanGoOn (k : Cuts) (grid : Spacetree) (t : ℕ) (s : Sweep) (a : Place) : Type 0 where
  has_ended : HasEnded a → CanGoOn k grid t s a
  makes_visit : (b : Place) → MakesVisit k grid t a b → CanGoOn k grid t s a
  spawns_task : (b : Place) → s ≡ First → SpawnsTask a b → CanGoOn k grid t s a
  collects_task : (n : ℕ) (b : Place) → s ≡ Second → CollectsTask n a b → CanGoOn k grid t s a

-- the sweep that an exchange begins
abbrev pub next_sweep : Sweep → Sweep
next_sweep First = Second
next_sweep Second = Over
next_sweep Over = Over

-- no tree goes on
pub record Stays (a b : Progress) : Type 0 where
  pub sweep : b.sweep ≡ a.sweep
  pub places : (j : ℕ) → b.place j ≡ a.place j

-- no tree goes on but one
pub record OthersStay (i : ℕ) (a b : Progress) : Type 0 where
  pub sweep : b.sweep ≡ a.sweep
  pub places : (j : ℕ) → j ≢ i → b.place j ≡ a.place j

-- helpers take, claim and publish in both sweeps: they are joined before the second exchange
abbrev pub Helps : Progress → Progress → Type 0
Helps a b = (a.sweep ≢ Over) × Stays a b

-- a tree's hand collects in the secondary sweep alone
abbrev pub HandCollects : ℕ → ℕ → Progress → Progress → Type 0
HandCollects i n a b = (a.sweep ≡ Second) × CollectsTask n (a.place i) (b.place i)
    × OthersStay i a b

-- what a deed at the desk of tree i does to the places of trees
abbrev pub GoesBy : ℕ → Deed → Progress → Progress → Type 0
GoesBy i (Wins s n) a b = Helps a b
GoesBy i (Loses s n) a b = Helps a b
GoesBy i (Fetches s n) a b = Helps a b
GoesBy i (Publishes s n) a b = Helps a b
GoesBy i (ComesLate s n) a b = Helps a b
GoesBy i (Gathers n) a b = HandCollects i n a b
GoesBy i (FindsIdle n) a b = HandCollects i n a b
GoesBy i (FindsBusy n) a b = HandCollects i n a b

-- a deed is a collection of task n, whatever is found
abbrev pub IsCollectionOf : ℕ → Deed → Type 0
IsCollectionOf n (Wins s k) = ⊥
IsCollectionOf n (Loses s k) = ⊥
IsCollectionOf n (Fetches s k) = ⊥
IsCollectionOf n (Publishes s k) = ⊥
IsCollectionOf n (ComesLate s k) = ⊥
IsCollectionOf n (Gathers k) = k ≡ n
IsCollectionOf n (FindsIdle k) = k ≡ n
IsCollectionOf n (FindsBusy k) = k ≡ n

module _ (k : Cuts) (grid : Spacetree) (dir : Direction) where
  -- the visits of a tree: the secondary sweep goes the other way
  abbrev pub visits_in : Sweep → ℕ → List Visit
  visits_in First t = visits_of (plan_of k grid t dir)
  visits_in Second t = visits_of (plan_of k grid t (turned_round dir))
  visits_in Over t = []

  -- a tree before its first visit of a sweep, with so many tasks
  abbrev pub begun_in : Sweep → ℕ → ℕ → Place
  begun_in s t n = record { to_come = visits_in s t; leaf = None; tasks = n }

  -- a step at its beginning: the primary sweep, and no task
  abbrev pub at_start : Progress
  at_start = record { sweep = First; place = λ t. begun_in First t 0 }

  -- an exchange is made when all trees have ended their sweep, the first between both sweeps and the second after them; the next sweep has the tasks that were left
  pub record TurnsAll (a b : Progress) : Type 0 where
    pub more : a.sweep ≢ Over
    pub ended : (i : ℕ) → i < k.trees → HasEnded (a.place i)
    pub sweep : b.sweep ≡ next_sweep a.sweep
    pub places : (i : ℕ) → b.place i ≡ begun_in (next_sweep a.sweep) i (a.place i).tasks

  -- how what happens leads the trees on
  abbrev pub Goes : Happening → Progress → Progress → Type 0
  Goes (Visits i) a b = (i < k.trees) × MakesVisit k grid i (a.place i) (b.place i)
      × OthersStay i a b
  Goes Exchanges a b = TurnsAll a b
  Goes (Spawns i) a b = (i < k.trees) × (a.sweep ≡ First) × SpawnsTask (a.place i) (b.place i)
      × OthersStay i a b
  Goes (Steals i) a b = Helps a b
  Goes (Deeds i d) a b = GoesBy i d a b
