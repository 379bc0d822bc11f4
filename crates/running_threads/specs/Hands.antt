-- What a tree's hand sees of its tasks, beside the place of its tree: its calls lead the place on as runs do.
use Rattle.std.specs.Prelude.{◌≡◌, ℕ, ◌<◌, ◌≤◌, Some}
use Rattle.peano_keys.specs.declared.cell.CellKey.{CellKey}
use Rattle.task_core.specs.declared.event.Sweep.{Sweep}
use Rattle.task_core.specs.declared.event.Sweep.TheVariants.{First, Second, Over}
use Rattle.pool_events.specs.Deeds.{Deed, knows}
use Rattle.step_sweeps.specs.Tasks.{TasksSeen, Offers, Turns, Answers}
use Rattle.running_threads.specs.Places.{Place, SpawnsTask, CollectsTask, IsCollectionOf}

module _ {S : Type 0} where
  -- the tasks of a place are those that its hand has spawned, and in the second sweep those that are left
  abbrev pub SeesTasks : Sweep → TasksSeen S → Place → Type 0
  SeesTasks First x a = a.tasks ≡ x.spawned
  SeesTasks Second x a = a.tasks ≡ x.left
  SeesTasks Over x a = a.tasks ≡ 0

  -- an offer spawned the task of the leaf, with the number that it answered
  pub record OffersAt (x : TasksSeen S) (n : ℕ) (y : TasksSeen S) (a : Place) : Type 0 where
    pub number : n ≡ x.spawned
    pub place : Place
    pub spawns : SpawnsTask a place
    pub sees : SeesTasks First y place

  -- an answer collected the task of the leaf, which is a deed of the hand's seat
  pub record AnswersAt (x y : TasksSeen S) (a : Place) : Type 0 where
    pub number : ℕ
    pub deed : Deed
    pub is : IsCollectionOf number deed
    pub knows : y.seat ≡ knows deed x.seat
    pub place : Place
    pub collects : CollectsTask number a place
    pub sees : SeesTasks Second y place

  -- where the desk has a place for one more, an offer spawns a task
  abbrev pub OffersSpawn : TasksSeen S → Type 0
  OffersSpawn x = (y : TasksSeen S) (n : ℕ) (a : Place) (l : CellKey)
      → a.leaf ≡ Some l → SeesTasks First x a → x.spawned < x.size → Offers x n y
      → OffersAt x n y a

  -- before the second sweep's first visit all tasks that were spawned are left, where the desk had a place for each
  abbrev pub TurnsKeep : TasksSeen S → Type 0
  TurnsKeep x = (y : TasksSeen S) (a : Place)
      → SeesTasks First x a → x.left ≡ x.size → x.spawned ≤ x.size → Turns x y
      → SeesTasks Second y a

  -- where a task is left, an answer collects the one with the greatest number
  abbrev pub AnswersCollect : TasksSeen S → Type 0
  AnswersCollect x = (y : TasksSeen S) (a : Place) (l : CellKey)
      → a.leaf ≡ Some l → SeesTasks Second x a → 0 < a.tasks → Answers x y
      → AnswersAt x y a
