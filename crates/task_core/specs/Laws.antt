-- Laws of the core, for every list of events.
use Rattle.std.specs.Prelude.{◌≡◌, ℕ, ◌≤◌, List, slice_get, Option, Some}
use Rattle.std.specs.FinMap as fin
use Rattle.peano_keys.specs.declared.state.State.{State}
use Rattle.peano_keys.specs.declared.cell.CellKey.{CellKey}
use Rattle.peano_keys.specs.Grid.{Spacetree}
use Rattle.peano_keys.specs.Field.{States}
use Rattle.solver_api.specs.Step.{UpdateRule, IsLeafOf, new_state}
use Rattle.result_table.specs.declared.word.Word.{Word}
use Rattle.result_table.specs.Words.{place_of}
use Rattle.task_core.specs.declared.event.Event.{Event}
use Rattle.task_core.specs.declared.event.Sweep.TheVariants.{Over}
use Rattle.task_core.specs.declared.stop.Offered.{Offered}
use Rattle.task_core.specs.Core.{Tree, Core, run}
use Rattle.task_core.specs.Opening.{Opens, CoversAll}

-- every answer is the kernel's on the opening field, whoever computed it
abbrev pub AnswersAreKernels : Type 0
AnswersAreKernels = (updated : UpdateRule) (g : Spacetree) (f : States) (c : Core)
    (events : List Event)
    → Opens g f c
    → (k : CellKey) (a : Option State) → fin.get (run updated c events).answers k ≡ Some a
    → a ≡ new_state updated g f k

-- after the second exchange each leaf has the kernel's answer
abbrev pub EachLeafIsAnswered : Type 0
EachLeafIsAnswered = (updated : UpdateRule) (g : Spacetree) (f : States) (c : Core)
    (events : List Event)
    → Opens g f c → CoversAll g f c
    → (run updated c events).sweep ≡ Over → (k : CellKey) → IsLeafOf g k
    → fin.get (run updated c events).answers k ≡ Some (new_state updated g f k)

-- the word of a task
pub record HasWord (c : Core) (i k : ℕ) (w : Word) : Type 0 where
  pub tree : Tree
  pub at : slice_get c.trees i ≡ Some tree
  pub task : Offered
  pub there : slice_get tree.tasks k ≡ Some task
  pub word : task.word ≡ w

-- a word only moves forward in the list Free, Taken, Published, Collected
abbrev pub WordsMoveForward : Type 0
WordsMoveForward = (updated : UpdateRule) (c : Core) (events : List Event) (i k : ℕ) (w : Word)
    → HasWord c i k w
    → (u : Word) × HasWord (run updated c events) i k u × (place_of w ≤ place_of u)
