-- Laws of a desk, of whatever its words, its slots and its views are between two steps.
use Rattle.std.specs.Prelude.{◌≡◌, ℕ, ◌<◌, true, false}
use Rattle.result_table.specs.declared.updates.Updates.{Ghosts}
use Rattle.result_table.specs.declared.parts.Desk.{Desk}
use Rattle.result_table.specs.declared.view.View.{View}
use Rattle.result_table.specs.Views.{DeskState, has}
use Rattle.result_table.specs.Rule.{DeskRule, IsView}
use Rattle.result_table.specs.Seats.{size_of}

-- a task that was gathered was found neither idle nor busy, and one that was found idle was not found busy
pub record IsOneOf {S : Type 0} (v : View S) (k : ℕ) : Type 0 where
  pub gathered : has v.gathered k ≡ true → (has v.idle k ≡ false) × (has v.busy k ≡ false)
  pub idle : has v.idle k ≡ true → has v.busy k ≡ false

module _ {S : Type 0} {g : Ghosts S} where
  -- no task is published by two seats
  abbrev pub OnePublication : Desk S g → Type 0
  OnePublication d = (s : DeskState S g) (k i j : ℕ) (v w : View S) → DeskRule d.table.shared.key s
      → k < size_of d → IsView s i v → IsView s j w → has v.published k ≡ true
      → has w.published k ≡ true → i ≡ j

  -- so a task is collected in one way
  abbrev pub OneCollection : Desk S g → Type 0
  OneCollection d = (s : DeskState S g) (k : ℕ) (v : View S) → DeskRule d.table.shared.key s
      → k < size_of d → IsView s 0 v → IsOneOf v k
