-- A secondary sweep that leaves out the new values of some cells, and sums over all trees that complete them.
use Rattle.std.specs.Prelude.{◌≡◌, ℕ, Bool, true, false}
use Rattle.peano_keys.specs.declared.cell.CellKey.{CellKey}
use Rattle.peano_keys.specs.Grid.{is_refined}
use Rattle.peano_records.specs.declared.slot.Slot.{Slot}
use Rattle.peano_records.specs.AtRest.{status_of, intent_between}
use Rattle.curve_cuts.specs.Cuts.{Cuts, Owns}
use Rattle.adapt_marks.specs.Views.{HasMark}
use Rattle.step_phases.specs.Stores.{Store, TreeSays}
use Rattle.step_phases.specs.Change.{Change}
use Rattle.step_phases.specs.Phases.{HasNext, AfterSecondary}
use Rattle.step_phases.specs.Sweeps.{IsSwept}

-- after a secondary sweep that leaves out the cells of a test
pub record AfterPart (k : Cuts) (w : Change) (left_out : CellKey → Bool) (t : ℕ) (c : CellKey)
    (s : Slot) : Type 0 where
  pub status : s.status ≡ status_of (is_refined w.old c)
  pub value : s.value ≡ w.value c
  pub mark : HasMark w.old w.mark c s
  pub next : Owns k t c → left_out c ≡ false → HasNext w c s
  pub intent : Owns k t c → s.intent ≡ intent_between (is_refined w.old c) (is_refined w.new c)

-- the sums give these their new values, and change no other cell
pub record SumChanges (k : Cuts) (w : Change) (left_out : CellKey → Bool) (t : ℕ) (c : CellKey)
    (old new : Slot) : Type 0 where
  pub status : new.status ≡ old.status
  pub value : new.value ≡ old.value
  pub mark : new.mark ≡ old.mark
  pub intent : new.intent ≡ old.intent
  pub kept : left_out c ≡ false → new.next ≡ old.next
  pub added : Owns k t c → left_out c ≡ true → HasNext w c new

-- together they are a secondary sweep
abbrev pub SumsComplete : Type 0
SumsComplete = (k : Cuts) (w : Change) (left_out : CellKey → Bool) (t : ℕ) (before after : Store)
    → TreeSays k w.old t (AfterPart k w left_out t) before
    → IsSwept k w.old t (SumChanges k w left_out t) before after
    → TreeSays k w.old t (AfterSecondary k w t) after
