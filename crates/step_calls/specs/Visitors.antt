-- What the visitors of the primary and the secondary sweep do at each call, and what a visitor remembers by level.
use Rattle.std.specs.Prelude.{◌≡◌, ◌≢◌, ℕ, ◌+◌, ◌<◌, Bool, true, false}
use Rattle.peano_keys.specs.declared.cell.CellKey.{CellKey}
use Rattle.peano_keys.specs.declared.dim.Dim.{Dim}
use Rattle.peano_keys.specs.Cell.{IsCell, centre_child}
use Rattle.peano_keys.specs.Grid.{is_refined}
use Rattle.peano_records.specs.declared.slot.Slot.{Slot}
use Rattle.curve_cuts.specs.Cuts.{Cuts, Owns, IsCutGrid}
use Rattle.adapt_marks.specs.Views.{IsCentre}
use Rattle.step_phases.specs.Stores.{Store}
use Rattle.step_phases.specs.Change.{Change}
use Rattle.step_phases.specs.Phases.{HasNext}
use Rattle.step_phases.specs.Sweeps.{IsSwept, PrimaryChanges, IsIntentOf, SecondaryChanges}
use Rattle.step_calls.specs.Calls.{Calls, AreMade, IsVisited, AreVisits, AreNested}

-- the primary visitor does its work when a cell is entered
abbrev pub PrimaryCall : Cuts → Change → ℕ → Bool → CellKey → Slot → Slot → Type 0
PrimaryCall k w t true c old new = new ≡ old
PrimaryCall k w t false c old new = PrimaryChanges k w t c old new

-- its calls make a primary sweep
abbrev pub PrimaryCalls : Type 0
PrimaryCalls = (k : Cuts) (w : Change) (t : ℕ) (s : Calls) (at : ℕ → Store) → IsCutGrid k w.old
    → AreVisits k w.old t s → AreMade k w.old t s (PrimaryCall k w t) at
    → IsSwept k w.old t (PrimaryChanges k w t) (at 0) (at s.count)

-- the secondary visitor does its work at a leaf when it is entered, and at a refined cell when it is left
pub record SecondaryCall (k : Cuts) (w : Change) (t : ℕ) (leaving : Bool) (c : CellKey)
    (old new : Slot) : Type 0 where
  pub status : new.status ≡ old.status
  pub value : new.value ≡ old.value
  pub mark : new.mark ≡ old.mark
  pub next : Owns k t c → is_refined w.old c ≡ leaving → HasNext w c new
  pub intent : Owns k t c → is_refined w.old c ≡ leaving → IsIntentOf w.old w.mark c new.intent
  pub kept : is_refined w.old c ≢ leaving → new ≡ old

-- its calls make a secondary sweep
abbrev pub SecondaryCalls : Type 0
SecondaryCalls = (k : Cuts) (w : Change) (t : ℕ) (s : Calls) (at : ℕ → Store) → IsCutGrid k w.old
    → AreVisits k w.old t s → AreMade k w.old t s (SecondaryCall k w t) at
    → IsSwept k w.old t (SecondaryChanges k w t) (at 0) (at s.count)

-- what is told at the leave of a centre child stands at its level until another centre child of that level is left
pub record Remembers {A : Type 0} (dim : Dim) (s : Calls) (told : ℕ → A)
    (memo : ℕ → ℕ → A) : Type 0 where
  pub put : (m : ℕ) → m < s.count → s.leaving m ≡ true → IsCentre dim (s.cell m)
      → memo (m + 1) (s.cell m).level ≡ told m
  pub keep : (m l : ℕ) → m < s.count
      → ¬ ((s.leaving m ≡ true) × IsCentre dim (s.cell m) × ((s.cell m).level ≡ l))
      → memo (m + 1) l ≡ memo m l

-- so a cell finds at its leave what its centre child told, here a truth value as the decision on a merge
abbrev pub ParentFinds : Type 0
ParentFinds = (dim : Dim) (s : Calls) (told : ℕ → Bool) (memo : ℕ → ℕ → Bool) (p : CellKey)
    (enter leave first last : ℕ)
    → IsCell dim p → AreNested s → Remembers dim s told memo → IsVisited s p enter leave
    → IsVisited s (centre_child dim p) first last → enter < first → last < leave
    → memo leave (p.level + 1) ≡ told last
