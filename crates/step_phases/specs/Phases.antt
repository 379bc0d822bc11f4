-- What the slot of a cell says at each moment of a step, in the copy of a tree.
use Rattle.std.specs.Prelude.{◌≡◌, ℕ}
use Rattle.peano_keys.specs.declared.cell.CellKey.{CellKey}
use Rattle.peano_keys.specs.declared.state.State.{State}
use Rattle.peano_keys.specs.Grid.{Spacetree, is_refined}
use Rattle.peano_records.specs.declared.slot.Slot.{Slot}
use Rattle.peano_records.specs.declared.slot.Intent.TheVariants.{Stay}
use Rattle.peano_records.specs.AtRest.{status_of, intent_between}
use Rattle.curve_cuts.specs.Cuts.{Cuts, Owns}
use Rattle.curve_cuts.specs.Enclave.{IsSkeleton}
use Rattle.adapt_marks.specs.Views.{HasMark}
use Rattle.step_phases.specs.Change.{Change, Gives}

-- a slot has its cell's new value, where there is one
abbrev pub HasNext : Change → CellKey → Slot → Type 0
HasNext w c s = Gives (w.next c) s.next

-- at rest: the cell's status and value, and nothing is intended
pub record AtRest (g : Spacetree) (f : CellKey → State) (c : CellKey) (s : Slot) : Type 0 where
  pub status : s.status ≡ status_of (is_refined g c)
  pub value : s.value ≡ f c
  pub stay : s.intent ≡ Stay

-- the status and the value of each of the tree's own cells
pub record HasOwn (k : Cuts) (g : Spacetree) (f : CellKey → State) (t : ℕ) (c : CellKey)
    (s : Slot) : Type 0 where
  pub status : Owns k t c → s.status ≡ status_of (is_refined g c)
  pub value : Owns k t c → s.value ≡ f c

-- after a raising sweep: the status of each cell, whoever owns it, and the values of the tree's own cells
pub record AfterRaise (k : Cuts) (g : Spacetree) (f : CellKey → State) (t : ℕ) (c : CellKey)
    (s : Slot) : Type 0 where
  pub status : s.status ≡ status_of (is_refined g c)
  pub own : HasOwn k g f t c s

-- after the primary sweep: the marks of the tree's own leaves, and the new values of its skeleton leaves
pub record AfterPrimary (k : Cuts) (w : Change) (t : ℕ) (c : CellKey) (s : Slot) : Type 0 where
  pub rest : AtRest w.old w.value c s
  pub mark : Owns k t c → HasMark w.old w.mark c s
  pub next : IsSkeleton k w.old t c → HasNext w c s

-- after the first exchange: the marks of all leaves, and the new values of the skeleton leaves of all trees
pub record AfterFirst (k : Cuts) (w : Change) (c : CellKey) (s : Slot) : Type 0 where
  pub rest : AtRest w.old w.value c s
  pub mark : HasMark w.old w.mark c s
  pub next : (t : ℕ) → IsSkeleton k w.old t c → HasNext w c s

-- after the secondary sweep: the new value of each of the tree's own cells, and what is intended with it; the value is still the old one
pub record AfterSecondary (k : Cuts) (w : Change) (t : ℕ) (c : CellKey) (s : Slot) : Type 0 where
  pub status : s.status ≡ status_of (is_refined w.old c)
  pub value : s.value ≡ w.value c
  pub mark : HasMark w.old w.mark c s
  pub next : Owns k t c → HasNext w c s
  pub intent : Owns k t c → s.intent ≡ intent_between (is_refined w.old c) (is_refined w.new c)

-- after the second exchange: each cell's status in the old grid, the intent that leads to the new one, and as value the new value
pub record AfterSecond (w : Change) (c : CellKey) (s : Slot) : Type 0 where
  pub status : s.status ≡ status_of (is_refined w.old c)
  pub intent : s.intent ≡ intent_between (is_refined w.old c) (is_refined w.new c)
  pub value : Gives (w.next c) s.value

-- after the adaptation sweep, on the vertices of the new grid: status and value of the tree's own cells
abbrev pub AfterAdapt : Cuts → Change → ℕ → CellKey → Slot → Type 0
AfterAdapt k w t c s = HasOwn k w.new w.last t c s
