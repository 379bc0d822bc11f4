-- One step of a world.
use Rattle.std.specs.Prelude.{◌≡◌, ℕ, ◌+◌, Bool, true, false, List, ◌++◌, Result, Ok, Err}
use Rattle.peano_keys.specs.Grid.{Spacetree}
use Rattle.peano_keys.specs.Field.{States}
use Rattle.peano_keys.specs.Next.{IsNextGrid}
use Rattle.solver_api.specs.Step.{marks_of}
use Rattle.spacetree.specs.declared.fault.EvalFault.{EvalFault}
use Rattle.spacetree.specs.declared.fault.EvalFault.TheVariants.{Overflow, Crowded, NoMemory}
use Rattle.spacetree.specs.Evaluation.{IsServedStep}
use Rattle.curve_cuts.specs.Keys.{CutPoints, cuts_of}
use Rattle.vertex_stacks.specs.Notes.{Note}
use Rattle.step_sweeps.specs.Kernels.{Kernel}
use Rattle.step_driver.specs.Notes.{added_notes, recut_added, recuts_in, AddsFirst}
use Rattle.step_driver.specs.Recutting.{AreSharesAfter}
use Rattle.step_driver.specs.Stepping.{StoppedStep}
use Rattle.step_driver.specs.Worlds.{Seen, IsAt}

-- the keys after a step to a grid: where the trees are cut anew, of as many trees with equal shares of its leaves; else those before it
abbrev pub AreKeysAfter : Bool → Spacetree → CutPoints → CutPoints → Type 0
AreKeysAfter true g before after = AreSharesAfter before g after
AreKeysAfter false g before after = after ≡ before

-- whether a world's trees are cut anew after its next step
abbrev pub is_cut_next : {S : Type 0} → Seen S → Bool
is_cut_next w = recuts_in w.recut (w.step + 1)

-- the notes that a world's next step adds, from one grid to the next and to the keys that its trees have then
abbrev pub notes_of_next : {S : Type 0} → Bool → Seen S → CutPoints → Spacetree → Spacetree
    → List Note
notes_of_next adapts w keys g h = added_notes (cuts_of w.keys) adapts (w.step + 1) g h
    ++ recut_added w.recut w.keys keys (w.step + 1) h

-- a world's trees took a step, all of it but that they may be cut anew then: the keys stay
pub record Took {S : Type 0} (kernel : Kernel) (adapts : Bool) (g : Spacetree) (f : States)
    (before after : Seen S) : Type 0 where
  pub grid : Spacetree
  pub field : States
  pub served : IsServedStep kernel.updated kernel.marked g f grid field
  pub keys : after.keys ≡ before.keys
  pub at : IsAt kernel.parts after grid field (before.step + 1)
  pub noted : after.notes
      ≡ before.notes ++ added_notes (cuts_of before.keys) adapts (before.step + 1) g grid

-- a world's trees are cut anew where its step asks for it: it stays at its grid and field, with the keys after its step
pub record IsCutInTurn {S : Type 0} (parts : ℕ) (g : Spacetree) (f : States)
    (before after : Seen S) : Type 0 where
  pub keys : AreKeysAfter (recuts_in before.recut before.step) g before.keys after.keys
  pub at : IsAt parts after g f before.step
  pub noted : after.notes
      ≡ before.notes ++ recut_added before.recut before.keys after.keys before.step g

-- or memory was wanting
pub record IsNotCut {S : Type 0} (g : Spacetree) (before after : Seen S) : Type 0 where
  pub live : after.live ≡ false
  pub keys : after.keys ≡ before.keys
  pub cut : CutPoints
  pub shares : AreKeysAfter (recuts_in before.recut before.step) g before.keys cut
  pub noted : AddsFirst before.notes after.notes
      (recut_added before.recut before.keys cut before.step g)

-- one of both, by the answer
abbrev pub CutsInTurn : {S E : Type 0} → ℕ → Spacetree → States → Seen S → Seen S → Result Unit E
    → Type 0
CutsInTurn parts g f before after (Ok u) = IsCutInTurn parts g f before after
CutsInTurn parts g f before after (Err e) = IsNotCut g before after

-- a world took a step: it is at the next grid and field, one step further, with the keys after that step, and has its notes
pub record Advanced {S : Type 0} (kernel : Kernel) (adapts : Bool) (g : Spacetree) (f : States)
    (before after : Seen S) : Type 0 where
  pub grid : Spacetree
  pub field : States
  pub served : IsServedStep kernel.updated kernel.marked g f grid field
  pub keys : AreKeysAfter (is_cut_next before) grid before.keys after.keys
  pub at : IsAt kernel.parts after grid field (before.step + 1)
  pub noted : after.notes ≡ before.notes ++ notes_of_next adapts before after.keys g grid

-- notes of a step that wanted memory: the first of those that it adds, whatever keys its trees would have had after it
pub record StoppedShort {S : Type 0} (kernel : Kernel) (adapts : Bool) (g : Spacetree) (f : States)
    (before : Seen S) (notes : List Note) : Type 0 where
  pub grid : Spacetree
  pub next : IsNextGrid g (marks_of kernel.marked g f) grid
  pub keys : CutPoints
  pub after : AreKeysAfter (is_cut_next before) grid before.keys keys
  pub noted : AddsFirst before.notes notes (notes_of_next adapts before keys g grid)

-- why a world takes no step: by an overflow or by too many cells once all trees have computed, else for want of memory
abbrev pub StopsWorld : {S : Type 0} → Kernel → Bool → Spacetree → States → Seen S → List Note
    → EvalFault → Type 0
StopsWorld kernel adapts g f before notes (Overflow s c) =
    StoppedStep kernel adapts (cuts_of before.keys) g f
    (before.step + 1) before.notes notes (Overflow s c)
StopsWorld kernel adapts g f before notes (Crowded s n) =
    StoppedStep kernel adapts (cuts_of before.keys) g f
    (before.step + 1) before.notes notes (Crowded s n)
StopsWorld kernel adapts g f before notes NoMemory = StoppedShort kernel adapts g f before notes

-- a world was refused a step: it is no longer live, and its keys stay
pub record Stopped {S : Type 0} (kernel : Kernel) (adapts : Bool) (g : Spacetree) (f : States)
    (before after : Seen S) (fault : EvalFault) : Type 0 where
  pub live : after.live ≡ false
  pub keys : after.keys ≡ before.keys
  pub fails : StopsWorld kernel adapts g f before after.notes fault

-- the step of a world's trees: taken, or the whole step is refused
abbrev pub IsTaken : {S : Type 0} → Kernel → Bool → Spacetree → States → Seen S → Seen S
    → Result Unit EvalFault → Type 0
IsTaken kernel adapts g f before after (Ok u) = Took kernel adapts g f before after
IsTaken kernel adapts g f before after (Err e) = Stopped kernel adapts g f before after e

-- a step of a world: taken, or refused
abbrev pub IsAdvanced : {S : Type 0} → Kernel → Bool → Spacetree → States → Seen S → Seen S
    → Result Unit EvalFault → Type 0
IsAdvanced kernel adapts g f before after (Ok u) = Advanced kernel adapts g f before after
IsAdvanced kernel adapts g f before after (Err e) = Stopped kernel adapts g f before after e
