-- Laws of sweeps and of whole steps.
use Rattle.std.specs.Prelude.{◌≡◌, ℕ}
use Rattle.peano_keys.specs.declared.cell.CellKey.{CellKey}
use Rattle.peano_keys.specs.declared.state.State.{State}
use Rattle.peano_keys.specs.Grid.{Spacetree}
use Rattle.peano_keys.specs.Next.{IsNextGrid}
use Rattle.curve_cuts.specs.Cuts.{Cuts, IsCutGrid}
use Rattle.step_phases.specs.declared.phase.Phase.TheVariants.{First, Second, Third, Opening}
use Rattle.step_phases.specs.Stores.{Store, Stores, TreeSays, AllSay}
use Rattle.step_phases.specs.Change.{Change, IsChange}
use Rattle.step_phases.specs.Phases.{AtRest, AfterRaise, AfterPrimary, AfterFirst, AfterSecondary, AfterSecond, AfterAdapt}
use Rattle.step_phases.specs.Exchange.{IsExchanged}
use Rattle.step_phases.specs.Sweeps.{IsRaised, IsSwept, PrimaryChanges, SecondaryChanges, IsAdapted}

-- the raising sweep of a tree
abbrev pub RaiseSweep : Type 0
RaiseSweep = (k : Cuts) (g : Spacetree) (f : CellKey → State) (t : ℕ) (store : Store)
    → IsRaised k g f t store → TreeSays k g t (AfterRaise k g f t) store

-- the primary sweep of a tree
abbrev pub PrimarySweep : Type 0
PrimarySweep = (k : Cuts) (w : Change) (t : ℕ) (before after : Store)
    → TreeSays k w.old t (AtRest w.old w.value) before
    → IsSwept k w.old t (PrimaryChanges k w t) before after
    → TreeSays k w.old t (AfterPrimary k w t) after

-- the secondary sweep of a tree
abbrev pub SecondarySweep : Type 0
SecondarySweep = (k : Cuts) (w : Change) (t : ℕ) (before after : Store)
    → IsNextGrid w.old w.mark w.new → TreeSays k w.old t (AfterFirst k w) before
    → IsSwept k w.old t (SecondaryChanges k w t) before after
    → TreeSays k w.old t (AfterSecondary k w t) after

-- the adaptation sweep of a tree
abbrev pub AdaptSweep : Type 0
AdaptSweep = (k : Cuts) (w : Change) (t : ℕ) (before after : Store) → IsCutGrid k w.old
    → IsCutGrid k w.new → IsChange w → TreeSays k w.old t (AfterSecond w) before
    → IsAdapted k w t before after → TreeSays k w.new t (AfterAdapt k w t) after

-- the stores of a step up to its second exchange, one after another
pub record Steps (k : Cuts) (w : Change) (s0 s1 s2 s3 s4 : Stores) : Type 0 where
  pub primary : (t : ℕ) → IsSwept k w.old t (PrimaryChanges k w t) (s0 t) (s1 t)
  pub first : IsExchanged First k w.old s1 s2
  pub secondary : (t : ℕ) → IsSwept k w.old t (SecondaryChanges k w t) (s2 t) (s3 t)
  pub second : IsExchanged Second k w.old s3 s4

-- a start: raised stores, and the opening exchange
abbrev pub StartRests : Type 0
StartRests = (k : Cuts) (g : Spacetree) (f : CellKey → State) (before after : Stores)
    → IsCutGrid k g → ((t : ℕ) → IsRaised k g f t (before t)) → IsExchanged Opening k g before after
    → AllSay k g (λ t. AtRest g f) after

-- a whole step, with an adaptation: from rest to rest
abbrev pub WholeStep : Type 0
WholeStep = (k : Cuts) (w : Change) (s0 s1 s2 s3 s4 s5 s6 : Stores) → IsCutGrid k w.old
    → IsCutGrid k w.new → IsChange w → AllSay k w.old (λ t. AtRest w.old w.value) s0
    → Steps k w s0 s1 s2 s3 s4 → ((t : ℕ) → IsAdapted k w t (s4 t) (s5 t))
    → IsExchanged Third k w.new s5 s6 → AllSay k w.new (λ t. AtRest w.new w.last) s6

-- and without one
abbrev pub PlainStep : Type 0
PlainStep = (k : Cuts) (w : Change) (s0 s1 s2 s3 s4 : Stores) → IsCutGrid k w.old → IsChange w
    → w.new ≡ w.old → AllSay k w.old (λ t. AtRest w.old w.value) s0 → Steps k w s0 s1 s2 s3 s4
    → AllSay k w.new (λ t. AtRest w.new w.last) s4

-- the stores of a whole step
pub record StepStores (k : Cuts) (w : Change) : Type 0 where
  pub s0 : Stores
  pub s1 : Stores
  pub s2 : Stores
  pub s3 : Stores
  pub s4 : Stores
  pub s5 : Stores
  pub s6 : Stores
  pub rest : AllSay k w.old (λ t. AtRest w.old w.value) s0
  pub moves : Steps k w s0 s1 s2 s3 s4
  pub adapted : (t : ℕ) → IsAdapted k w t (s4 t) (s5 t)
  pub third : IsExchanged Third k w.new s5 s6

-- for each change there are such stores, so the premises of a whole step can be met
abbrev pub ChainExists : Type 0
ChainExists = (k : Cuts) (w : Change) → IsCutGrid k w.old → IsCutGrid k w.new → IsChange w
    → StepStores k w
