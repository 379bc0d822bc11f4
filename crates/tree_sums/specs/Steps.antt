-- A whole step by means: from stores at rest to stores at rest.
use Rattle.std.specs.Prelude.{◌≡◌, ℕ}
use Rattle.curve_cuts.specs.Cuts.{Cuts}
use Rattle.step_phases.specs.declared.phase.Phase.TheVariants.{First, Second, Third}
use Rattle.step_phases.specs.Stores.{Stores, AllSay}
use Rattle.step_phases.specs.Phases.{AtRest}
use Rattle.step_phases.specs.Exchange.{IsExchanged}
use Rattle.step_phases.specs.Sweeps.{IsSwept, PrimaryChanges, IsAdapted}
use Rattle.peano_keys.specs.Field.{value_of}
use Rattle.tree_sums.specs.Changes.{MeanStep, IsTreeStep, mean_change, MeanSecondaryChanges, AddedChanges}

-- the stores of a step up to its second exchange, one after another: the sums of all trees stand between the secondary sweep and that exchange
pub record MeanMoves (k : Cuts) (s : MeanStep) (s0 s1 s2 s3 s4 s5 : Stores) : Type 0 where
  pub primary : (t : ℕ) → IsSwept k s.old t (PrimaryChanges k (mean_change s) t) (s0 t) (s1 t)
  pub first : IsExchanged First k s.old s1 s2
  pub secondary : (t : ℕ) → IsSwept k s.old t (MeanSecondaryChanges k s t) (s2 t) (s3 t)
  pub added : (t : ℕ) → IsSwept k s.old t (AddedChanges k s t) (s3 t) (s4 t)
  pub second : IsExchanged Second k s.old s4 s5

-- with an adaptation
abbrev pub MeanWholeStep : Type 0
MeanWholeStep = (k : Cuts) (s : MeanStep) (s0 s1 s2 s3 s4 s5 s6 s7 : Stores) → IsTreeStep k s
    → AllSay k s.old (λ t. AtRest s.old (value_of s.old s.before)) s0
    → MeanMoves k s s0 s1 s2 s3 s4 s5
    → ((t : ℕ) → IsAdapted k (mean_change s) t (s5 t) (s6 t)) → IsExchanged Third k s.new s6 s7
    → AllSay k s.new (λ t. AtRest s.new (value_of s.new s.after)) s7

-- and without one
abbrev pub MeanPlainStep : Type 0
MeanPlainStep = (k : Cuts) (s : MeanStep) (s0 s1 s2 s3 s4 s5 : Stores) → IsTreeStep k s
    → s.new ≡ s.old
    → AllSay k s.old (λ t. AtRest s.old (value_of s.old s.before)) s0
    → MeanMoves k s s0 s1 s2 s3 s4 s5
    → AllSay k s.new (λ t. AtRest s.new (value_of s.new s.after)) s5
