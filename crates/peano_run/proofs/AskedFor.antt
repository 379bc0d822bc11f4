-- Words ask for one thing at most.
use Rattle.std.proofs.Common.{◌≡◌, ℕ, List, Some, None, sym, ◌∙◌, subst}
use Rattle.std.specs.Prelude.{Result, Ok, Err}
use Rattle.std.specs.Result.{IsErrAnd}
use Rattle.command_line.specs.declared.words.WordsFault.{WordsFault}
use Rattle.command_line.specs.declared.words.WordsFault.TheVariants.{Usage}
use Rattle.command_line.specs.declared.words.Words.{Words}
use Rattle.command_line.specs.CommandLine.{Text, Means}
use Rattle.command_line.proofs.Meaning.{one}
use Rattle.peano_run.specs.declared.asked.Asked.{Asked}
use Rattle.peano_run.specs.declared.asked.Asked.TheVariants.{File, Demo}
use Rattle.peano_run.specs.Asked.{AsksFor, Asks, AreRefused}

none_some : (n : ℕ) → None ≡ Some n → ⊥
none_some n e = cc

some_is : (n m : ℕ) → Some n ≡ Some m → n ≡ m
some_is n m e = cc

one_for : (w : Words) (a b : Asked) → AsksFor w a → AsksFor w b → a ≡ b
one_for w (File r) (File s) h g =
    let trees : r.trees ≡ s.trees = h.1 ∙ sym g.1 in
    let workers : r.workers ≡ s.workers = h.2 ∙ sym g.2 in
    let show : r.show ≡ s.show = h.3 ∙ sym g.3 in
    λ i. File (record { trees = trees i; workers = workers i; show = show i })
one_for w (File r) (Demo n trees workers) h g = absurd (none_some n (sym h.0 ∙ g.0))
one_for w (Demo n trees workers) (File r) h g = absurd (none_some n (sym g.0 ∙ h.0))
one_for w (Demo n trees workers) (Demo m others helpers) h g =
    let numbers : n ≡ m = some_is n m (sym h.0 ∙ g.0) in
    let counts : trees ≡ others = h.1 ∙ sym g.1 in
    let hands : workers ≡ helpers = h.2 ∙ sym g.2 in
    λ i. Demo (numbers i) (counts i) (hands i)

pub one_asked : (words : List Text) (a b : Asked) → Asks words a → Asks words b → a ≡ b
one_asked words a b h g =
    let same : h.settings ≡ g.settings = one words h.settings g.settings h.means g.means in
    one_for g.settings a b (subst (λ (w : Words). AsksFor w a) same h.asks) g.asks

-- and for nothing where they mean none
pub refused_words : (words : List Text) (res : Result Asked WordsFault) (e : WordsFault) (Q : WordsFault → Type 0) → ((d : WordsFault) → Q d → d ≡ e) → IsErrAnd res Q → (e ≡ Usage → (w : Words) → ¬ Means words w) → res ≡ Err Usage → AreRefused words
refused_words words (Ok a) e Q to h none same asked asks = absurd h
refused_words words (Err d) e Q to h none same asked asks = none (sym (to d h) ∙ fault_is d same) asks.settings asks.means
  where
    fault_is : (d : WordsFault) → ◌≡◌ {A = Result Asked WordsFault} (Err d) (Err Usage) → d ≡ Usage
    fault_is d e = cc
