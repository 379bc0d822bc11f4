-- A desk and a core that share words.
use Rattle.std.proofs.Common.{◌≡◌, ◌≢◌, ℕ, ◌+◌, ◌<◌, List, length, set, refl, sym, ap, subst, ◌∙◌, arith, Option, Some, None, IsSome}
use Rattle.std.proofs.lemmas.List.{get_or-set_same, get_or-set_other, length-set}
use Rattle.std.specs.Prelude.{slice_index}
use mathlib.Core.Logic.{dite}
use native.Mathlib.Decide.{ℕ_discrete}
use Rattle.result_table.specs.declared.word.Word.{Word}
use Rattle.result_table.specs.declared.word.Word.TheVariants.{Free}
use Rattle.result_table.specs.Words.{code}
use Rattle.task_core.specs.Core.{Core}
use Rattle.task_core.specs.Replies.{word_at}
use Rattle.task_core.specs.Desks.{or_free, SharesWords}

-- the words with one of them set, and words that differ from them in nothing
pub shares_set : (c : Core) (i k x : ℕ) (ws us : List ℕ) → length us ≡ length ws → k + 1 < length ws → slice_index us (k + 1) ≡ x → ((j : ℕ) → j + 1 < length ws → j ≢ k → slice_index us (j + 1) ≡ slice_index ws (j + 1))
    → SharesWords c i (set ws (k + 1) x) → SharesWords c i us
shares_set c i k x ws us long within here else_ shared j small =
    let there : j + 1 < length ws = omega (arith, small, long) in
    let inside : j + 1 < length (set ws (k + 1) x) = let same = length-set ws (k + 1) x in omega (arith, there, same) in
    dite (ℕ_discrete j k)
    (λ is. subst (λ q. slice_index us (q + 1) ≡ slice_index (set ws (k + 1) x) (q + 1)) (sym is) (here ∙ sym (get_or-set_same ws (k + 1) x 0 within)) ∙ shared j inside)
    (λ not. else_ j there not ∙ sym (get_or-set_other ws (k + 1) (j + 1) x 0 (λ e. not (omega (arith, e)))) ∙ shared j inside)

-- words that differ in nothing
pub shares_alike : (c : Core) (i : ℕ) (ws us : List ℕ) → length us ≡ length ws → ((j : ℕ) → j + 1 < length ws → slice_index us (j + 1) ≡ slice_index ws (j + 1)) → SharesWords c i ws → SharesWords c i us
shares_alike c i ws us long same shared j small = let there : j + 1 < length ws = omega (arith, small, long) in same j there ∙ shared j there

-- a core with the same words
pub shares_on : (c d : Core) (i : ℕ) (ws : List ℕ) → ((k : ℕ) → or_free (word_at d i k) ≡ or_free (word_at c i k)) → SharesWords c i ws → SharesWords d i ws
shares_on c d i ws same shared k within = shared k within ∙ ap code (sym (same k))

-- a task whose word is not Free was added
pub added_by : (c : Core) (i k : ℕ) (ws : List ℕ) → SharesWords c i ws → k + 1 < length ws → (slice_index ws (k + 1) ≡ code Free → ⊥) → IsSome (word_at c i k)
added_by c i k ws shared within not = by_word (word_at c i k) refl
  where
    by_word : (o : Option Word) → word_at c i k ≡ o → IsSome (word_at c i k)
    by_word None e = absurd (not (shared k within ∙ ap (λ o. code (or_free o)) e))
    by_word (Some w) e = subst IsSome (sym e) refl
