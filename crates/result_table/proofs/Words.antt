-- The compare and exchange of a claim and of a publication, and the exchange of a collection, move a word as the events do.
use Rattle.std.specs.Prelude.{◌==◌}
use Rattle.std.proofs.Common.{◌≡◌, ℕ, ◌+◌, ◌≤◌, Bool, true, false, sym, refl, ap, ◌∙◌, arith, Some, None, eq-eqb, ne_eqb, cond}
use mathlib.Core.Logic.{dite}
use native.Mathlib.Decide.{ℕ_discrete}
use Rattle.result_table.specs.Words.{taken, published, collected, after, place_of, code, exchanged, MovesForward}
use Rattle.result_table.specs.declared.word.Word.{Word}
use Rattle.result_table.specs.declared.word.Word.TheVariants.{Free, Taken, Published, Collected}

pub claim_is_take : (seat : ℕ) (w : Word) → exchanged (code w) (code Free) (code (Taken seat)) ≡ code (after w (taken seat w))
claim_is_take seat Free = refl
claim_is_take seat (Taken s) = ap (λ b. cond b (seat + 3) (s + 3)) (ne_eqb (s + 3) 0 (λ e. omega (arith, e)))
claim_is_take seat Published = refl
claim_is_take seat Collected = refl

pub publication_is_publish : (seat : ℕ) (w : Word) → exchanged (code w) (code (Taken seat)) (code Published) ≡ code (after w (published seat w))
publication_is_publish seat Free = ap (λ b. cond b 1 0) (ne_eqb 0 (seat + 3) (λ e. omega (arith, e)))
publication_is_publish seat (Taken s) = dite (ℕ_discrete s seat)
    (λ is. ap (λ b. cond b 1 (s + 3)) (eq-eqb (s + 3) (seat + 3) (omega (arith, is))) ∙ sym (ap (λ b. code (after (Taken s) (cond b (Some Published) None))) (eq-eqb s seat is)))
    (λ not. ap (λ b. cond b 1 (s + 3)) (ne_eqb (s + 3) (seat + 3) (λ e. not (omega (arith, e)))) ∙ sym (ap (λ b. code (after (Taken s) (cond b (Some Published) None))) (ne_eqb s seat not)))
publication_is_publish seat Published = ap (λ b. cond b 1 1) (ne_eqb 1 (seat + 3) (λ e. omega (arith, e)))
publication_is_publish seat Collected = ap (λ b. cond b 1 2) (ne_eqb 2 (seat + 3) (λ e. omega (arith, e)))

pub collection_is_collect : (w : Word) → code Collected ≡ code (after w (collected w))
collection_is_collect Free = refl
collection_is_collect (Taken s) = refl
collection_is_collect Published = refl
collection_is_collect Collected = refl

forward_by : (s : ℕ) (published_ : Bool) → 1 ≤ place_of (after (Taken s) (cond published_ (Some Published) None))
forward_by s true = omega arith
forward_by s false = omega arith

-- no event moves a word back
pub moves_forward : (w : Word) → MovesForward w
moves_forward Free = record { take = λ a. omega arith; publish = λ a. omega arith; collect = omega arith }
moves_forward (Taken s) = record { take = λ a. omega arith; publish = λ a. forward_by s (s == a); collect = omega arith }
moves_forward Published = record { take = λ a. omega arith; publish = λ a. omega arith; collect = omega arith }
moves_forward Collected = record { take = λ a. omega arith; publish = λ a. omega arith; collect = omega arith }
