-- What a view says of a task before and after it learned something.
use Rattle.std.proofs.Common.{◌≡◌, ◌≢◌, ℕ, zero, suc, ◌<◌, eqb, true, false, ◌||◌, List, [], ◌∷◌, length, sym, refl, ap, ◌∙◌, arith, Some, None, eq-eqb, ne_eqb}
use Rattle.std.proofs.lemmas.Bool.{false≢true}
use mathlib.Core.Option.{some, some-ne-none}
use mathlib.Core.Logic.{dite}
use native.Mathlib.Decide.{ℕ_discrete}
use lib.ListN.{get_elem?}
use Rattle.result_table.specs.Views.{has, is_number, with_busy, with_claimed, with_filling, with_gathered, with_idle, with_late, with_lost, with_published}
use Rattle.result_table.proofs.Fates.{marks}
use Rattle.result_table.specs.declared.view.View.{View}

pub has_here : (xs : List ℕ) (k : ℕ) → has (k ∷ xs) k ≡ true
has_here xs k = ap (λ b. b || has xs k) (eq-eqb k k refl)

pub has_else : (xs : List ℕ) (k j : ℕ) → j ≢ k → has (k ∷ xs) j ≡ has xs j
has_else xs k j not = ap (λ b. b || has xs j) (ne_eqb j k not)

-- a test of two numbers that answers true
pub by_eqb : {P : Type 0} (a b : ℕ) → eqb a b ≡ true → (a ≡ b → P) → P
by_eqb a b is then = dite (ℕ_discrete a b) then (λ not. absurd (false≢true (sym (ne_eqb a b not) ∙ is)))

pub at_below : {A : Type 0} (l : List A) (i : ℕ) (a : A) → get_elem? l i ≡ some a → i < length l
at_below [] i a e = absurd (some-ne-none a (sym e))
at_below (x ∷ xs) zero a e = omega arith
at_below (x ∷ xs) (suc i) a e = let b = at_below xs i a e in omega arith

module _ {S : Type 0} (v : View S) (k : ℕ) where
  pub claimed_here : marks (with_claimed v k) k ≡ record (marks v k) { claimed = true }
  claimed_here = ap (λ b. record (marks v k) { claimed = b }) (has_here v.claimed k)

  pub claimed_else : (j : ℕ) → j ≢ k → marks (with_claimed v k) j ≡ marks v j
  claimed_else j not = ap (λ b. record (marks v j) { claimed = b }) (has_else v.claimed k j not)

  pub lost_here : marks (with_lost v k) k ≡ record (marks v k) { lost = true }
  lost_here = ap (λ b. record (marks v k) { lost = b }) (has_here v.lost k)

  pub lost_else : (j : ℕ) → j ≢ k → marks (with_lost v k) j ≡ marks v j
  lost_else j not = ap (λ b. record (marks v j) { lost = b }) (has_else v.lost k j not)

  pub gathered_here : marks (with_gathered v k) k ≡ record (marks v k) { gathered = true }
  gathered_here = ap (λ b. record (marks v k) { gathered = b }) (has_here v.gathered k)

  pub gathered_else : (j : ℕ) → j ≢ k → marks (with_gathered v k) j ≡ marks v j
  gathered_else j not = ap (λ b. record (marks v j) { gathered = b }) (has_else v.gathered k j not)

  pub idle_here : marks (with_idle v k) k ≡ record (marks v k) { idle = true }
  idle_here = ap (λ b. record (marks v k) { idle = b }) (has_here v.idle k)

  pub idle_else : (j : ℕ) → j ≢ k → marks (with_idle v k) j ≡ marks v j
  idle_else j not = ap (λ b. record (marks v j) { idle = b }) (has_else v.idle k j not)

  pub busy_here : marks (with_busy v k) k ≡ record (marks v k) { busy = true }
  busy_here = ap (λ b. record (marks v k) { busy = b }) (has_here v.busy k)

  pub busy_else : (j : ℕ) → j ≢ k → marks (with_busy v k) j ≡ marks v j
  busy_else j not = ap (λ b. record (marks v j) { busy = b }) (has_else v.busy k j not)

  -- at rest no task is being filled in
  pub filling_here : marks (with_filling v k) k ≡ record (marks v k) { filling = true }
  filling_here = ap (λ b. record (marks v k) { filling = b }) (eq-eqb k k refl)

  pub filling_else : v.filling ≡ None → (j : ℕ) → j ≢ k → marks (with_filling v k) j ≡ marks v j
  filling_else rest j not = ap (λ b. record (marks v j) { filling = b }) (ne_eqb k j (λ e. not (sym e)) ∙ sym (ap (λ f. is_number f j) rest))

  pub published_here : marks (with_published v k) k ≡ record (marks v k) { published = true; filling = false }
  published_here = ap (λ b. record (marks v k) { published = b; filling = false }) (has_here v.published k)

  pub published_else : v.filling ≡ Some k → (j : ℕ) → j ≢ k → marks (with_published v k) j ≡ marks v j
  published_else out j not = ap (λ b. record (marks v j) { published = b; filling = false }) (has_else v.published k j not) ∙ ap (λ b. record (marks v j) { filling = b }) (sym (ap (λ f. is_number f j) out ∙ ne_eqb k j (λ e. not (sym e))))

  pub late_here : marks (with_late v k) k ≡ record (marks v k) { late = true; filling = false }
  late_here = ap (λ b. record (marks v k) { late = b; filling = false }) (has_here v.late k)

  pub late_else : v.filling ≡ Some k → (j : ℕ) → j ≢ k → marks (with_late v k) j ≡ marks v j
  late_else out j not = ap (λ b. record (marks v j) { late = b; filling = false }) (has_else v.late k j not) ∙ ap (λ b. record (marks v j) { filling = b }) (sym (ap (λ f. is_number f j) out ∙ ne_eqb k j (λ e. not (sym e))))
