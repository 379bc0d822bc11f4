-- From the numbers below n to those below n + 1.
use Rattle.std.proofs.Common.{ℕ, ◌+◌, ◌<◌, sym, subst, arith, ⊎_elim}
use Rattle.std.proofs.lemmas.Bool.{cases_eq}

pub one_more : (P : ℕ → Type 0) (n : ℕ) → ((k : ℕ) → k < n → P k) → P n → (k : ℕ) → k < n + 1 → P k
one_more P n so_far last k below = ⊎_elim
    (λ same. subst P (sym same) last)
    (λ other. so_far k (omega (arith, below, other)))
    (cases_eq k n)
