-- How many values new states have.
use Rattle.std.specs.Prelude.{◌≡◌, ℕ, ℤ, Option, Some, None, IfSome, refl}
use Rattle.std.proofs.Common.{subst}
use Rattle.peano_keys.specs.declared.state.State.{State}
use Rattle.peano_keys.specs.State.{count_of}
use Rattle.volume_solver.specs.Kernel.{single_of, pair_of}

-- an answer of `n` values, where there is one
abbrev pub AnswerHas : ℕ → Option State → Type 0
AnswerHas n answer = IfSome answer (λ s. count_of s ≡ n)

pub single_has_one : (u : Option ℤ) → AnswerHas 1 (single_of u)
single_has_one None = tt
single_has_one (Some u) = refl

pub pair_has_two : (u w : Option ℤ) → AnswerHas 2 (pair_of u w)
pair_has_two (Some u) (Some w) = refl
pair_has_two (Some u) None = tt
pair_has_two None w = tt

-- so the new state has as many
pub new_has : (n : ℕ) (answer : Option State) (new : State) → AnswerHas n answer → answer ≡ Some new
    → count_of new ≡ n
new_has n answer new h e = subst (AnswerHas n) e h
