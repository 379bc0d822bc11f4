-- Items of lists and their places.
use Rattle.std.proofs.Common.{◌≡◌, ℕ, zero, suc, ◌<◌, List, [], ◌∷◌, length, get_or, refl, sym, arith, inl, inr}
use Rattle.stack_law.specs.Once.{IsIn}

-- what is in a list stands at a place
pub in_place : {A : Type 0} (d x : A) (xs : List A) → IsIn x xs → (i : ℕ) × (i < length xs) × (get_or xs i d ≡ x)
in_place d x [] h = absurd h
in_place d x (y ∷ ys) (inl e) = (0, omega arith, sym e)
in_place d x (y ∷ ys) (inr h) =
    let p = in_place d x ys h in
    (suc p.0, omega (arith, p.1), p.2)

-- and what stands at a place is in the list
pub place_in : {A : Type 0} (d : A) (xs : List A) (i : ℕ) → i < length xs → IsIn (get_or xs i d) xs
place_in d [] i h = absurd (omega (arith, h))
place_in d (x ∷ xs) zero h = inl refl
place_in d (x ∷ xs) (suc i) h = inr (place_in d xs i (omega (arith, h)))
