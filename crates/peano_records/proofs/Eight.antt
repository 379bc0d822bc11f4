-- A list of eight.
use Rattle.std.proofs.Common.{◌≡◌, List, [], ◌∷◌, length, get_or, refl, arith}

-- it is the list of its eight elements
pub eight_elements : {A : Type 0} (d : A) (xs : List A) → length xs ≡ 8 → get_or xs 0 d ∷ get_or xs 1 d ∷ get_or xs 2 d ∷ get_or xs 3 d ∷ get_or xs 4 d ∷ get_or xs 5 d ∷ get_or xs 6 d ∷ get_or xs 7 d ∷ [] ≡ xs
eight_elements d (a ∷ b ∷ c ∷ e ∷ f ∷ g ∷ h ∷ i ∷ []) n = refl
eight_elements d _ n = absurd (omega arith)
