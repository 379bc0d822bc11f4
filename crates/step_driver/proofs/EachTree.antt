-- What is so of each of a list, as the first is taken out and one is put at the end.
use Rattle.std.proofs.Common.{◌≡◌, ℕ, suc, ◌+◌, ◌<◌, List, [], ◌∷◌, ◌++◌, length, get_or, refl, sym, ap, subst, ◌∙◌, ⊎_elim, arith, length-append}
use Rattle.std.proofs.lemmas.Bool.{cases_lt}
use Rattle.std.proofs.Math.ListN.{get_or-append}
use Rattle.std.proofs.Math.Seq.{get_or-append_seam}
use Rattle.std.specs.List.{remove}

-- of each item and its place
abbrev pub Each : {A : Type 0} → (ℕ → A → Type 0) → List A → Type 0
Each P xs = (t : ℕ) (d : _) → t < length xs → P t (get_or xs t d)

pub none_yet : {A : Type 0} (P : ℕ → A → Type 0) (xs : List A) → length xs ≡ 0 → Each P xs
none_yet P xs none t d below = absurd (omega (arith, none, below))

-- one more at the end
pub each_last : {A : Type 0} (P : ℕ → A → Type 0) (xs : List A) (y : A) → Each P xs → P (length xs) y → Each P (xs ++ y ∷ [])
each_last P xs y each last t d below = ⊎_elim
    (λ before. subst (P t) (sym (get_or-append xs (y ∷ []) d t before)) (each t d before))
    (λ past.
    let here : t ≡ length xs = omega (arith, below, past, length-append xs (y ∷ [])) in
    subst (λ n. P n (get_or (xs ++ y ∷ []) n d)) (sym here) (subst (P (length xs)) (sym (get_or-append_seam xs y [] d)) last))
    (cases_lt t (length xs))

rest_is : {A : Type 0} (x : A) (xs : List A) → remove (x ∷ xs) 0 ≡ xs
rest_is x [] = refl
rest_is x (y ∷ ys) = refl

-- and without the first
pub each_rest : {A : Type 0} (P : ℕ → A → Type 0) (xs : List A) → 0 < length xs → Each P xs → Each (λ t x. P (suc t) x) (remove xs 0)
each_rest P [] some each = absurd (omega (arith, some))
each_rest P (x ∷ xs) some each = subst (Each (λ t y. P (suc t) y)) (sym (rest_is x xs)) (λ t d below. each (suc t) d (omega (arith, below)))

pub length_rest : {A : Type 0} (xs : List A) → 0 < length xs → length (remove xs 0) + 1 ≡ length xs
length_rest [] some = absurd (omega (arith, some))
length_rest (x ∷ xs) some = ap (λ (ys : List _). length ys + 1) (rest_is x xs) ∙ omega arith
