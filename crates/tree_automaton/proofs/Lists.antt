-- Lists read from their ends, and items of lists.
use Rattle.std.proofs.Common.{◌≡◌, ◌+◌, Bool, true, false, List, [], ◌∷◌, ◌++◌, map, refl, ap, ap₂, sym, ◌∙◌, arith, inl, inr}
use Rattle.std.specs.Prelude.{reverse, count_by, cond, if◌then◌else◌}
use Rattle.std.proofs.lemmas.List.{map-append}
use mathlib.Core.List.{reverse-cons}
use Rattle.stack_law.specs.Once.{IsIn}
use Rattle.sweep_streams.proofs.Lists.{sum-cons}
use Rattle.tree_automaton.specs.Story.{Matched}
use Rattle.tree_automaton.proofs.Gives.{count_last}

pub map-reverse : {A B : Type 0} (f : A → B) (xs : List A) → map f (reverse xs) ≡ reverse (map f xs)
map-reverse f [] = refl
map-reverse f (x ∷ xs) = ap (map f) (reverse-cons x xs) ∙ (map-append f (reverse xs) (x ∷ []) ∙ (ap (λ l. l ++ f x ∷ []) (map-reverse f xs) ∙ sym (reverse-cons (f x) (map f xs))))

pub count-reverse : {A : Type 0} (f : A → Bool) (xs : List A) → count_by f (reverse xs) ≡ count_by f xs
count-reverse f [] = refl
count-reverse f (x ∷ xs) = ap (count_by f) (reverse-cons x xs) ∙ (count_last f (reverse xs) x ∙ (by (count-reverse f xs) (f x) ∙ sym (sum-cons (λ y. cond (f y) 1 0) x xs)))
  where
    by : count_by f (reverse xs) ≡ count_by f xs → (b : Bool) → (if b then count_by f (reverse xs) + 1 else count_by f (reverse xs)) ≡ cond b 1 0 + count_by f xs
    by h true = omega (arith, h)
    by h false = omega (arith, h)

-- lists that match by keys have these keys
pub matched_keys : {A K : Type 0} (key : A → K) (R : K → A → Type 0) → ((k : K) (x : A) → R k x → key x ≡ k) → (ks : List K) (xs : List A) → Matched R ks xs → map key xs ≡ ks
matched_keys key R told [] [] h = refl
matched_keys key R told [] (x ∷ xs) h = absurd h
matched_keys key R told (k ∷ ks) [] h = absurd h
matched_keys key R told (k ∷ ks) (x ∷ xs) h = ap₂ (λ y ys. y ∷ ys) (told k x h.0) (matched_keys key R told ks xs h.1)

-- two functions that agree on a list's items
pub map_in : {A B : Type 0} (f g : A → B) (xs : List A) → ((x : A) → IsIn x xs → f x ≡ g x) → map f xs ≡ map g xs
map_in f g [] same = refl
map_in f g (x ∷ xs) same = ap₂ (λ y ys. y ∷ ys) (same x (inl refl)) (map_in f g xs (λ y h. same y (inr h)))

-- a list with no items
pub no_items : {A : Type 0} (xs : List A) → ((x : A) → IsIn x xs → ⊥) → xs ≡ []
no_items [] none = refl
no_items (x ∷ xs) none = absurd (none x (inl refl))
