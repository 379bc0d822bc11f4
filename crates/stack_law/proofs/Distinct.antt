-- Distinct lists, and where their items are.
use Rattle.std.proofs.Common.{◌≡◌, Bool, true, false, ◌||◌, List, [], ◌∷◌, ◌++◌, refl, ⊎_elim, inl, inr, ◌⊎◌}
use Rattle.stack_law.specs.Once.{IsIn}
use Rattle.stack_law.specs.Stack.{among, AreDistinct}

-- where an item is
pub in_either : {V : Type 0} (x : V) (xs ys : List V) → IsIn x (xs ++ ys) → IsIn x xs ⊎ IsIn x ys
in_either x [] ys h = inr h
in_either x (z ∷ xs) ys (inl e) = inl (inl e)
in_either x (z ∷ xs) ys (inr h) = ⊎_elim (λ k. inl (inr k)) (λ k. inr k) (in_either x xs ys h)

-- distinct lists
module _ (A : Type 0) (same : A → A → Bool) (same_self : (x : A) → same x x ≡ true) (exact : (x y : A) → same x y ≡ true → x ≡ y) where
  pub among_is_in : (x : A) (ys : List A) → among same x ys ≡ true → IsIn x ys
  among_is_in x [] h = absurd (cc)
  among_is_in x (y ∷ ys) h = go (same x y) refl (among_is_in x ys) h
    where
      go : (b : Bool) → same x y ≡ b → (among same x ys ≡ true → IsIn x ys) → (b || among same x ys) ≡ true → (x ≡ y) ⊎ IsIn x ys
      go true e f h = inl (exact x y e)
      go false e f h = inr (f h)

  is_in_among : (x : A) (ys : List A) → IsIn x ys → among same x ys ≡ true
  is_in_among x [] h = absurd h
  is_in_among x (y ∷ ys) (inl e) = rw (← e, same_self x) refl
  is_in_among x (y ∷ ys) (inr h) = rw (is_in_among x ys h) (or_yes (same x y))
    where
      or_yes : (b : Bool) → (b || true) ≡ true
      or_yes true = refl
      or_yes false = refl

  pub apart_from : (x : A) (ys : List A) → (IsIn x ys → ⊥) → among same x ys ≡ false
  apart_from x ys f = go (among same x ys) refl
    where
      go : (b : Bool) → among same x ys ≡ b → b ≡ false
      go true e = absurd (f (among_is_in x ys e))
      go false e = refl

  pub not_in : (x : A) (ys : List A) → among same x ys ≡ false → IsIn x ys → ⊥
  not_in x ys e h = (let f = is_in_among x ys h in cc)

  pub distinct_append : (xs ys : List A) → AreDistinct same xs → AreDistinct same ys → ((x : A) → IsIn x xs → IsIn x ys → ⊥) → AreDistinct same (xs ++ ys)
  distinct_append [] ys d e f = e
  distinct_append (x ∷ xs) ys d e f = (apart_from x (xs ++ ys) (λ h. ⊎_elim (not_in x xs d.0) (f x (inl refl)) (in_either x xs ys h)), distinct_append xs ys d.1 e (λ z h k. f z (inr h) k))
