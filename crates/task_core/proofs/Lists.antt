-- Lists read and written at a place.
use Rattle.std.proofs.Common.{◌≡◌, ℕ, zero, suc, ◌<◌, List, [], ◌∷◌, ◌++◌, length, map, set, refl, ap, subst, arith, Option, Some, None}
use Rattle.std.proofs.lemmas.Bool.{false≢true}
use Rattle.std.specs.Prelude.{slice_get, is_some}
use mathlib.Core.Logic.{dite}
use native.Mathlib.Decide.{ℕ_discrete}
use Rattle.task_core.specs.Opening.{Each}

value_or : {X : Type 0} → X → Option X → X
value_or d None = d
value_or d (Some x) = x

pub some_is : {X : Type 0} (a b : X) → Some a ≡ Some b → a ≡ b
unfolding value_or
some_is a b e = ap (value_or a) e

pub none_is : {X : Type 0} (a : X) → None ≡ Some a → ⊥
none_is a e = false≢true (ap is_some e)

module _ {X : Type 0} where
  pub get_here : (xs : List X) (i : ℕ) (old new : X) → slice_get xs i ≡ Some old → slice_get (set xs i new) i ≡ Some new
  get_here [] i old new e = absurd (none_is old e)
  get_here (x ∷ xs) zero old new e = refl
  get_here (x ∷ xs) (suc i) old new e = get_here xs i old new e

  pub get_else : (xs : List X) (i j : ℕ) (new : X) → (j ≡ i → ⊥) → slice_get (set xs i new) j ≡ slice_get xs j
  get_else [] i j new not = refl
  get_else (x ∷ xs) zero zero new not = absurd (not refl)
  get_else (x ∷ xs) zero (suc j) new not = refl
  get_else (x ∷ xs) (suc i) zero new not = refl
  get_else (x ∷ xs) (suc i) (suc j) new not = get_else xs i j new (λ e. not (ap suc e))

  pub get_append : (xs ys : List X) (k : ℕ) (x : X) → slice_get xs k ≡ Some x → slice_get (xs ++ ys) k ≡ Some x
  get_append [] ys k x e = absurd (none_is x e)
  get_append (y ∷ xs) ys zero x e = e
  get_append (y ∷ xs) ys (suc k) x e = get_append xs ys k x e

  pub below : (xs : List X) (i : ℕ) (x : X) → slice_get xs i ≡ Some x → i < length xs
  below [] i x e = absurd (none_is x e)
  below (y ∷ xs) zero x e = omega arith
  below (y ∷ xs) (suc i) x e = let b = below xs i x e in omega arith

  pub each_set : (P : X → Type 0) (xs : List X) (i : ℕ) (new : X) → Each P xs → P new → Each P (set xs i new)
  each_set P [] i new all this j y e = absurd (none_is y e)
  each_set P (x ∷ xs) zero new all this zero y e = subst P (some_is new y e) this
  each_set P (x ∷ xs) zero new all this (suc j) y e = all (suc j) y e
  each_set P (x ∷ xs) (suc i) new all this zero y e = all zero y e
  each_set P (x ∷ xs) (suc i) new all this (suc j) y e = each_set P xs i new (λ k z d. all (suc k) z d) this j y e

  pub each_append : (P : X → Type 0) (xs : List X) (new : X) → Each P xs → P new → Each P (xs ++ new ∷ [])
  each_append P [] new all this zero y e = subst P (some_is new y e) this
  each_append P [] new all this (suc j) y e = absurd (none_is y e)
  each_append P (x ∷ xs) new all this zero y e = all zero y e
  each_append P (x ∷ xs) new all this (suc j) y e = each_append P xs new (λ k z d. all (suc k) z d) this j y e

  pub each_map : {Y : Type 0} (P : Y → Type 0) (f : X → Y) (xs : List X) → Each (λ x. P (f x)) xs → Each P (map f xs)
  each_map P f [] all j y e = absurd (none_is y e)
  each_map P f (x ∷ xs) all zero y e = subst P (some_is (f x) y e) (all zero x refl)
  each_map P f (x ∷ xs) all (suc j) y e = each_map P f xs (λ k z d. all (suc k) z d) j y e

  pub get_map : {Y : Type 0} (f : X → Y) (xs : List X) (i : ℕ) (x : X) → slice_get xs i ≡ Some x → slice_get (map f xs) i ≡ Some (f x)
  get_map f [] i x e = absurd (none_is x e)
  get_map f (y ∷ xs) zero x e = ap (λ z. Some (f z)) (some_is y x e)
  get_map f (y ∷ xs) (suc i) x e = get_map f xs i x e

-- what holds of one place and of every other one
pub by_place : {P : Type 0} (i j : ℕ) → (j ≡ i → P) → ((j ≡ i → ⊥) → P) → P
by_place i j here other = dite (ℕ_discrete j i) here other
