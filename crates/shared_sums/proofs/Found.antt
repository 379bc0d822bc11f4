-- What is found in a list by a test.
use Rattle.std.proofs.Common.{◌≡◌, ℕ, zero, suc, ◌+◌, ◌<◌, ⊎_elim, Bool, true, false, cond, List, [], ◌∷◌, ◌++◌, Option, Some, None, length, get_or, refl, sym, ap, subst, ◌∙◌, arith}
use Rattle.std.specs.Prelude.{All, IsSome}
use Rattle.std.specs.List.{find}
use Rattle.std.specs.Option.{option_or}
use Rattle.std.proofs.lemmas.Bool.{false≢true, cases_eq}
use Rattle.std.proofs.lemmas.List.Folds.{find-append}

-- the value that is there
pub some_of : {A : Type 0} (o : Option A) → IsSome o → (v : A) × (o ≡ Some v)
some_of None h = absurd (false≢true h)
some_of (Some v) h = (v, refl)

first_is : {A : Type 0} (f : A → Bool) (x : A) (rest : Option A) (b : Bool) (p : A) → f x ≡ b → cond b (Some x) rest ≡ Some p → (rest ≡ Some p → f p ≡ true) → f p ≡ true
first_is f x rest true p t e g = (let same : x ≡ p = cc in subst (λ y. f y ≡ true) same t)
first_is f x rest false p t e g = g e

-- it passes the test
pub found_passes : {A : Type 0} (f : A → Bool) (xs : List A) (p : A) → find f xs ≡ Some p → f p ≡ true
found_passes f [] p e = absurd (cc)
found_passes f (x ∷ xs) p e = first_is f x (find f xs) (f x) p refl e (found_passes f xs p)

some_first : {A : Type 0} (b : Bool) (x : A) (rest : Option A) → IsSome rest → IsSome (cond b (Some x) rest)
some_first true x rest h = refl
some_first false x rest h = h

-- what passes is found, or one before it
pub finds : {A : Type 0} (f : A → Bool) (xs : List A) (i : ℕ) (d : A) → i < length xs → f (get_or xs i d) ≡ true → IsSome (find f xs)
finds f [] i d below h = absurd (omega (arith, below))
finds f (x ∷ xs) zero d below h = rw h refl
finds f (x ∷ xs) (suc i) d below h = some_first (f x) x (find f xs) (finds f xs i d (omega (arith, below)) h)

or_some : {A : Type 0} (o p : Option A) → IsSome o → IsSome (option_or o p)
or_some None p h = absurd (false≢true h)
or_some (Some x) p h = refl

or_other : {A : Type 0} (o p : Option A) → IsSome p → IsSome (option_or o p)
or_other None p h = h
or_other (Some x) p h = refl

-- what a list has, a longer list has
pub finds_still : {A : Type 0} (f : A → Bool) (xs ys : List A) → IsSome (find f xs) → IsSome (find f (xs ++ ys))
finds_still f xs ys h = rw find-append (or_some (find f xs) (find f ys) h)

pub finds_last : {A : Type 0} (f : A → Bool) (xs : List A) (y : A) → f y ≡ true → IsSome (find f (xs ++ y ∷ []))
finds_last f xs y h = rw find-append (or_other (find f xs) (find f (y ∷ [])) (rw h refl))

-- one item more
pub all_push : {A : Type 0} (P : A → Type 0) (xs : List A) (y : A) → All P xs → P y → All P (xs ++ y ∷ [])
all_push P [] y h p zero d below = p
all_push P [] y h p (suc i) d below = absurd (omega (arith, below))
all_push P (x ∷ xs) y h p zero d below = h 0 d (omega arith)
all_push P (x ∷ xs) y h p (suc i) d below = all_push P xs y (λ j e inside. h (suc j) e (omega (arith, inside))) p i d (omega (arith, below))

-- what stands at a place, whatever is told where nothing stands
pub any_default : {A : Type 0} (xs : List A) (i : ℕ) (d e : A) → i < length xs → get_or xs i d ≡ get_or xs i e
any_default [] i d e h = absurd (omega (arith, h))
any_default (x ∷ xs) zero d e h = refl
any_default (x ∷ xs) (suc i) d e h = any_default xs i d e (omega (arith, h))

-- what holds of the first items and of the next one
pub all_more : {A : Type 0} (P : A → Type 0) (xs : List A) (n : ℕ) (d : A) → n < length xs → ((j : ℕ) (e : A) → j < n → P (get_or xs j e)) → P (get_or xs n d) → (j : ℕ) (e : A) → j < n + 1 → P (get_or xs j e)
all_more P xs n d below h p j e inside = ⊎_elim
    (λ same. subst P (any_default xs n d e below ∙ ap (λ i. get_or xs i e) (sym same)) p)
    (λ apart. h j e (omega (arith, inside, apart)))
    (cases_eq j n)
