-- Lists that match, one by one.
use Rattle.std.proofs.Common.{◌≡◌, ℕ, ◌+◌, List, [], ◌∷◌, ◌++◌, length, ap, sym, ◌∙◌, arith, append-nil, length-append}
use Rattle.vertex_stacks.specs.Tales.{capped}
use Rattle.tree_automaton.specs.Story.{Matched}

module _ {A B : Type 0} (R : A → B → Type 0) where
  pub matched_last : (xs : List A) (x : A) (ys : List B) (y : B) → Matched R (xs ++ x ∷ []) (ys ++ y ∷ []) → Matched R xs ys × R x y
  matched_last [] x [] y h = (tt, h.0)
  matched_last [] x (z ∷ []) y h = absurd h.1
  matched_last [] x (z ∷ w ∷ ws) y h = absurd h.1
  matched_last (z ∷ []) x [] y h = absurd h.1
  matched_last (z ∷ w ∷ ws) x [] y h = absurd h.1
  matched_last (z ∷ xs) x (w ∷ ys) y h = let rest = matched_last xs x ys y h.1 in ((h.0, rest.0), rest.1)

  pub matched_more : (xs : List A) (x : A) (ys : List B) (y : B) → Matched R xs ys → R x y → Matched R (xs ++ x ∷ []) (ys ++ y ∷ [])
  matched_more [] x [] y h r = (r, tt)
  matched_more [] x (z ∷ ys) y h r = absurd h
  matched_more (z ∷ xs) x [] y h r = absurd h
  matched_more (z ∷ xs) x (w ∷ ys) y h r = (h.0, matched_more xs x ys y h.1 r)

  pub matched_none : (xs : List A) (x : A) → Matched R (xs ++ x ∷ []) [] → ⊥
  matched_none [] x h = h
  matched_none (z ∷ xs) x h = h

  pub matched_no_first : (x : A) (xs : List A) → Matched R (x ∷ xs) [] → ⊥
  matched_no_first x xs h = h

module _ {A B : Type 0} (R S : A → B → Type 0) (along : (a : A) (b : B) → R a b → S a b) where
  pub matched_along : (xs : List A) (ys : List B) → Matched R xs ys → Matched S xs ys
  matched_along [] [] h = tt
  matched_along [] (y ∷ ys) h = absurd h
  matched_along (x ∷ xs) [] h = absurd h
  matched_along (x ∷ xs) (y ∷ ys) h = (along x y h.0, matched_along xs ys h.1)

pub capped_more : (n : ℕ) → capped (capped n + 1) ≡ capped (n + 1)
capped_more n = omega arith

pub one_more : {A : Type 0} (n : ℕ) (xs : List A) (x : A) → n ≡ capped (length xs) → capped (n + 1) ≡ capped (length (xs ++ x ∷ []))
one_more n xs x e = let h : length (xs ++ x ∷ []) ≡ length xs + 1 = length-append xs (x ∷ []) in ap (λ i. capped (i + 1)) e ∙ (capped_more (length xs) ∙ ap capped (sym h))

pub none_more : {A : Type 0} (n : ℕ) (xs : List A) → n ≡ capped (length xs) → n ≡ capped (length (xs ++ []))
none_more n xs e = e ∙ ap (λ l. capped (length l)) (sym (append-nil xs))
