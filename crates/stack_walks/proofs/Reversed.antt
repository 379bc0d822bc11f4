-- Items of a list that is read from its end.
use Rattle.std.proofs.Common.{Bool, List, [], ◌∷◌, reverse, refl, sym, subst, inl, inr, ⊎_elim}
use mathlib.Core.List.{reverse-cons}
use Rattle.stack_law.specs.Moments.{TellsApart}
use Rattle.stack_law.specs.Once.{IsIn}
use Rattle.stack_law.specs.Stack.{AreDistinct}
use Rattle.stack_law.proofs.Chains.{in_left, in_right}
use Rattle.stack_law.proofs.Distinct.{in_either, not_in, distinct_append}

pub in_reverse : {V : Type 0} (x : V) (xs : List V) → IsIn x (reverse xs) → IsIn x xs
in_reverse x [] k = k
in_reverse x (y ∷ ys) k = ⊎_elim (λ a. inr (in_reverse x ys a)) (λ a. ⊎_elim (λ e. inl e) (λ n. absurd n) a) (in_either x (reverse ys) (y ∷ []) (subst (IsIn x) (reverse-cons y ys) k))

pub to_reverse : {V : Type 0} (x : V) (xs : List V) → IsIn x xs → IsIn x (reverse xs)
to_reverse x [] k = k
to_reverse x (y ∷ ys) (inl e) = subst (IsIn x) (sym (reverse-cons y ys)) (in_right (λ z. 0) x (reverse ys) (y ∷ []) (inl e))
to_reverse x (y ∷ ys) (inr k) = subst (IsIn x) (sym (reverse-cons y ys)) (in_left (λ z. 0) x (reverse ys) (y ∷ []) (to_reverse x ys k))

pub distinct_reverse : {V : Type 0} (same : V → V → Bool) (decides : TellsApart V same) (xs : List V) → AreDistinct same xs → AreDistinct same (reverse xs)
distinct_reverse same decides [] d = tt
distinct_reverse {V} same decides (x ∷ xs) d =
    subst (AreDistinct same) (sym (reverse-cons x xs))
    (distinct_append V same decides.reflexive decides.exact (reverse xs) (x ∷ []) (distinct_reverse same decides xs d.1) (refl, tt) (λ y a b. ⊎_elim (λ e. not_in V same decides.reflexive decides.exact x xs d.0 (subst (λ z. IsIn z xs) e (in_reverse y xs a))) (λ n. n) b))
