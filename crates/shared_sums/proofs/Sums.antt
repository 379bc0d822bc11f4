-- Sums over lists, item by item, and bounds on them.
use Rattle.std.proofs.Common.{◌≡◌, ℕ, zero, suc, ◌+◌, ◌-◌, ◌<◌, ◌≤◌, Bool, true, false, cond, List, [], ◌∷◌, ◌++◌, Option, Some, drop, length, get_or, refl, sym, ap, subst, ◌∙◌, arith, add-one, drop-cons}
use Rattle.std.specs.Prelude.{ℤ, pos, ◌+ℤ◌, All}
use Rattle.std.specs.List.{find}
use Rattle.std.proofs.lemmas.Int.{ints}
use Rattle.peano_keys.specs.declared.cell.CellKey.{CellKey}
use Rattle.peano_keys.specs.declared.dim.Dim.{Dim}
use Rattle.peano_curve.proofs.Ranks.{children_pow_12}
use Rattle.peano_records.specs.declared.partials.Partial.{Partial}
use Rattle.peano_keys.specs.Sums.{cell_weight}
use Rattle.mean_values.specs.Lists.{list_sum}
use Rattle.shared_sums.specs.Totals.{sum_in, total_in, merging_of, merging_in, added_of, IsPartial, ArePartials}
use Rattle.shared_sums.specs.Records.{number_in}
use Rattle.shared_sums.specs.Bounds.{HasSmallSums, HaveSmallSums}

first_or : {A : Type 0} (P : A → Type 0) (b : Bool) (x : A) (rest : Option A) (p : A) → cond b (Some x) rest ≡ Some p → P x → (rest ≡ Some p → P p) → P p
first_or P true x rest p e h f = (let same : x ≡ p = cc in subst P same h)
first_or P false x rest p e h f = f e

-- what is found is one of the list
pub found : {A : Type 0} (P : A → Type 0) (f : A → Bool) (xs : List A) (p : A) → find f xs ≡ Some p → All P xs → P p
found P f [] p e h = absurd (cc)
found P f (x ∷ xs) p e h = first_or P (f x) x (find f xs) p e (h 0 x (omega arith)) (λ later. found P f xs p later (λ i d below. h (suc i) d (omega (arith, below))))

add_assoc : (a b c : ℤ) → a +ℤ (b +ℤ c) ≡ (a +ℤ b) +ℤ c
add_assoc a b c = omega (arith, ints)

pub add_none : (a : ℤ) → a +ℤ pos 0 ≡ a
add_none a = omega (arith, ints)

none_add : (a : ℤ) → pos 0 +ℤ a ≡ a
none_add a = omega (arith, ints)

pub sum_append : (f : CellKey → ℤ) (xs ys : List CellKey) → list_sum f (xs ++ ys) ≡ list_sum f xs +ℤ list_sum f ys
sum_append f [] ys = sym (none_add (list_sum f ys))
sum_append f (x ∷ xs) ys = ap (λ s. f x +ℤ s) (sum_append f xs ys) ∙ add_assoc (f x) (list_sum f xs) (list_sum f ys)

-- from a place on: the item there, and those behind it
pub total_from : (all : List (List Partial)) (i : ℕ) (c : CellKey) (n : ℕ) (d : List Partial) → n < length all → total_in (drop n all) i c ≡ sum_in c i (get_or all n d) +ℤ total_in (drop (n + 1) all) i c
total_from all i c n d h = rw (add-one, drop-cons all n d h) refl

merging_more : (f : CellKey → ℤ) (p : Partial) (ps : List Partial) → list_sum f (merging_of (p ∷ ps)) ≡ added_of f p +ℤ list_sum f (merging_of ps)
merging_more f p ps = by p.merges refl
  where
    by : (b : Bool) → p.merges ≡ b → list_sum f (merging_of (p ∷ ps)) ≡ added_of f p +ℤ list_sum f (merging_of ps)
    by true e = rw e refl
    by false e = rw e (sym (none_add (list_sum f (merging_of ps))))

pub merging_from : (f : CellKey → ℤ) (ps : List Partial) (n : ℕ) (d : Partial) → n < length ps → list_sum f (merging_of (drop n ps)) ≡ added_of f (get_or ps n d) +ℤ list_sum f (merging_of (drop (n + 1) ps))
merging_from f ps n d h = rw (add-one, drop-cons ps n d h) (merging_more f (get_or ps n d) (drop (suc n) ps))

pub all_merging_from : (f : CellKey → ℤ) (all : List (List Partial)) (n : ℕ) (d : List Partial) → n < length all → list_sum f (merging_in (drop n all)) ≡ list_sum f (merging_of (get_or all n d)) +ℤ list_sum f (merging_in (drop (n + 1) all))
all_merging_from f all n d h = rw (add-one, drop-cons all n d h) (sum_append f (merging_of (get_or all n d)) (merging_in (drop (suc n) all)))

-- one more term of a sum
pub one_more : (sum term more rest rest_after whole : ℤ) → sum +ℤ rest ≡ whole → rest ≡ term +ℤ rest_after → more ≡ sum +ℤ term → more +ℤ rest_after ≡ whole
one_more sum term more rest rest_after whole e f g = omega (arith, ints)

-- partials down to a depth have small sums
small_one : (depth : ℕ) (dim : Dim) (p : Partial) → depth ≤ 12 → IsPartial depth dim p → HasSmallSums p
small_one depth dim p deepest h i below =
    let w : cell_weight depth dim p.key ≤ 150094635296999121 = children_pow_12 dim (depth - p.key.level) (omega (arith, deepest)) in
    let s = h.sums i below in
    omega (arith, s, w)

pub small_sums : (depth : ℕ) (dim : Dim) (all : List (List Partial)) → depth ≤ 12 → ArePartials depth dim all → HaveSmallSums all
small_sums depth dim all deepest h n d inside m p below = small_one depth dim (get_or (get_or all n d) m p) deepest (h n d inside m p below)

-- four numbers, each by its place
pub four : (f : ℕ → ℤ) (a b c d : ℤ) → a ≡ f 0 → b ≡ f 1 → c ≡ f 2 → d ≡ f 3 → (i : ℕ) → i < 4 → number_in (a ∷ b ∷ c ∷ d ∷ []) i ≡ f i
four f a b c d p q r s zero h = p
four f a b c d p q r s (suc zero) h = q
four f a b c d p q r s (suc (suc zero)) h = r
four f a b c d p q r s (suc (suc (suc zero))) h = s
four f a b c d p q r s (suc (suc (suc (suc i)))) h = absurd (omega (arith, h))
