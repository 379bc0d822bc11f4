-- Bounds on partial sums and totals.
use Rattle.std.proofs.Common.{◌≡◌, ℕ, zero, suc, ◌+◌, ◌-◌, ◌*◌, ◌/◌, ◌<◌, ◌≤◌, ℤ, pos, negsuc, ◌*ℤ◌, Bool, true, false, ◌||◌, if◌then◌else◌, List, ⊎_elim, refl, sym, ap, subst, ◌∙◌, arith}
use Rattle.std.specs.Prelude.{◌+ℤ◌, ◌-ℤ◌, ◌≤ℤ◌, unsigned_abs}
use Rattle.std.proofs.lemmas.Int.{ints}
use Rattle.std.proofs.Math.Nat.{mul-le-mul_left, div-mul-le_self, lt-div-mul-add}
use Rattle.std.proofs.Math.IntN.{*ℤ-zero}
use Rattle.peano_keys.specs.declared.dim.Dim.{Dim}
use Rattle.peano_keys.specs.declared.cell.CellKey.{CellKey}
use Rattle.peano_keys.specs.Dim.{children}
use Rattle.peano_keys.specs.Cell.{child_of}
use Rattle.peano_keys.specs.Grid.{Spacetree, is_refined}
use Rattle.spacetree.specs.Leaves.{is_among}
use Rattle.peano_keys.specs.Sums.{over_first, weight}
use Rattle.mean_values.specs.NextSums.{handed_up, next_sum}
use Rattle.cell_sums.specs.Bounds.{LiesBetween, WeighsBetween}
use Rattle.cell_sums.proofs.Sums.{weight_up, first_same}
use Rattle.cell_sums.proofs.SumLaws.{times_suc}
use Rattle.mean_values.proofs.NextSums.{handed_plain}
use Rattle.cell_sums.proofs.Bounds.{product_rises, weighed, one_up}
use Rattle.mean_values.proofs.Bounds.{handed_between, next_sums_are_between}
use Rattle.tree_sums.specs.Trees.{owned_by, shared_by}
use Rattle.tree_sums.specs.Partials.{alone, partial_sum, correction, AreTreesOver}
use Rattle.tree_sums.specs.Bounds.{PartialsAreBetween, FirstPartialsAreBetween, CorrectedAreBetween, CorrectionIsSmall, SomeChildrenAreBetween}
use Rattle.tree_sums.proofs.Trees.{cuts_are_trees}
use Rattle.tree_sums.proofs.Partials.{partial_plain, partial_refined, over_swap, first_or_none, local_is, handed_if, and_second}
use Rattle.tree_sums.proofs.Totals.{corrected_is}

-- 0 weighs between bounds round it
none_between : (lo hi : ℤ) (w : ℕ) → lo ≤ℤ pos 0 → pos 0 ≤ℤ hi → WeighsBetween lo hi w (pos 0)
none_between lo hi w l h = subst (WeighsBetween lo hi w) (ap pos (let e : 0 * w ≡ 0 = omega arith in e)) (weighed lo hi (pos 0) w (record { low = l; high = h }))

or_none_between : (lo hi z : ℤ) (w : ℕ) (b : Bool) → lo ≤ℤ pos 0 → pos 0 ≤ℤ hi → WeighsBetween lo hi w z → WeighsBetween lo hi w (if b then z else pos 0)
or_none_between lo hi z w true l h b = b
or_none_between lo hi z w false l h b = none_between lo hi w l h

partial_between : (t : Spacetree) (merging shared owned : CellKey → Bool) (now : CellKey → ℤ) (lo hi : ℤ) → lo ≤ℤ pos 0 → pos 0 ≤ℤ hi → ((c : CellKey) → LiesBetween lo hi (now c)) → (n : ℕ) (c : CellKey) → WeighsBetween lo hi (weight t.dim n) (partial_sum t merging shared owned now n c)
partial_between t merging shared owned now lo hi l h b zero c = or_none_between lo hi (now c *ℤ pos (weight t.dim zero)) (weight t.dim zero) (owned c) l h (weighed lo hi (now c) (weight t.dim zero) (b c))
partial_between t merging shared owned now lo hi l h b (suc n) c = elim (is_refined t c) as (λ r. is_refined t c ≡ r → WeighsBetween lo hi (weight t.dim (suc n)) (partial_sum t merging shared owned now (suc n) c)) [
  | true ↦ λ e. subst (WeighsBetween lo hi (weight t.dim (suc n))) (sym (partial_refined t merging shared owned now n c e)) (one_up t.dim lo hi n _ (λ k d. handed_between t.dim (alone merging shared) lo hi n (child_of c k) _ (partial_between t merging shared owned now lo hi l h b n (child_of c k))))
  | false ↦ λ e. subst (WeighsBetween lo hi (weight t.dim (suc n))) (sym (partial_plain t merging shared owned now (suc n) c e)) (or_none_between lo hi (now c *ℤ pos (weight t.dim (suc n))) (weight t.dim (suc n)) (owned c) l h (weighed lo hi (now c) (weight t.dim (suc n)) (b c)))
] refl

module _ (t : Spacetree) (merging shared : CellKey → Bool) (trees : ℕ) (owned : ℕ → CellKey → Bool) (now : CellKey → ℤ) (lo hi : ℤ) (are : AreTreesOver t trees owned shared) (l : lo ≤ℤ pos 0) (h : pos 0 ≤ℤ hi) (b : (c : CellKey) → LiesBetween lo hi (now c)) (some : ℕ) where
  abbrev lone : CellKey → Bool
  lone = alone merging shared

  -- what at most one tree has
  at_most_one : (c : CellKey) (z : ℤ) (w : ℕ) → WeighsBetween lo hi w z → WeighsBetween lo hi w (over_first some (λ s. if owned s c then z else pos 0))
  at_most_one c z w p = ⊎_elim (λ e. subst (WeighsBetween lo hi w) (sym e) p) (λ e. subst (WeighsBetween lo hi w) (sym e) (none_between lo hi w l h)) (first_or_none some (λ s. owned s c) z (λ s r x y. are.one c s r x y))

  one_child : (n : ℕ) (q : CellKey) → WeighsBetween lo hi (weight t.dim n) (over_first some (λ s. partial_sum t merging shared (owned s) now n q)) → WeighsBetween lo hi (weight t.dim n) (over_first some (λ s. handed_up t.dim lone n q (partial_sum t merging shared (owned s) now n q)))
  one_child n q p = elim (lone q) as (λ m. lone q ≡ m → WeighsBetween lo hi (weight t.dim n) (over_first some (λ s. handed_up t.dim lone n q (partial_sum t merging shared (owned s) now n q)))) [
    | true ↦ λ e. subst (WeighsBetween lo hi (weight t.dim n))
        (sym (first_same some _ _ (λ s. ap (handed_up t.dim lone n q) (local_is t merging shared trees owned now are s n q (and_second (merging q) (shared q) e)) ∙ handed_if t.dim lone n q (owned s q) (next_sum t lone now n q))))
        (at_most_one q (handed_up t.dim lone n q (next_sum t lone now n q)) (weight t.dim n) (handed_between t.dim lone lo hi n q (next_sum t lone now n q) (next_sums_are_between t lone now lo hi b n q)))
    | false ↦ λ e. subst (WeighsBetween lo hi (weight t.dim n)) (sym (first_same some _ _ (λ s. handed_plain t.dim lone n q (partial_sum t merging shared (owned s) now n q) e))) p
  ] refl

  prefix_between : (n : ℕ) (c : CellKey) → WeighsBetween lo hi (weight t.dim n) (over_first some (λ s. partial_sum t merging shared (owned s) now n c))
  prefix_between zero c = at_most_one c (now c *ℤ pos (weight t.dim zero)) (weight t.dim zero) (weighed lo hi (now c) (weight t.dim zero) (b c))
  prefix_between (suc n) c = elim (is_refined t c) as (λ r. is_refined t c ≡ r → WeighsBetween lo hi (weight t.dim (suc n)) (over_first some (λ s. partial_sum t merging shared (owned s) now (suc n) c))) [
    | true ↦ λ e. subst (WeighsBetween lo hi (weight t.dim (suc n)))
        (sym (first_same some _ _ (λ s. partial_refined t merging shared (owned s) now n c e) ∙ over_swap t.dim some (λ s k. handed_up t.dim lone n (child_of c k) (partial_sum t merging shared (owned s) now n (child_of c k)))))
        (one_up t.dim lo hi n _ (λ k d. one_child n (child_of c k) (prefix_between n (child_of c k))))
    | false ↦ λ e. subst (WeighsBetween lo hi (weight t.dim (suc n)))
        (sym (first_same some _ _ (λ s. partial_plain t merging shared (owned s) now (suc n) c e)))
        (at_most_one c (now c *ℤ pos (weight t.dim (suc n))) (weight t.dim (suc n)) (weighed lo hi (now c) (weight t.dim (suc n)) (b c)))
  ] refl

pub partials_are_between : PartialsAreBetween
partials_are_between t merging shared owned now lo hi b levels c = partial_between t merging shared owned now lo hi b.low b.high b.each levels c

pub first_partials_are_between : FirstPartialsAreBetween
first_partials_are_between k g merging now lo hi fits b some c = prefix_between g merging (shared_by k) k.trees (owned_by k) now lo hi (cuts_are_trees k g fits) b.low b.high b.each some (k.depth - c.level) c

pub corrected_are_between : CorrectedAreBetween
corrected_are_between k g marks merging now some lo hi fits tells once pass each c cell there =
    let test : CellKey → Bool = λ q. alone merging (shared_by k) q || is_among some q in
    subst (WeighsBetween lo hi (weight g.dim (k.depth - c.level))) (sym (corrected_is k g marks merging now some fits tells once pass c cell there)) (next_sums_are_between g test now lo hi each (k.depth - c.level) c)

pub correction_is_small : CorrectionIsSmall
correction_is_small (pos a) w h = (let low = div-mul-le_self a w in let high = lt-div-mul-add {a = a} {b = w} h in (omega (arith, ints, low), omega (arith, ints, low, high)))
correction_is_small (negsuc a) w h =
    let low = div-mul-le_self a w in
    let high = lt-div-mul-add {a = a} {b = w} h in
    let row : suc (a / w) * w ≡ a / w * w + w = omega arith in
    (omega (arith, ints, low, high, row), omega (arith, ints, low, high, row))

sum_low : (a b x y : ℤ) → a ≤ℤ x → b ≤ℤ y → (b +ℤ a) ≤ℤ (x +ℤ y)
sum_low a b x y p q = omega (arith, ints)

sum_high : (a b x y : ℤ) → x ≤ℤ a → y ≤ℤ b → (x +ℤ y) ≤ℤ (b +ℤ a)
sum_high a b x y p q = omega (arith, ints)

-- some of so many numbers between bounds
some_between : (a b : ℤ) (some : ℕ) (f : ℕ → ℤ) → ((i : ℕ) → LiesBetween a b (f i)) → LiesBetween (a *ℤ pos some) (b *ℤ pos some) (over_first some f)
some_between a b zero f h = record {
  low = subst (λ z. z ≤ℤ pos 0) (sym (*ℤ-zero a)) (omega (arith, ints));
  high = subst (λ z. pos 0 ≤ℤ z) (sym (*ℤ-zero b)) (omega (arith, ints));
}
some_between a b (suc n) f h = (let r = some_between a b n f h in let q = h n in record {
  low = subst (λ z. z ≤ℤ (f n +ℤ over_first n f)) (sym (times_suc a n)) (sum_low a (a *ℤ pos n) (f n) (over_first n f) q.low r.low);
  high = subst (λ z. (f n +ℤ over_first n f) ≤ℤ z) (sym (times_suc b n)) (sum_high b (b *ℤ pos n) (f n) (over_first n f) q.high r.high);
})

more_of_negative : (z : ℤ) (m n : ℕ) → z ≤ℤ pos 0 → m ≤ n → (z *ℤ pos n) ≤ℤ (z *ℤ pos m)
more_of_negative (pos a) m n z h = (let e : a ≡ 0 = omega (arith, ints, z) in subst (λ b. (pos b *ℤ pos n) ≤ℤ (pos b *ℤ pos m)) (sym e) (omega (arith, ints)))
more_of_negative (negsuc a) m n z h = (let r : suc a * m ≤ suc a * n = mul-le-mul_left (suc a) h in omega (arith, ints, r))

more_of_positive : (z : ℤ) (m n : ℕ) → pos 0 ≤ℤ z → m ≤ n → (z *ℤ pos m) ≤ℤ (z *ℤ pos n)
more_of_positive (pos a) m n z h = (let r : a * m ≤ a * n = mul-le-mul_left a h in omega (arith, ints, r))
more_of_positive (negsuc a) m n z h = absurd (omega (arith, ints, z))

le_chain : (a b c : ℤ) → a ≤ℤ b → b ≤ℤ c → a ≤ℤ c
le_chain a b c p q = omega (arith, ints)

pub some_children_are_between : SomeChildrenAreBetween
some_children_are_between dim lo hi n some f l h few each =
    let a : ℤ = lo *ℤ pos (weight dim n) in
    let b : ℤ = hi *ℤ pos (weight dim n) in
    let none : pos 0 *ℤ pos (weight dim n) ≡ pos 0 = ap pos (omega arith) in
    let below : a ≤ℤ pos 0 = subst (λ z. a ≤ℤ z) none (product_rises lo (pos 0) (weight dim n) l) in
    let above : pos 0 ≤ℤ b = subst (λ z. z ≤ℤ b) none (product_rises (pos 0) hi (weight dim n) h) in
    let r = some_between a b some f each in
    record {
      low = subst (λ z. z ≤ℤ over_first some f) (weight_up dim lo n) (le_chain (a *ℤ pos (children dim)) (a *ℤ pos some) (over_first some f) (more_of_negative a some (children dim) below few) r.low);
      high = subst (λ z. over_first some f ≤ℤ z) (weight_up dim hi n) (le_chain (over_first some f) (b *ℤ pos some) (b *ℤ pos (children dim)) r.high (more_of_positive b some (children dim) above few));
    }
