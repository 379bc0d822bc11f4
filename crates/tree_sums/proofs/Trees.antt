-- Owners and shared cells by tests.
use Rattle.std.proofs.Common.{◌≡◌, ◌⊎◌, ◌↔◌, inl, inr, ⊎_elim, ℕ, zero, suc, ◌+◌, ◌-◌, ◌*◌, ◌/◌, ◌^◌, ◌<◌, ◌≤◌, ◌==◌, Bool, true, false, not, ◌&&◌, ◌||◌, if◌then◌else◌, List, [], ◌∷◌, length, refl, sym, ap, subst, ◌∙◌, arith, eq-eqb, eqb-true}
use Rattle.std.specs.Prelude.{nat_le, nat_lt}
use Rattle.std.specs.Ordering.{eq_by_cmp}
use Rattle.std.proofs.lemmas.Bool.Decides.{nat_tests}
use Rattle.std.proofs.lemmas.Bool.{false≢true, cases_eq}
use Rattle.std.proofs.Math.Nat.{pow-suc, mul-le-mul_right}
use Rattle.peano_keys.specs.declared.dim.Dim.{Dim}
use Rattle.peano_keys.specs.declared.dim.Dim.TheVariants.{Two, Three}
use Rattle.peano_keys.specs.declared.cell.CellKey.{CellKey}
use Rattle.peano_keys.specs.Dim.{children}
use Rattle.peano_keys.specs.Cell.{IsCell, IsDigits, at, parent_of, child_of, key_cmp}
use Rattle.peano_keys.specs.Grid.{Spacetree, is_refined}
use Rattle.peano_curve.specs.Order.{sibling_place, rank_of, centre_of, interval_of, width_of}
use Rattle.peano_curve.proofs.Ranks.{rank_of-step, width_positive, interval_within}
use Rattle.peano_curve.proofs.Ancestors.{rank_bound}
use Rattle.peano_curve.proofs.Gray.{ranks_tell_apart}
use Rattle.spacetree.specs.Counts.{EachOnce}
use Rattle.spacetree.specs.Leaves.{is_among}
use Rattle.spacetree.proofs.CellSets.{same_key, itself}
use Rattle.spacetree.proofs.Children.{parent_of_child, third_digit}
use Rattle.curve_cuts.specs.Cuts.{Cuts, AreCuts, IsCutGrid, Held, Owns}
use Rattle.curve_cuts.proofs.Cuts.{lt_or_le, owner_exists, owner_is_one, rises}
use Rattle.step_phases.proofs.Grids.{level_in}
use Rattle.cell_sums.proofs.Sums.{quotient_is}
use Rattle.mean_values.proofs.NextSums.{true_by, false_by}
use Rattle.mean_values.proofs.Lists.{or_left, or_after, or_one, or_neither}
use Rattle.tree_sums.specs.Trees.{owned_by, is_within, some_within, shared_by, IsSharedCell, OwnedIsTold, SharedIsHeldTwice, SharedByOwnRange, SharedIsOneOfTwo, AtMostTwoShared, PartialsAreFew}
use Rattle.tree_sums.specs.Partials.{CutsAreTrees}

same_truth : (a b : Bool) → (a ≡ true → b ≡ true) → (b ≡ true → a ≡ true) → a ≡ b
same_truth true true f g = refl
same_truth true false f g = sym (f refl)
same_truth false true f g = g refl
same_truth false false f g = refl

both_true : (a b : Bool) → (a && b) ≡ true → (a ≡ true) × (b ≡ true)
both_true true b h = (refl, h)
both_true false b h = absurd (false≢true h)

and_true : (a b : Bool) → a ≡ true → b ≡ true → (a && b) ≡ true
and_true true b g h = h
and_true false b g h = absurd (false≢true g)

le_told : (a b : ℕ) → (nat_le a b ≡ true) ↔ (a ≤ b)
le_told a b = ((λ h. grind (arith, nat_tests)), (λ h. grind (arith, nat_tests)))

lt_told : (a b : ℕ) → (nat_lt a b ≡ true) ↔ (a < b)
lt_told a b = ((λ h. grind (arith, nat_tests)), (λ h. grind (arith, nat_tests)))

pub owned_is_told : OwnedIsTold
owned_is_told k t c = (
  (λ h. let x = both_true (nat_lt t k.trees) _ h in let y = both_true (nat_le (k.start t) (centre_of k.dim c k.depth)) _ x.1 in record { tree = (lt_told t k.trees).0 x.0; centre = ((le_told (k.start t) (centre_of k.dim c k.depth)).0 y.0, (lt_told (centre_of k.dim c k.depth) (k.start (t + 1))).0 y.1) }),
  (λ o. and_true (nat_lt t k.trees) _ ((lt_told t k.trees).1 o.tree) (and_true (nat_le (k.start t) (centre_of k.dim c k.depth)) _ ((le_told (k.start t) (centre_of k.dim c k.depth)).1 o.centre.0) ((lt_told (centre_of k.dim c k.depth) (k.start (t + 1))).1 o.centre.1))),
)

-- a tree has a cell whole
abbrev Whole : Cuts → ℕ → CellKey → Type 0
Whole k t c = (k.start t ≤ (interval_of k.dim c k.depth).lo) × ((interval_of k.dim c k.depth).hi ≤ k.start (t + 1))

within_told : (k : Cuts) (t : ℕ) (c : CellKey) → (is_within k t c ≡ true) ↔ Whole k t c
within_told k t c = (
  (λ h. let x = both_true (nat_le (k.start t) (interval_of k.dim c k.depth).lo) _ h in ((le_told _ _).0 x.0, (le_told _ _).0 x.1)),
  (λ w. and_true (nat_le (k.start t) (interval_of k.dim c k.depth).lo) _ ((le_told _ _).1 w.0) ((le_told _ _).1 w.1)),
)

some_is : (n : ℕ) (k : Cuts) (c : CellKey) → some_within n k c ≡ true → (t : ℕ) × (t < n) × Whole k t c
some_is zero k c h = absurd (false≢true h)
some_is (suc n) k c h = elim (is_within k n c) as (λ b. is_within k n c ≡ b → (b || some_within n k c) ≡ true → (t : ℕ) × (t < suc n) × Whole k t c) [
  | true ↦ λ e g. (n, omega arith, (within_told k n c).0 e)
  | false ↦ λ e g. let r = some_is n k c g in (r.0, omega (arith, r.1), r.2)
] refl h

is_some : (n : ℕ) (k : Cuts) (c : CellKey) (t : ℕ) → t < n → Whole k t c → some_within n k c ≡ true
is_some zero k c t h w = absurd (omega (arith, h))
is_some (suc n) k c t h w = ⊎_elim
    (λ e. (let here : is_within k n c ≡ true = (within_told k n c).1 (subst (λ r. Whole k r c) e w) in ap (λ b. b || some_within n k c) here))
    (λ apart. either (is_within k n c) (some_within n k c) (is_some n k c t (omega (arith, h, apart)) w))
    (cases_eq t n)
  where
    either : (a b : Bool) → b ≡ true → (a || b) ≡ true
    either true b h = refl
    either false b h = h

not_true : (b : Bool) → not b ≡ false → b ≡ true
not_true true h = refl
not_true false h = absurd (false≢true (sym h))

not_false : (b : Bool) → not b ≡ true → b ≡ false
not_false true h = absurd (false≢true h)
not_false false h = refl

-- an unshared cell has a tree
whole_of : (k : Cuts) (c : CellKey) → shared_by k c ≡ false → (t : ℕ) × (t < k.trees) × Whole k t c
whole_of k c h = some_is k.trees k c (not_true (some_within k.trees k c) h)

unshared : (k : Cuts) (c : CellKey) (t : ℕ) → t < k.trees → Whole k t c → shared_by k c ≡ false
unshared k c t h w = ap not (is_some k.trees k c t h w)

-- a child's part of its parent's positions
part : (n w r p q : ℕ) → q < n → r ≡ n * p + q → (p * (n * w) ≤ r * w) × (r * w + w ≤ p * (n * w) + n * w)
part n w r p q below e =
    let r1 : r * w ≡ p * (n * w) + q * w = rw e (grind arith) in
    let last : suc q * w ≤ n * w = mul-le-mul_right w below in
    let more : suc q * w ≡ q * w + w = grind arith in
    (omega arith, omega arith)

one_level : (dim : Dim) → children dim ^ 1 ≡ children dim
one_level Two = refl
one_level Three = refl

place_within : (dim : Dim) (c : CellKey) → sibling_place dim c < children dim
place_within dim c = omega (arith, one_level dim, rank_bound dim 1 (at c 0) (at c 1) (at c 2))

-- a child's interval lies in its parent's
child_range : (k : Cuts) (c : CellKey) → 0 < c.level → c.level ≤ k.depth → ((interval_of k.dim (parent_of c) k.depth).lo ≤ (interval_of k.dim c k.depth).lo) × ((interval_of k.dim c k.depth).hi ≤ (interval_of k.dim (parent_of c) k.depth).hi)
child_range k c pos level =
    let n : ℕ = children k.dim in
    let w : ℕ = n ^ (k.depth - c.level) in
    let up : k.depth - (c.level - 1) ≡ suc (k.depth - c.level) = omega (arith, pos, level) in
    let wide : n ^ (k.depth - (c.level - 1)) ≡ n * w = ap (λ m. n ^ m) up ∙ (rw pow-suc (grind arith)) in
    let b = part n w (rank_of k.dim c) (rank_of k.dim (parent_of c)) (sibling_place k.dim c) (place_within k.dim c) (rank_of-step k.dim c pos) in
    let row : rank_of k.dim (parent_of c) * n ^ (k.depth - (c.level - 1)) ≡ rank_of k.dim (parent_of c) * (n * w) = ap (λ m. rank_of k.dim (parent_of c) * m) wide in
    (omega (arith, b.0, row), omega (arith, b.1, row, wide))

whole_below : (k : Cuts) (t : ℕ) (c q : CellKey) → 0 < q.level → q.level ≤ k.depth → parent_of q ≡ c → Whole k t c → Whole k t q
whole_below k t c q pos level up w =
    let r = child_range k q pos level in
    let v : Whole k t (parent_of q) = subst (Whole k t) (sym up) w in
    (omega (arith, r.0, v.0), omega (arith, r.1, v.1))

centre_within : (w : ℕ) → 0 < w → w / 2 < w
centre_within w h = omega arith

whole_owns : (k : Cuts) (t : ℕ) (c : CellKey) → t < k.trees → Whole k t c → Owns k t c
whole_owns k t c h w =
    let half = centre_within (width_of k.dim c.level k.depth) (width_positive k.dim (k.depth - c.level)) in
    record { tree = h; centre = (omega (arith, w.0), omega (arith, w.1, half)) }

module _ (k : Cuts) (g : Spacetree) (fits : IsCutGrid k g) where
  same_dim : (c : CellKey) → IsCell g.dim c → IsCell k.dim c
  same_dim c cell = subst (λ d. IsCell d c) fits.dim cell

  module _ (c : CellKey) (d : List ℕ) (refined : is_refined g c ≡ true) (digits : IsDigits g.dim d) (apart : shared_by k c ≡ false) where
    cell : IsCell g.dim c
    cell = fits.grid.cells c refined

    room : c.level < k.depth
    room = fits.grid.levels c refined

    below_whole : (t : ℕ) → Whole k t c → Whole k t (child_of c d)
    below_whole t w = whole_below k t c (child_of c d) (omega arith) (omega (arith, room)) (parent_of_child c d cell.shape digits.first digits.second (third_digit g.dim d digits)) w

    child_unshared : shared_by k (child_of c d) ≡ false
    child_unshared = let w = whole_of k c apart in unshared k (child_of c d) w.0 w.1 (below_whole w.0 w.2)

    child_owned : (s : ℕ) → owned_by k s (child_of c d) ≡ owned_by k s c
    child_owned s =
        let w = whole_of k c apart in
        let here : Owns k w.0 c = whole_owns k w.0 c w.1 w.2 in
        let there : Owns k w.0 (child_of c d) = whole_owns k w.0 (child_of c d) w.1 (below_whole w.0 w.2) in
        same_truth (owned_by k s (child_of c d)) (owned_by k s c)
        (λ h. subst (λ r. owned_by k r c ≡ true) (owner_is_one k w.0 s (child_of c d) fits.cuts there ((owned_is_told k s (child_of c d)).0 h)) ((owned_is_told k w.0 c).1 here))
        (λ h. subst (λ r. owned_by k r (child_of c d) ≡ true) (owner_is_one k w.0 s c fits.cuts here ((owned_is_told k s c).0 h)) ((owned_is_told k w.0 (child_of c d)).1 there))

pub cuts_are_trees : CutsAreTrees
cuts_are_trees k g fits = record {
  owner = λ c cell there. let o = owner_exists k c fits.cuts (same_dim k g fits c cell) (level_in k g c fits there) in (o.0, o.1.tree, (owned_is_told k o.0 c).1 o.1);
  one = λ c s r a b. owner_is_one k s r c fits.cuts ((owned_is_told k s c).0 a) ((owned_is_told k r c).0 b);
  whole = λ c d refined digits apart. child_unshared k g fits c d refined digits apart;
  kept = λ c d s refined digits apart. child_owned k g fits c d refined digits apart s;
}

-- of ranges one after another one has the position
find : (start : ℕ → ℕ) (p n : ℕ) → start 0 ≤ p → p < start n → (t : ℕ) × (t < n) × (start t ≤ p) × (p < start (t + 1))
find start p zero low high = absurd (omega (arith, low, high))
find start p (suc n) low high = ⊎_elim
    (λ below. let r = find start p n low below in (r.0, omega (arith, r.1), r.2, r.3))
    (λ above. let e : suc n ≡ n + 1 = omega arith in (n, omega arith, above, subst (λ m. p < start m) e high))
    (lt_or_le p (start n))

-- a position lies in one range
in_order : (k : Cuts) → AreCuts k → (s r p q : ℕ) → s < r → r < k.trees → q < k.start (s + 1) → k.start r ≤ p → q < p
in_order k cuts s r p q h last high low =
    let e : s + 1 + (r - (s + 1)) ≡ r = omega (arith, h) in
    omega (arith, rises k cuts (s + 1) (r - (s + 1)) (omega (arith, h, last)), ap k.start e, high, low)

one_range : (k : Cuts) → AreCuts k → (s r p : ℕ) → s < k.trees → r < k.trees → (k.start s ≤ p) × (p < k.start (s + 1)) → (k.start r ≤ p) × (p < k.start (r + 1)) → s ≡ r
one_range k cuts s r p hs hr a b = ⊎_elim
    (λ h. absurd (omega (arith, in_order k cuts s r p p h hr a.1 b.0)))
    (λ h. ⊎_elim (λ g. absurd (omega (arith, in_order k cuts r s p p g hs b.1 a.0))) (λ g. omega (arith, h, g)) (lt_or_le r s))
    (lt_or_le s r)

-- a tree that has a cell whole is the one that holds it
whole_is : (k : Cuts) (c : CellKey) → AreCuts k → (s t : ℕ) → s < k.trees → t < k.trees → Whole k s c → Held k t c → t ≡ s
whole_is k c cuts s t hs ht w held = one_range k cuts t s held.0 ht hs held.2 (omega (arith, w.0, held.1.0), omega (arith, w.1, held.1.1))

pub shared_is_held_twice : SharedIsHeldTwice
shared_is_held_twice k c cuts cell level = (
  (λ h.
      let w : ℕ = width_of k.dim c.level k.depth in
      let lo : ℕ = rank_of k.dim c * w in
      let positive : 0 < w = width_positive k.dim (k.depth - c.level) in
      let inside : lo + w ≤ children k.dim ^ k.depth = interval_within (children k.dim) (rank_of k.dim c) c.level k.depth level (rank_bound k.dim c.level (at c 0) (at c 1) (at c 2)) in
      let a = find k.start lo k.trees (omega (arith, cuts.first)) (omega (arith, cuts.end, inside, positive)) in
      let b = find k.start (lo + w - 1) k.trees (omega (arith, cuts.first)) (omega (arith, cuts.end, inside, positive)) in
      let apart : ¬ (a.0 ≡ b.0) = λ e. (let v : Whole k a.0 c = (a.2, (let f : lo + w - 1 < k.start (a.0 + 1) = subst (λ t. lo + w - 1 < k.start (t + 1)) (sym e) b.3 in omega (arith, f, positive))) in false≢true (sym (unshared k c a.0 a.1 v) ∙ h)) in
      let order : a.0 < b.0 = ⊎_elim (λ l. l) (λ m. ⊎_elim (λ l. absurd (omega (arith, in_order k cuts b.0 a.0 lo (lo + w - 1) l a.1 b.3 a.2, positive))) (λ l. absurd (apart (omega (arith, l, m)))) (lt_or_le b.0 a.0)) (lt_or_le a.0 b.0) in
      record {
        first = a.0;
        second = b.0;
        order = order;
        last = b.1;
        holds_first = (lo, (omega arith, omega (arith, positive)), (a.2, a.3));
        holds_second = (lo + w - 1, (omega (arith, positive), omega (arith, positive)), (b.2, b.3));
      }),
  (λ t. true_by (shared_by k c) (λ h.
      let w = whole_of k c h in
      let x = whole_is k c cuts w.0 t.first w.1 (omega (arith, t.order, t.last)) w.2 t.holds_first in
      let y = whole_is k c cuts w.0 t.second w.1 t.last w.2 t.holds_second in
      omega (arith, x, y, t.order))),
)

pub shared_by_own_range : SharedByOwnRange
shared_by_own_range k t c cuts h held = elim (is_within k t c) as (λ b. is_within k t c ≡ b → shared_by k c ≡ not b) [
  | true ↦ λ e. unshared k c t h ((within_told k t c).0 e)
  | false ↦ λ e. true_by (shared_by k c) (λ f. let w = whole_of k c f in false≢true (sym e ∙ (within_told k t c).1 (subst (λ r. Whole k r c) (sym (whole_is k c cuts w.0 t w.1 h w.2 held)) w.2)))
] refl

pub shared_is_one_of_two : SharedIsOneOfTwo
shared_is_one_of_two k t c cuts h held sh =
    let w : ℕ = width_of k.dim c.level k.depth in
    let r : ℕ = rank_of k.dim c in
    let positive : 0 < w = width_positive k.dim (k.depth - c.level) in
    let outside : is_within k t c ≡ false = not_false (is_within k t c) (sym (shared_by_own_range k t c cuts h held) ∙ sh) in
    let next : suc r * w ≡ r * w + w = grind arith in
    ⊎_elim
    (λ l. inl (sym (quotient_is (k.start t) r w positive (omega (arith, l)) (omega (arith, next, held.2.0, held.1.1)))))
    (λ l. ⊎_elim
    (λ m. inr (sym (quotient_is (k.start (t + 1)) r w positive (omega (arith, held.1.0, held.2.1)) (omega (arith, next, m)))))
    (λ m. absurd (false≢true (sym outside ∙ (within_told k t c).1 (l, m))))
    (lt_or_le (k.start (t + 1)) (r * w + w)))
    (lt_or_le (r * w) (k.start t))

two_shared : (k : Cuts) (t : ℕ) (a b c : CellKey) → AreCuts k → t < k.trees → a.level ≡ b.level → b.level ≡ c.level → IsCell k.dim a → IsCell k.dim b → IsCell k.dim c → Held k t a → Held k t b → Held k t c → shared_by k a ≡ true → shared_by k b ≡ true → shared_by k c ≡ true → (a ≡ b) ⊎ ((b ≡ c) ⊎ (a ≡ c))
two_shared k t a b c cuts h ab bc ca cb cc ha hb hc sa sb sc =
    let wab : k.start t / width_of k.dim a.level k.depth ≡ k.start t / width_of k.dim b.level k.depth = ap (λ l. k.start t / width_of k.dim l k.depth) ab in
    let vab : k.start (t + 1) / width_of k.dim a.level k.depth ≡ k.start (t + 1) / width_of k.dim b.level k.depth = ap (λ l. k.start (t + 1) / width_of k.dim l k.depth) ab in
    let wbc : k.start t / width_of k.dim b.level k.depth ≡ k.start t / width_of k.dim c.level k.depth = ap (λ l. k.start t / width_of k.dim l k.depth) bc in
    let vbc : k.start (t + 1) / width_of k.dim b.level k.depth ≡ k.start (t + 1) / width_of k.dim c.level k.depth = ap (λ l. k.start (t + 1) / width_of k.dim l k.depth) bc in
    let x = shared_is_one_of_two k t a cuts h ha sa in
    let y = shared_is_one_of_two k t b cuts h hb sb in
    let z = shared_is_one_of_two k t c cuts h hc sc in
    let e_ab : rank_of k.dim a ≡ rank_of k.dim b → (a ≡ b) ⊎ ((b ≡ c) ⊎ (a ≡ c)) = λ e. inl (ranks_tell_apart k.dim a b ca cb ab e) in
    let e_bc : rank_of k.dim b ≡ rank_of k.dim c → (a ≡ b) ⊎ ((b ≡ c) ⊎ (a ≡ c)) = λ e. inr (inl (ranks_tell_apart k.dim b c cb cc bc e)) in
    let e_ac : rank_of k.dim a ≡ rank_of k.dim c → (a ≡ b) ⊎ ((b ≡ c) ⊎ (a ≡ c)) = λ e. inr (inr (ranks_tell_apart k.dim a c ca cc (ab ∙ bc) e)) in
    ⊎_elim
    (λ p. ⊎_elim (λ q. e_ab (p ∙ wab ∙ sym q)) (λ q. ⊎_elim (λ r. e_ac (p ∙ wab ∙ wbc ∙ sym r)) (λ r. e_bc (q ∙ vbc ∙ sym r)) z) y)
    (λ p. ⊎_elim (λ q. ⊎_elim (λ r. e_bc (q ∙ wbc ∙ sym r)) (λ r. e_ac (p ∙ vab ∙ vbc ∙ sym r)) z) (λ q. e_ab (p ∙ vab ∙ sym q)) y)
    x

pub at_most_two_shared : AtMostTwoShared
at_most_two_shared k g t a b c fits h ab bc x y z =
    let inside : (q : CellKey) → is_refined g q ≡ true → IsCell k.dim q = λ q r. same_dim k g fits q (fits.grid.cells q r) in
    two_shared k t a b c fits.cuts h ab bc (inside a x.refined) (inside b y.refined) (inside c z.refined) x.held y.held z.held x.shared y.shared z.shared

-- the cells of a list that pass a test
keep : (CellKey → Bool) → List CellKey → List CellKey
keep p [] = []
keep p (c ∷ cs) = if p c then c ∷ keep p cs else keep p cs

keep_yes : (p : CellKey → Bool) (c : CellKey) (cs : List CellKey) → p c ≡ true → keep p (c ∷ cs) ≡ c ∷ keep p cs
unfolding keep
keep_yes p c cs h = rw h refl

keep_no : (p : CellKey → Bool) (c : CellKey) (cs : List CellKey) → p c ≡ false → keep p (c ∷ cs) ≡ keep p cs
unfolding keep
keep_no p c cs h = rw h refl

keep_none : (p : CellKey → Bool) → keep p [] ≡ []
unfolding keep
keep_none p = refl

kept_are : (p : CellKey → Bool) (cs : List CellKey) (c : CellKey) → is_among (keep p cs) c ≡ true → (is_among cs c ≡ true) × (p c ≡ true)
kept_are p [] c h = absurd (false≢true (sym (ap (λ l. is_among l c) (keep_none p)) ∙ h))
kept_are p (x ∷ xs) c h = elim (p x) as (λ b. p x ≡ b → (is_among (x ∷ xs) c ≡ true) × (p c ≡ true)) [
  | true ↦ λ e. ⊎_elim
      (λ f. (or_left (eq_by_cmp key_cmp c x) (is_among xs c) f, ap p (same_key c x f) ∙ e))
      (λ f. (let r = kept_are p xs c f in (or_after (eq_by_cmp key_cmp c x) (is_among xs c) r.0, r.1)))
      (or_one (eq_by_cmp key_cmp c x) (is_among (keep p xs) c) (sym (ap (λ l. is_among l c) (keep_yes p x xs e)) ∙ h))
  | false ↦ λ e. (let r = kept_are p xs c (sym (ap (λ l. is_among l c) (keep_no p x xs e)) ∙ h) in (or_after (eq_by_cmp key_cmp c x) (is_among xs c) r.0, r.1))
] refl

kept_once : (p : CellKey → Bool) (cs : List CellKey) → EachOnce cs → EachOnce (keep p cs)
kept_once p [] once = subst EachOnce (sym (keep_none p)) tt
kept_once p (x ∷ xs) once = elim (p x) as (λ b. p x ≡ b → EachOnce (keep p (x ∷ xs))) [
  | true ↦ λ e. subst EachOnce (sym (keep_yes p x xs e)) (false_by (is_among (keep p xs) x) (λ h. false≢true (sym once.0 ∙ (kept_are p xs x h).0)), kept_once p xs once.1)
  | false ↦ λ e. subst EachOnce (sym (keep_no p x xs e)) (kept_once p xs once.1)
] refl

kept_parts : (p : CellKey → Bool) (cs : List CellKey) → length cs ≡ length (keep p cs) + length (keep (λ c. not (p c)) cs)
kept_parts p [] = (let a = ap length (keep_none p) in let b = ap length (keep_none (λ c. not (p c))) in omega (arith, a, b))
kept_parts p (x ∷ xs) = elim (p x) as (λ b. p x ≡ b → length (x ∷ xs) ≡ length (keep p (x ∷ xs)) + length (keep (λ c. not (p c)) (x ∷ xs))) [
  | true ↦ λ e. (let a = ap length (keep_yes p x xs e) in let b = ap length (keep_no (λ c. not (p c)) x xs (ap not e)) in omega (arith, a, b, kept_parts p xs))
  | false ↦ λ e. (let a = ap length (keep_no p x xs e) in let b = ap length (keep_yes (λ c. not (p c)) x xs (ap not e)) in omega (arith, a, b, kept_parts p xs))
] refl

module _ (k : Cuts) (g : Spacetree) (t : ℕ) (fits : IsCutGrid k g) (h : t < k.trees) where
  -- on one level there are two
  two : (l : ℕ) (cs : List CellKey) → EachOnce cs → ((c : CellKey) → is_among cs c ≡ true → IsSharedCell k g t c × (c.level ≡ l)) → length cs ≤ 2
  two l [] once all = omega arith
  two l (a ∷ []) once all = omega arith
  two l (a ∷ b ∷ []) once all = omega arith
  two l (a ∷ b ∷ c ∷ cs) once all =
      let x = all a (or_left (eq_by_cmp key_cmp a a) (is_among (b ∷ c ∷ cs) a) (itself a)) in
      let y = all b (or_after (eq_by_cmp key_cmp b a) (is_among (b ∷ c ∷ cs) b) (or_left (eq_by_cmp key_cmp b b) (is_among (c ∷ cs) b) (itself b))) in
      let z = all c (or_after (eq_by_cmp key_cmp c a) (is_among (b ∷ c ∷ cs) c) (or_after (eq_by_cmp key_cmp c b) (is_among (c ∷ cs) c) (or_left (eq_by_cmp key_cmp c c) (is_among cs c) (itself c)))) in
      let ab : eq_by_cmp key_cmp a b ≡ false = (or_neither (eq_by_cmp key_cmp a b) (is_among (c ∷ cs) a) once.0).0 in
      let ac : eq_by_cmp key_cmp a c ≡ false = (or_neither (eq_by_cmp key_cmp a c) (is_among cs a) (or_neither (eq_by_cmp key_cmp a b) (is_among (c ∷ cs) a) once.0).1).0 in
      let bc : eq_by_cmp key_cmp b c ≡ false = (or_neither (eq_by_cmp key_cmp b c) (is_among cs b) once.1.0).0 in
      absurd (⊎_elim
      (λ e. false≢true (sym ab ∙ ap (eq_by_cmp key_cmp a) (sym e) ∙ itself a))
      (λ r. ⊎_elim (λ e. false≢true (sym bc ∙ ap (eq_by_cmp key_cmp b) (sym e) ∙ itself b)) (λ e. false≢true (sym ac ∙ ap (eq_by_cmp key_cmp a) (sym e) ∙ itself a)) r)
      (at_most_two_shared k g t a b c fits h (x.1 ∙ sym y.1) (y.1 ∙ sym z.1) x.0 y.0 z.0))

  few : (l : ℕ) (cs : List CellKey) → EachOnce cs → ((c : CellKey) → is_among cs c ≡ true → IsSharedCell k g t c × (c.level < l)) → length cs ≤ 2 * l
  few zero [] once all = omega arith
  few zero (c ∷ cs) once all = absurd (omega (arith, (all c (or_left (eq_by_cmp key_cmp c c) (is_among cs c) (itself c))).1))
  few (suc l) cs once all =
      let at_level : CellKey → Bool = λ c. c.level == l in
      let here = two l (keep at_level cs) (kept_once at_level cs once) (λ c h. (let r = kept_are at_level cs c h in ((all c r.0).0, eqb-true c.level l r.1))) in
      let rest = few l (keep (λ c. not (at_level c)) cs) (kept_once (λ c. not (at_level c)) cs once) (λ c h. (let r = kept_are (λ c. not (at_level c)) cs c h in let s = all c r.0 in (s.0, lower c.level l s.1 r.1))) in
      omega (arith, here, rest, kept_parts at_level cs)
    where
      lower : (a b : ℕ) → a < suc b → not (a == b) ≡ true → a < b
      lower a b h n = ⊎_elim (λ e. absurd (false≢true (sym (ap not (eq-eqb a b e)) ∙ n))) (λ ne. omega (arith, h, ne)) (cases_eq a b)

pub partials_are_few : PartialsAreFew
partials_are_few k g t cells fits h once all = (let f = few k g t fits h k.depth cells once (λ c m. (let s = all c m in (s, fits.grid.levels c s.refined))) in omega (arith, f, fits.deepest))
