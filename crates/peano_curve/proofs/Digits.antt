-- The order of cells by digits, places of children, and centres.
use Rattle.std.proofs.Common.{◌≡◌, ◌≢◌, ℕ, zero, suc, ◌+◌, ◌-◌, ◌*◌, ◌/◌, ◌%◌, ◌^◌, ◌<◌, ◌≤◌, ◌==◌, min, if◌then◌else◌, Bool, true, false, List, slice_index, arith, refl, sym, ap, subst, ◌∙◌, ⊎_elim}
use Rattle.std.specs.declared.cmp.Ordering.{Ordering}
use Rattle.std.specs.declared.cmp.Ordering.TheVariants.{Less, Equal, Greater}
use Rattle.std.specs.Ordering.{nat_cmp, ordering_then}
use Rattle.std.proofs.lemmas.Bool.{cases_lt, cases_eq}
use Rattle.std.proofs.lemmas.Bool.Decides.{nat_tests}
use Rattle.std.proofs.Math.Nat.{pow-succ', pow-zero, mul-le-mul_left, mul_comm, div-div-eq-div-mul}
use Rattle.std.proofs.lemmas.Nat.{pow-add, div-mul-add}
use Rattle.peano_keys.specs.declared.cell.CellKey.{CellKey}
use Rattle.peano_keys.specs.declared.dim.Dim.{Dim}
use Rattle.peano_keys.specs.declared.dim.Dim.TheVariants.{Two, Three}
use Rattle.peano_keys.specs.Dim.{third_extent, children}
use Rattle.peano_keys.specs.Cell.{IsCell, IsDigits, at, triple, parent_of, child_of, centre_child}
use Rattle.peano_keys.proofs.Positions.{same_cell, three}
use Rattle.stack_law.specs.Digits.{turned}
use Rattle.peano_curve.specs.Order.{place_of, sibling_place, rank_from, rank_of, rank_at, nth_child, nth_from, width_of}
use Rattle.peano_curve.specs.Laws.{ancestor_of, IsIn, ChildAtPlace, SplitsOrderChildren, digit_cmp, digits_cmp, OrderIsByDigits, AncestorComesFirst, CentreIsShared}
use Rattle.peano_curve.proofs.Ranks.{rank_of-step}
use Rattle.peano_curve.proofs.Splits.{turned_same, turned_below}
use Rattle.peano_curve.proofs.Ancestors.{rank_bound, rank_of_ancestor, ancestor_cell}
use Rattle.peano_curve.proofs.Gray.{ranks_tell_apart}
use Rattle.peano_curve.proofs.Compares.{cmp_less, cmp_equal, cmp_greater}

-- a digit turned twice is itself
turned_twice : (s k : ℕ) → k < 3 → turned s (turned s k) ≡ k
turned_twice s k h = grind (arith, nat_tests)

-- the parts of a place
plane_parts : (a b : ℕ) → b < 3 → ((3 * a + b) / 3 ≡ a) × ((3 * a + b) % 3 ≡ b)
plane_parts a b h = (omega arith, omega arith)

space_parts : (a b c : ℕ) → b < 3 → c < 3 → ((9 * a + 3 * b + c) / 9 ≡ a) × ((9 * a + 3 * b + c) / 3 % 3 ≡ b) × ((9 * a + 3 * b + c) % 3 ≡ c)
space_parts a b c hb hc = (omega arith, omega arith, omega arith)

-- the place of a child
child_place : (dim : Dim) (p : CellKey) (k : List ℕ) → IsDigits dim k → sibling_place dim (child_of p k) ≡ place_of dim (at p 0) (at p 1) (at p 2) (slice_index k 0) (slice_index k 1) (slice_index k 2)
child_place dim p k h =
    let d0 : (3 * at p 0 + slice_index k 0) / 3 ≡ at p 0 = omega (arith, h.first) in
    let d1 : (3 * at p 1 + slice_index k 1) / 3 ≡ at p 1 = omega (arith, h.second) in
    let d2 : (3 * at p 2 + slice_index k 2) / 3 ≡ at p 2 = omega (arith, third dim h.third) in
    let m0 : (3 * at p 0 + slice_index k 0) % 3 ≡ slice_index k 0 = omega (arith, h.first) in
    let m1 : (3 * at p 1 + slice_index k 1) % 3 ≡ slice_index k 1 = omega (arith, h.second) in
    let m2 : (3 * at p 2 + slice_index k 2) % 3 ≡ slice_index k 2 = omega (arith, third dim h.third) in
    cc
  where
    third : (dim : Dim) → slice_index k 2 < third_extent dim 3 → slice_index k 2 < 3
    third Two x = omega arith
    third Three x = x

pub splits_order_children : SplitsOrderChildren
splits_order_children Two c k h = child_place Two c k h ∙ ap (λ t. 3 * turned (at c 1) (slice_index k 0) + t) (turned_same (at c 0 + slice_index k 0) (3 * at c 0 + slice_index k 0) (slice_index k 1) (omega arith))
splits_order_children Three c k h =
    let e1 = turned_same (at c 0 + at c 2 + slice_index k 0) (3 * at c 0 + slice_index k 0 + at c 2) (slice_index k 1) (omega arith) in
    let e2 = turned_same (at c 0 + at c 1 + slice_index k 0 + slice_index k 1) (3 * at c 0 + slice_index k 0 + (3 * at c 1 + slice_index k 1)) (slice_index k 2) (omega arith) in
    child_place Three c k h ∙ omega arith

nth_plane : (q : CellKey) (k0 k1 : ℕ) → k0 < 3 → k1 < 3 → nth_child Two q (3 * turned (at q 1) k0 + turned (at q 0 + k0) k1) ≡ child_of q (triple k0 k1 0)
nth_plane q k0 k1 h0 h1 =
    let t0 : ℕ = turned (at q 1) k0 in
    let t1 : ℕ = turned (at q 0 + k0) k1 in
    let parts = plane_parts t0 t1 (turned_below (at q 0 + k0) k1 h1) in
    ap (λ a. nth_from Two q (turned (at q 1) a) ((3 * t0 + t1) % 3) 0) parts.0
    ∙ ap (λ b. nth_from Two q (turned (at q 1) t0) b 0) parts.1
    ∙ ap (λ k. nth_from Two q k t1 0) (turned_twice (at q 1) k0 h0)
    ∙ ap (λ k. child_of q (triple k0 k 0)) (turned_twice (at q 0 + k0) k1 h1)

nth_space : (q : CellKey) (k0 k1 k2 : ℕ) → k0 < 3 → k1 < 3 → k2 < 3 → nth_child Three q (place_of Three (at q 0) (at q 1) (at q 2) k0 k1 k2) ≡ child_of q (triple k0 k1 k2)
nth_space q k0 k1 k2 h0 h1 h2 =
    let s0 : ℕ = at q 1 + at q 2 in
    let s1 : ℕ = at q 0 + at q 2 + k0 in
    let s2 : ℕ = at q 0 + at q 1 + k0 + k1 in
    let t0 : ℕ = turned s0 k0 in
    let t1 : ℕ = turned s1 k1 in
    let t2 : ℕ = turned s2 k2 in
    let p : ℕ = 9 * t0 + 3 * t1 + t2 in
    let parts = space_parts t0 t1 t2 (turned_below s1 k1 h1) (turned_below s2 k2 h2) in
    ap (λ a. nth_from Three q (turned s0 a) (p / 3 % 3) (p % 3)) parts.0
    ∙ ap (λ b. nth_from Three q (turned s0 t0) b (p % 3)) parts.1
    ∙ ap (λ c. nth_from Three q (turned s0 t0) t1 c) parts.2
    ∙ ap (λ k. nth_from Three q k t1 t2) (turned_twice s0 k0 h0)
    ∙ ap (λ k. child_of q (triple k0 k (turned (at q 0 + at q 1 + k0 + k) t2))) (turned_twice s1 k1 h1)
    ∙ ap (λ k. child_of q (triple k0 k1 k)) (turned_twice s2 k2 h2)

pub child_at_place : ChildAtPlace
child_at_place Two c cell below =
    nth_plane (parent_of c) (at c 0 % 3) (at c 1 % 3) (omega arith) (omega arith)
    ∙ same_cell c (c.level - 1 + 1) (3 * (at c 0 / 3) + at c 0 % 3) (3 * (at c 1 / 3) + at c 1 % 3) (3 * (at c 2 / 3) + 0) cell.shape (omega (arith, below)) (omega arith) (omega arith) (omega (arith, cell.third))
child_at_place Three c cell below =
    nth_space (parent_of c) (at c 0 % 3) (at c 1 % 3) (at c 2 % 3) (omega arith) (omega arith) (omega arith)
    ∙ same_cell c (c.level - 1 + 1) (3 * (at c 0 / 3) + at c 0 % 3) (3 * (at c 1 / 3) + at c 1 % 3) (3 * (at c 2 / 3) + at c 2 % 3) cell.shape (omega (arith, below)) (omega arith) (omega arith) (omega arith)

-- the rank of an ancestor
rank_at_ancestor : (dim : Dim) (a : CellKey) (l : ℕ) → l ≤ a.level → rank_at dim a l ≡ rank_of dim (ancestor_of a l)
rank_at_ancestor dim a l h =
    let w : ℕ = children dim ^ (a.level - l) in
    let b : ℕ = rank_from dim (a.level - l) (at a 0) (at a 1) (at a 2) in
    let r : ℕ = rank_of dim (ancestor_of a l) in
    ap (λ n. n / children dim ^ (a.level - l)) (rank_of_ancestor dim a l h ∙ ap (λ n. n + b) (mul_comm w r))
    ∙ div-mul-add r (children dim ^ (a.level - l)) b (rank_bound dim (a.level - l) (at a 0) (at a 1) (at a 2))

rank_at_self : (dim : Dim) (a : CellKey) → rank_at dim a a.level ≡ rank_of dim a
rank_at_self dim a =
    let e : a.level - a.level ≡ 0 = omega arith in
    ap (λ w. rank_of dim a / w) (ap (λ k. children dim ^ k) e ∙ pow-zero (children dim)) ∙ omega arith

pub ancestor_comes_first : AncestorComesFirst
ancestor_comes_first dim p a hp ha inside below =
    let common : min p.level a.level ≡ p.level = omega (arith, below) in
    let same : rank_at dim p p.level ≡ rank_at dim a p.level = rank_at_self dim p ∙ sym (rank_at_ancestor dim a p.level inside.level ∙ ap (rank_of dim) inside.ancestor) in
    ap (λ l. ordering_then (nat_cmp (rank_at dim p l) (rank_at dim a l)) (nat_cmp p.level a.level)) common
    ∙ ap (λ o. ordering_then o (nat_cmp p.level a.level)) (cmp_equal (rank_at dim p p.level) (rank_at dim a p.level) same)
    ∙ cmp_less p.level a.level below

-- the ancestor of an ancestor
quotient_again : (x i j k : ℕ) → i + j ≡ k → x / 3 ^ i / 3 ^ j ≡ x / 3 ^ k
quotient_again x i j k h = div-div-eq-div-mul x (3 ^ i) (3 ^ j) ∙ ap (λ n. x / n) (sym (pow-add 3 i j) ∙ ap (λ n. 3 ^ n) h)

ancestor_again : (a : CellKey) (l q : ℕ) → q ≤ l → l ≤ a.level → ancestor_of (ancestor_of a l) q ≡ ancestor_of a q
ancestor_again a l q hq hl =
    let e0 = quotient_again (at a 0) (a.level - l) (l - q) (a.level - q) (omega arith) in
    let e1 = quotient_again (at a 1) (a.level - l) (l - q) (a.level - q) (omega arith) in
    let e2 = quotient_again (at a 2) (a.level - l) (l - q) (a.level - q) (omega arith) in
    cc

-- rows of one width compare as their numbers do, where these differ
row_cmp : (w r s a b : ℕ) → a < w → b < w → r ≢ s → nat_cmp (w * r + a) (w * s + b) ≡ nat_cmp r s
row_cmp w r s a b ha hb apart =
    ⊎_elim
    (λ less. cmp_less _ _ (row_less w r s a b ha less) ∙ sym (cmp_less r s less))
    (λ le. let more : s < r = omega arith in cmp_greater _ _ (row_less w s r b a hb more) ∙ sym (cmp_greater r s more))
    (cases_lt r s)
  where
    row_less : (w r s a b : ℕ) → a < w → r < s → w * r + a < w * s + b
    row_less w r s a b below less = let row : w * suc r ≤ w * s = mul-le-mul_left w less in let next : w * suc r ≡ w * r + w = grind arith in omega arith

added_cmp : (c a b : ℕ) → nat_cmp (c + a) (c + b) ≡ nat_cmp a b
added_cmp c a b =
    ⊎_elim
    (λ less. cmp_less (c + a) (c + b) (omega arith) ∙ sym (cmp_less a b less))
    (λ le. ⊎_elim
    (λ same. cmp_equal (c + a) (c + b) (omega arith) ∙ sym (cmp_equal a b same))
    (λ other. cmp_greater (c + a) (c + b) (omega arith) ∙ sym (cmp_greater a b (omega arith)))
    (cases_eq a b))
    (cases_lt a b)

-- places compare by their parts
part_cmp : (a b c d : ℕ) → b < 3 → d < 3 → nat_cmp (3 * a + b) (3 * c + d) ≡ ordering_then (nat_cmp a c) (nat_cmp b d)
part_cmp a b c d hb hd =
    ⊎_elim
    (λ less. cmp_less (3 * a + b) (3 * c + d) (omega arith) ∙ sym (ap (λ o. ordering_then o (nat_cmp b d)) (cmp_less a c less)))
    (λ le. ⊎_elim
    (λ same. ap (λ z. nat_cmp (3 * z + b) (3 * c + d)) same ∙ added_cmp (3 * c) b d ∙ sym (ap (λ o. ordering_then o (nat_cmp b d)) (cmp_equal a c same)))
    (λ other. cmp_greater (3 * a + b) (3 * c + d) (omega arith) ∙ sym (ap (λ o. ordering_then o (nat_cmp b d)) (cmp_greater a c (omega arith))))
    (cases_eq a c))
    (cases_lt a c)

then_assoc : (o p q : Ordering) → ordering_then (ordering_then o p) q ≡ ordering_then o (ordering_then p q)
then_assoc Less p q = refl
then_assoc Equal p q = refl
then_assoc Greater p q = refl

then_like : (o p q : Ordering) → (o ≡ Equal → p ≡ q) → ordering_then o p ≡ ordering_then o q
then_like Less p q h = refl
then_like Equal p q h = h refl
then_like Greater p q h = refl

cmp_tells : (a b : ℕ) → nat_cmp a b ≡ Equal → a ≡ b
cmp_tells a b e =
    ⊎_elim
    (λ less. absurd (let l = cmp_less a b less in cc))
    (λ le. ⊎_elim (λ same. same) (λ other. absurd (let g = cmp_greater a b (omega arith) in cc)) (cases_eq a b))
    (cases_lt a b)

digit_by : (t : Bool) (k j : ℕ) → k < 3 → j < 3 → nat_cmp (if t then k else 2 - k) (if t then j else 2 - j) ≡ (if t then nat_cmp k j else nat_cmp j k)
digit_by true k j hk hj = refl
digit_by false k j hk hj =
    ⊎_elim
    (λ less. cmp_greater (2 - k) (2 - j) (omega arith) ∙ sym (cmp_greater j k less))
    (λ le. ⊎_elim
    (λ same. cmp_equal (2 - k) (2 - j) (omega arith) ∙ sym (cmp_equal j k (omega arith)))
    (λ other. cmp_less (2 - k) (2 - j) (omega arith) ∙ sym (cmp_less j k (omega arith)))
    (cases_eq k j))
    (cases_lt k j)

digit_is : (s k j : ℕ) → k < 3 → j < 3 → nat_cmp (turned s k) (turned s j) ≡ digit_cmp s k j
digit_is s k j hk hj = digit_by (s % 2 == 0) k j hk hj

digit_tells : (s k j : ℕ) → digit_cmp s k j ≡ Equal → k ≡ j
digit_tells s k j e = by (s % 2 == 0) e
  where
    by : (t : Bool) → (if t then nat_cmp k j else nat_cmp j k) ≡ Equal → k ≡ j
    by true e = cmp_tells k j e
    by false e = sym (cmp_tells j k e)

-- places compare as digits do
plane_digits : (x0 x1 x2 k0 k1 k2 j0 j1 j2 : ℕ) → k0 < 3 → k1 < 3 → j0 < 3 → j1 < 3 → nat_cmp (place_of Two x0 x1 x2 k0 k1 k2) (place_of Two x0 x1 x2 j0 j1 j2) ≡ ordering_then (digit_cmp x1 k0 j0) (digit_cmp (x0 + k0) k1 j1)
plane_digits x0 x1 x2 k0 k1 k2 j0 j1 j2 h0 h1 i0 i1 =
    part_cmp (turned x1 k0) (turned (x0 + k0) k1) (turned x1 j0) (turned (x0 + j0) j1) (turned_below (x0 + k0) k1 h1) (turned_below (x0 + j0) j1 i1)
    ∙ ap (λ o. ordering_then o (nat_cmp (turned (x0 + k0) k1) (turned (x0 + j0) j1))) (digit_is x1 k0 j0 h0 i0)
    ∙ then_like (digit_cmp x1 k0 j0) _ _ (λ e. ap (λ z. nat_cmp (turned (x0 + k0) k1) (turned (x0 + z) j1)) (sym (digit_tells x1 k0 j0 e)) ∙ digit_is (x0 + k0) k1 j1 h1 i1)

space_digits : (x0 x1 x2 k0 k1 k2 j0 j1 j2 : ℕ) → k0 < 3 → k1 < 3 → k2 < 3 → j0 < 3 → j1 < 3 → j2 < 3 → nat_cmp (place_of Three x0 x1 x2 k0 k1 k2) (place_of Three x0 x1 x2 j0 j1 j2) ≡ ordering_then (digit_cmp (x1 + x2) k0 j0) (ordering_then (digit_cmp (x0 + x2 + k0) k1 j1) (digit_cmp (x0 + x1 + k0 + k1) k2 j2))
space_digits x0 x1 x2 k0 k1 k2 j0 j1 j2 h0 h1 h2 i0 i1 i2 =
    let t0 : ℕ = turned (x1 + x2) k0 in
    let t1 : ℕ = turned (x0 + x2 + k0) k1 in
    let t2 : ℕ = turned (x0 + x1 + k0 + k1) k2 in
    let u0 : ℕ = turned (x1 + x2) j0 in
    let u1 : ℕ = turned (x0 + x2 + j0) j1 in
    let u2 : ℕ = turned (x0 + x1 + j0 + j1) j2 in
    let et : 9 * t0 + 3 * t1 + t2 ≡ 3 * (3 * t0 + t1) + t2 = omega arith in
    let eu : 9 * u0 + 3 * u1 + u2 ≡ 3 * (3 * u0 + u1) + u2 = omega arith in
    ap (λ n. nat_cmp n (9 * u0 + 3 * u1 + u2)) et
    ∙ ap (nat_cmp (3 * (3 * t0 + t1) + t2)) eu
    ∙ part_cmp (3 * t0 + t1) t2 (3 * u0 + u1) u2 (turned_below (x0 + x1 + k0 + k1) k2 h2) (turned_below (x0 + x1 + j0 + j1) j2 i2)
    ∙ ap (λ o. ordering_then o (nat_cmp t2 u2)) (part_cmp t0 t1 u0 u1 (turned_below (x0 + x2 + k0) k1 h1) (turned_below (x0 + x2 + j0) j1 i1))
    ∙ then_assoc (nat_cmp t0 u0) (nat_cmp t1 u1) (nat_cmp t2 u2)
    ∙ ap (λ o. ordering_then o (ordering_then (nat_cmp t1 u1) (nat_cmp t2 u2))) (digit_is (x1 + x2) k0 j0 h0 i0)
    ∙ then_like (digit_cmp (x1 + x2) k0 j0) (ordering_then (nat_cmp t1 u1) (nat_cmp t2 u2)) (ordering_then (digit_cmp (x0 + x2 + k0) k1 j1) (digit_cmp (x0 + x1 + k0 + k1) k2 j2)) (λ e0. let e : j0 ≡ k0 = sym (digit_tells (x1 + x2) k0 j0 e0) in
    ap (λ z. ordering_then (nat_cmp t1 (turned (x0 + x2 + z) j1)) (nat_cmp t2 (turned (x0 + x1 + z + j1) j2))) e
    ∙ ap (λ o. ordering_then o (nat_cmp t2 (turned (x0 + x1 + k0 + j1) j2))) (digit_is (x0 + x2 + k0) k1 j1 h1 i1)
    ∙ then_like (digit_cmp (x0 + x2 + k0) k1 j1) _ _ (λ e1. ap (λ z. nat_cmp t2 (turned (x0 + x1 + k0 + z) j2)) (sym (digit_tells (x0 + x2 + k0) k1 j1 e1)) ∙ digit_is (x0 + x1 + k0 + k1) k2 j2 h2 i2))

places_by_digits : (dim : Dim) (p : CellKey) (k j : List ℕ) → IsDigits dim k → IsDigits dim j → nat_cmp (sibling_place dim (child_of p k)) (sibling_place dim (child_of p j)) ≡ digits_cmp dim p k j
places_by_digits Two p k j hk hj =
    ap (λ n. nat_cmp n (sibling_place Two (child_of p j))) (child_place Two p k hk)
    ∙ ap (nat_cmp (place_of Two (at p 0) (at p 1) (at p 2) (slice_index k 0) (slice_index k 1) (slice_index k 2))) (child_place Two p j hj)
    ∙ plane_digits (at p 0) (at p 1) (at p 2) (slice_index k 0) (slice_index k 1) (slice_index k 2) (slice_index j 0) (slice_index j 1) (slice_index j 2) hk.first hk.second hj.first hj.second
places_by_digits Three p k j hk hj =
    ap (λ n. nat_cmp n (sibling_place Three (child_of p j))) (child_place Three p k hk)
    ∙ ap (nat_cmp (place_of Three (at p 0) (at p 1) (at p 2) (slice_index k 0) (slice_index k 1) (slice_index k 2))) (child_place Three p j hj)
    ∙ space_digits (at p 0) (at p 1) (at p 2) (slice_index k 0) (slice_index k 1) (slice_index k 2) (slice_index j 0) (slice_index j 1) (slice_index j 2) hk.first hk.second hk.third hj.first hj.second hj.third

-- siblings have their parent's rank first
child_rank : (dim : Dim) (p : CellKey) (k : List ℕ) → IsDigits dim k → rank_of dim (child_of p k) ≡ children dim * rank_of dim p + sibling_place dim (child_of p k)
child_rank dim p k h =
    let l : p.level + 1 - 1 ≡ p.level = omega arith in
    let d0 : (3 * at p 0 + slice_index k 0) / 3 ≡ at p 0 = omega (arith, h.first) in
    let d1 : (3 * at p 1 + slice_index k 1) / 3 ≡ at p 1 = omega (arith, h.second) in
    let d2 : (3 * at p 2 + slice_index k 2) / 3 ≡ at p 2 = omega (arith, third dim h.third) in
    rank_of-step dim (child_of p k) (omega arith)
    ∙ ap (λ r. children dim * r + sibling_place dim (child_of p k)) (ap (λ z. rank_from dim z ((3 * at p 0 + slice_index k 0) / 3) ((3 * at p 1 + slice_index k 1) / 3) ((3 * at p 2 + slice_index k 2) / 3)) l ∙ ap (λ z. rank_from dim p.level z ((3 * at p 1 + slice_index k 1) / 3) ((3 * at p 2 + slice_index k 2) / 3)) d0 ∙ ap (λ z. rank_from dim p.level (at p 0) z ((3 * at p 2 + slice_index k 2) / 3)) d1 ∙ ap (λ z. rank_from dim p.level (at p 0) (at p 1) z) d2)
  where
    third : (dim : Dim) → slice_index k 2 < third_extent dim 3 → slice_index k 2 < 3
    third Two x = omega arith
    third Three x = x

children_apart : (dim : Dim) (p : CellKey) (k j : List ℕ) → IsDigits dim k → IsDigits dim j → IsCell dim (child_of p k) → IsCell dim (child_of p j) → k ≢ j → rank_of dim (child_of p k) ≢ rank_of dim (child_of p j)
children_apart dim p k j hk hj ck cj apart same =
    let one = ranks_tell_apart dim (child_of p k) (child_of p j) ck cj refl same in
    let e0 : slice_index k 0 ≡ slice_index j 0 = omega (arith, ap (λ (q : CellKey). at q 0) one) in
    let e1 : slice_index k 1 ≡ slice_index j 1 = omega (arith, ap (λ (q : CellKey). at q 1) one) in
    let e2 : slice_index k 2 ≡ slice_index j 2 = omega (arith, ap (λ (q : CellKey). at q 2) one) in
    apart (sym (three k hk.shape) ∙ ap (λ z. triple z (slice_index k 1) (slice_index k 2)) e0 ∙ ap (λ z. triple (slice_index j 0) z (slice_index k 2)) e1 ∙ ap (λ z. triple (slice_index j 0) (slice_index j 1) z) e2 ∙ three j hj.shape)

-- the rank of an ancestor in rows below a cell further up
rank_at_row : (dim : Dim) (c a : CellKey) (l : ℕ) → IsIn c a → c.level ≤ l → l ≤ a.level → rank_at dim a l ≡ children dim ^ (l - c.level) * rank_of dim c + rank_from dim (l - c.level) (at (ancestor_of a l) 0) (at (ancestor_of a l) 1) (at (ancestor_of a l) 2)
rank_at_row dim c a l inside low high =
    rank_at_ancestor dim a l high
    ∙ rank_of_ancestor dim (ancestor_of a l) c.level low
    ∙ ap (λ r. children dim ^ (l - c.level) * r + rank_from dim (l - c.level) (at (ancestor_of a l) 0) (at (ancestor_of a l) 1) (at (ancestor_of a l) 2)) (ap (rank_of dim) (ancestor_again a l c.level low high ∙ inside.ancestor))

then_differs : (o p : Ordering) → (o ≡ Equal → ⊥) → ordering_then o p ≡ o
then_differs Less p h = refl
then_differs Equal p h = absurd (h refl)
then_differs Greater p h = refl

pub order_is_by_digits : OrderIsByDigits
order_is_by_digits dim p a b k j ha hb hk hj apart in_a in_b =
    let l : ℕ = min a.level b.level in
    let low : p.level + 1 ≤ l = omega (arith, in_a.level, in_b.level) in
    let w : ℕ = children dim ^ (l - (p.level + 1)) in
    let ck : IsCell dim (child_of p k) = subst (IsCell dim) in_a.ancestor (ancestor_cell dim a (p.level + 1) ha in_a.level) in
    let cj : IsCell dim (child_of p j) = subst (IsCell dim) in_b.ancestor (ancestor_cell dim b (p.level + 1) hb in_b.level) in
    let differ = children_apart dim p k j hk hj ck cj apart in
    let ra = rank_at_row dim (child_of p k) a l in_a low (omega arith) in
    let rb = rank_at_row dim (child_of p j) b l in_b low (omega arith) in
    let ranks : nat_cmp (rank_at dim a l) (rank_at dim b l) ≡ nat_cmp (rank_of dim (child_of p k)) (rank_of dim (child_of p j)) =
    ap (λ n. nat_cmp n (rank_at dim b l)) ra
    ∙ ap (nat_cmp (w * rank_of dim (child_of p k) + rank_from dim (l - (p.level + 1)) (at (ancestor_of a l) 0) (at (ancestor_of a l) 1) (at (ancestor_of a l) 2))) rb
    ∙ row_cmp w (rank_of dim (child_of p k)) (rank_of dim (child_of p j)) _ _ (rank_bound dim (l - (p.level + 1)) _ _ _) (rank_bound dim (l - (p.level + 1)) _ _ _) differ in
    then_differs (nat_cmp (rank_at dim a l) (rank_at dim b l)) (nat_cmp a.level b.level) (λ e. differ (cmp_tells _ _ (sym ranks ∙ e)))
    ∙ ranks
    ∙ ap (λ n. nat_cmp n (rank_of dim (child_of p j))) (child_rank dim p k hk)
    ∙ ap (nat_cmp (children dim * rank_of dim p + sibling_place dim (child_of p k))) (child_rank dim p j hj)
    ∙ added_cmp (children dim * rank_of dim p) (sibling_place dim (child_of p k)) (sibling_place dim (child_of p j))
    ∙ places_by_digits dim p k j hk hj

-- the middle of a row of an odd number of rows of odd width
odd_power : (dim : Dim) (k : ℕ) → children dim ^ k % 2 ≡ 1
odd_power dim zero = omega (arith, pow-zero (children dim))
odd_power Two (suc k) = omega (arith, pow-succ' 9 k, odd_power Two k)
odd_power Three (suc k) = omega (arith, pow-succ' 27 k, odd_power Three k)

middle_plane : (r w : ℕ) → w % 2 ≡ 1 → (9 * r + 4) * w + w / 2 ≡ r * (9 * w) + 9 * w / 2
middle_plane r w odd = let e1 : (9 * r + 4) * w ≡ 9 * (r * w) + 4 * w = grind arith in let e2 : r * (9 * w) ≡ 9 * (r * w) = grind arith in omega arith

middle_space : (r w : ℕ) → w % 2 ≡ 1 → (27 * r + 13) * w + w / 2 ≡ r * (27 * w) + 27 * w / 2
middle_space r w odd = let e1 : (27 * r + 13) * w ≡ 27 * (r * w) + 13 * w = grind arith in let e2 : r * (27 * w) ≡ 27 * (r * w) = grind arith in omega arith

turned_middle : (s : ℕ) → turned s 1 ≡ 1
turned_middle s = grind (arith, nat_tests)

wider : (dim : Dim) (l depth : ℕ) → l < depth → width_of dim l depth ≡ children dim * width_of dim (l + 1) depth
wider dim l depth h = let e : depth - l ≡ suc (depth - (l + 1)) = omega arith in ap (λ k. children dim ^ k) e ∙ pow-succ' (children dim) (depth - (l + 1))

pub centre_is_shared : CentreIsShared
centre_is_shared Two c depth below =
    let w : ℕ = width_of Two (c.level + 1) depth in
    let digits : IsDigits Two (triple 1 1 0) = record { shape = refl; first = omega arith; second = omega arith; third = omega arith } in
    let place : sibling_place Two (centre_child Two c) ≡ 4 = child_place Two c (triple 1 1 0) digits ∙ omega (arith, turned_middle (at c 1), turned_middle (at c 0 + 1)) in
    let rank : rank_of Two (centre_child Two c) ≡ 9 * rank_of Two c + 4 = child_rank Two c (triple 1 1 0) digits ∙ omega (arith, place) in
    ap (λ r. r * w + w / 2) rank ∙ middle_plane (rank_of Two c) w (odd_power Two (depth - (c.level + 1))) ∙ sym (ap (λ v. rank_of Two c * v + v / 2) (wider Two c.level depth below))
centre_is_shared Three c depth below =
    let w : ℕ = width_of Three (c.level + 1) depth in
    let digits : IsDigits Three (triple 1 1 1) = record { shape = refl; first = omega arith; second = omega arith; third = omega arith } in
    let place : sibling_place Three (centre_child Three c) ≡ 13 = child_place Three c (triple 1 1 1) digits ∙ omega (arith, turned_middle (at c 1 + at c 2), turned_middle (at c 0 + at c 2 + 1), turned_middle (at c 0 + at c 1 + 1 + 1)) in
    let rank : rank_of Three (centre_child Three c) ≡ 27 * rank_of Three c + 13 = child_rank Three c (triple 1 1 1) digits ∙ omega (arith, place) in
    ap (λ r. r * w + w / 2) rank ∙ middle_space (rank_of Three c) w (odd_power Three (depth - (c.level + 1))) ∙ sym (ap (λ v. rank_of Three c * v + v / 2) (wider Three c.level depth below))
