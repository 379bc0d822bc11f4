-- Keys of cells and of the cells above them.
use Rattle.std.proofs.Common.{◌≡◌, ℕ, zero, suc, ◌+◌, ◌-◌, ◌/◌, ◌^◌, ◌<◌, ◌≤◌, ◌==◌, ◌&&◌, Bool, true, false, List, [], ◌∷◌, nat_eq, refl, sym, ap, ◌∙◌, arith}
use Rattle.std.specs.Cmp.Lexicographic.{pointwise}
use Rattle.std.specs.Ordering.{eq_by_cmp}
use Rattle.std.proofs.Math.Nat.{div-div-eq-div-mul}
use Rattle.std.proofs.lemmas.Nat.{pow-add}
use Rattle.std.specs.Prelude.{nat_lt}
use Rattle.std.proofs.lemmas.Bool.Decides.{nat_tests}
use Rattle.tree_sums.specs.Totals.{is_above}
use Rattle.peano_keys.specs.declared.cell.CellKey.{CellKey}
use Rattle.peano_keys.specs.Cell.{at, triple, key_cmp, parent_of}
use Rattle.sweep_visits.specs.Moves.{same_coords, same_cell}
use Rattle.sweep_visits.proofs.Same.{cells_decided}
use Rattle.spacetree.specs.Build.{ancestor_of}
use Rattle.spacetree.proofs.CellSets.{same_key, itself}

-- the test that the code makes
abbrev pub is_key : CellKey → CellKey → Bool
is_key a b = (a.level == b.level) && pointwise nat_eq a.x b.x

coords_same : (xs ys : List ℕ) → pointwise nat_eq xs ys ≡ same_coords xs ys
coords_same [] [] = refl
coords_same [] (y ∷ ys) = refl
coords_same (x ∷ xs) [] = refl
coords_same (x ∷ xs) (y ∷ ys) = ap (λ b. (x == y) && b) (coords_same xs ys)

pub keys_same : (a b : CellKey) → is_key a b ≡ same_cell a b
keys_same a b = ap (λ t. (a.level == b.level) && t) (coords_same a.x b.x)

-- two tests that say yes at the same time are the same
pub tests_agree : (a b : Bool) → (a ≡ true → b ≡ true) → (b ≡ true → a ≡ true) → a ≡ b
tests_agree true b f g = sym (f refl)
tests_agree false true f g = g refl
tests_agree false false f g = refl

pub order_same : (a b : CellKey) → same_cell a b ≡ eq_by_cmp key_cmp a b
order_same a b = tests_agree (same_cell a b) (eq_by_cmp key_cmp a b) (λ h. let e = cells_decided.exact a b h in ap (eq_by_cmp key_cmp a) (sym e) ∙ itself a) (λ h. let e = same_key a b h in ap (same_cell a) (sym e) ∙ cells_decided.reflexive a)

thirds : (x n : ℕ) → x / 3 ^ n / 3 ≡ x / 3 ^ suc n
thirds x n =
    let e : n + 1 ≡ suc n = omega arith in
    div-div-eq-div-mul x (3 ^ n) 3 ∙ ap (λ k. x / k) (sym (pow-add 3 n 1)) ∙ ap (λ k. x / 3 ^ k) e

-- a cell so many levels above
pub ancestor_is : (j : ℕ) (m : CellKey) → ancestor_of (suc j) m ≡ record { level = m.level - suc j; x = triple (at m 0 / 3 ^ suc j) (at m 1 / 3 ^ suc j) (at m 2 / 3 ^ suc j) }
ancestor_is zero m = refl
ancestor_is (suc j) m =
    let l : m.level - suc j - 1 ≡ m.level - suc (suc j) = omega arith in
    ap parent_of (ancestor_is j m)
    ∙ (λ i. record { level = l i; x = triple (thirds (at m 0) (suc j) i) (thirds (at m 1) (suc j) i) (thirds (at m 2) (suc j) i) })

told : (a b : Bool) → a ≡ true → b ≡ (a && b)
told a b h = rw h refl

lt_told : (a b : ℕ) → a < b → nat_lt a b ≡ true
lt_told a b h = grind (arith, nat_tests)

lt_not : (a b : ℕ) → b ≤ a → nat_lt a b ≡ false
lt_not a b h = grind (arith, nat_tests)

-- the test that the code makes for a cell strictly above another
pub above_same : (c m : CellKey) (w : ℕ) → c.level < m.level → w ≡ 3 ^ (m.level - c.level) → is_key (record { level = c.level; x = triple (at m 0 / w) (at m 1 / w) (at m 2 / w) }) c ≡ is_above c m
above_same c m w below width =
    let j : ℕ = m.level - c.level - 1 in
    let e : suc j ≡ m.level - c.level = omega (arith, below) in
    let back : m.level - suc j ≡ c.level = omega (arith, below) in
    let d : CellKey = record { level = m.level - suc j; x = triple (at m 0 / 3 ^ suc j) (at m 1 / 3 ^ suc j) (at m 2 / 3 ^ suc j) } in
    let v : 3 ^ suc j ≡ w = ap (λ k. 3 ^ k) e ∙ sym width in
    let up : ancestor_of (m.level - c.level) m ≡ record { level = c.level; x = triple (at m 0 / w) (at m 1 / w) (at m 2 / w) } = ap (λ k. ancestor_of k m) (sym e) ∙ ancestor_is j m ∙ (λ i. record { level = back i; x = triple (at m 0 / v i) (at m 1 / v i) (at m 2 / v i) }) in
    keys_same (record { level = c.level; x = triple (at m 0 / w) (at m 1 / w) (at m 2 / w) }) c
    ∙ order_same (record { level = c.level; x = triple (at m 0 / w) (at m 1 / w) (at m 2 / w) }) c
    ∙ ap (λ a. eq_by_cmp key_cmp a c) (sym up)
    ∙ told (nat_lt c.level m.level) (eq_by_cmp key_cmp (ancestor_of (m.level - c.level) m) c) (lt_told c.level m.level below)

-- a cell of a level that is not deeper has none strictly below it
pub not_above : (c m : CellKey) → m.level ≤ c.level → is_above c m ≡ false
not_above c m h = rw (lt_not c.level m.level h) refl
