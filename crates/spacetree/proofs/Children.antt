-- Cells, their parents and their children.
use Rattle.std.proofs.Common.{◌-◌, ◌/◌, ◌<◌, ◌^◌, length, slice_index, arith, ◌≡◌, ℕ, List, [], ◌∷◌, refl, ap, sym, ◌∙◌, ◌+◌, ◌*◌}
use Rattle.std.proofs.lemmas.Nat.{pow-add}
use Rattle.peano_keys.specs.declared.dim.Dim.{Dim}
use Rattle.peano_keys.specs.declared.dim.Dim.TheVariants.{Two, Three}
use Rattle.peano_keys.specs.declared.cell.CellKey.{CellKey}
use Rattle.peano_keys.specs.Dim.{axes}
use Rattle.peano_keys.specs.Cell.{IsCell, IsDigits, at, triple, parent_of, child_of, root}
use Rattle.spacetree.specs.Digits.{digits_at, number_in}

abbrev key_from : ℕ → ℕ → ℕ → ℕ → CellKey
key_from l a b c = record { level = l; x = triple a b c }

three_items : (xs : List ℕ) → length xs ≡ 3 → xs ≡ triple (slice_index xs 0) (slice_index xs 1) (slice_index xs 2)
three_items [] h = absurd (omega arith)
three_items (a ∷ []) h = absurd (omega arith)
three_items (a ∷ b ∷ []) h = absurd (omega arith)
three_items (a ∷ b ∷ c ∷ []) h = refl
three_items (a ∷ b ∷ c ∷ d ∷ xs) h = absurd (omega arith)

-- a cell is its level and its three coordinates
pub key_from_parts : (q : CellKey) (l a b c : ℕ) → length q.x ≡ 3 → q.level ≡ l → at q 0 ≡ a → at q 1 ≡ b → at q 2 ≡ c → q ≡ record { level = l; x = triple a b c }
key_from_parts q l a b c h hl ha hb hc =
    let xs : q.x ≡ triple a b c = three_items q.x h ∙ (λ i. triple (ha i) (hb i) (hc i)) in
    λ i. record { level = hl i; x = xs i }

-- the parent of a child
pub parent_of_child : (p : CellKey) (k : List ℕ) → length p.x ≡ 3 → slice_index k 0 < 3 → slice_index k 1 < 3 → slice_index k 2 < 3 → parent_of (child_of p k) ≡ p
parent_of_child p k h a b c =
    sym (key_from_parts p _ _ _ _ h (omega arith) (omega arith) (omega arith) (omega arith))

-- a cell is the child of its parent at its number
pub child_by_number : (dim : Dim) (q p : CellKey) (n : ℕ) → IsCell dim q → 0 < q.level → parent_of q ≡ p → number_in dim q ≡ n → q ≡ child_of p (digits_at dim n)
child_by_number Two q p n h pos e m =
    let third : at q 2 < 1 = h.third in
    let first : at p 0 ≡ at q 0 / 3 = ap (λ r. at r 0) (sym e) in
    let second : at p 1 ≡ at q 1 / 3 = ap (λ r. at r 1) (sym e) in
    let last : at p 2 ≡ at q 2 / 3 = ap (λ r. at r 2) (sym e) in
    let level : p.level ≡ q.level - 1 = ap (λ r. r.level) (sym e) in
    key_from_parts q _ _ _ _ h.shape (omega arith) (omega arith) (omega arith) (omega arith)
child_by_number Three q p n h pos e m =
    let first : at p 0 ≡ at q 0 / 3 = ap (λ r. at r 0) (sym e) in
    let second : at p 1 ≡ at q 1 / 3 = ap (λ r. at r 1) (sym e) in
    let last : at p 2 ≡ at q 2 / 3 = ap (λ r. at r 2) (sym e) in
    let level : p.level ≡ q.level - 1 = ap (λ r. r.level) (sym e) in
    key_from_parts q _ _ _ _ h.shape (omega arith) (omega arith) (omega arith) (omega arith)

-- the number of a child
pub number_bound : (dim : Dim) (q : CellKey) → number_in dim q < 3 ^ axes dim
number_bound Two q = omega arith
number_bound Three q = omega arith

-- the one cell of level 0
pub root_is : (dim : Dim) (q : CellKey) → IsCell dim q → q.level ≡ 0 → q ≡ root
root_is Two q h e =
    let extent : 3 ^ q.level ≡ 1 = ap (λ l. 3 ^ l) e in
    let first : at q 0 < 1 = omega (arith, h.first) in
    let second : at q 1 < 1 = omega (arith, h.second) in
    let third : at q 2 < 1 = h.third in
    key_from_parts q _ _ _ _ h.shape e (omega arith) (omega arith) (omega arith)
root_is Three q h e =
    let extent : 3 ^ q.level ≡ 1 = ap (λ l. 3 ^ l) e in
    let first : at q 0 < 1 = omega (arith, h.first) in
    let second : at q 1 < 1 = omega (arith, h.second) in
    let third : at q 2 < 1 = omega (arith, h.third) in
    key_from_parts q _ _ _ _ h.shape e (omega arith) (omega arith) (omega arith)

-- each digit is below three
pub third_digit : (dim : Dim) (k : List ℕ) → IsDigits dim k → slice_index k 2 < 3
third_digit Two k h = let third : slice_index k 2 < 1 = h.third in omega arith
third_digit Three k h = h.third

-- a level has a third of the cells of the one below on an axis
extent_below : (l : ℕ) → 3 ^ (l + 1) ≡ 3 * 3 ^ l
extent_below l = omega (arith, pow-add 3 l 1)

-- and three times those of the one above
pub extent_above : (l : ℕ) → 0 < l → 3 ^ l ≡ 3 * 3 ^ (l - 1)
extent_above l h = let e : l ≡ l - 1 + 1 = omega arith in ap (λ n. 3 ^ n) e ∙ extent_below (l - 1)

-- the parent of a cell of the domain is one
pub parent_cell : (dim : Dim) (c : CellKey) → IsCell dim c → 0 < c.level → IsCell dim (parent_of c)
parent_cell Two c h pos =
    let step = extent_above c.level pos in
    let third : at c 2 < 1 = h.third in
    record { shape = refl; level = omega (arith, h.level); first = omega (arith, h.first, step); second = omega (arith, h.second, step); third = omega arith }
parent_cell Three c h pos =
    let step = extent_above c.level pos in
    record { shape = refl; level = omega (arith, h.level); first = omega (arith, h.first, step); second = omega (arith, h.second, step); third = omega (arith, h.third, step) }

-- a child of a cell of the domain is one
pub child_cell : (dim : Dim) (c : CellKey) (k : List ℕ) → IsCell dim c → c.level < 12 → IsDigits dim k → IsCell dim (child_of c k)
child_cell Two c k h room d =
    let step = extent_below c.level in
    let third : at c 2 < 1 = h.third in
    let digit : slice_index k 2 < 1 = d.third in
    record { shape = refl; level = omega arith; first = omega (arith, h.first, d.first, step); second = omega (arith, h.second, d.second, step); third = omega arith }
child_cell Three c k h room d =
    let step = extent_below c.level in
    record { shape = refl; level = omega arith; first = omega (arith, h.first, d.first, step); second = omega (arith, h.second, d.second, step); third = omega (arith, h.third, d.third, step) }
