-- The set of all cells above those of a list.
use Rattle.std.proofs.Common.{◌≡◌, ◌⊎◌, inl, inr, ⊎_elim, ℕ, zero, suc, ◌<◌, Bool, true, false, ◌||◌, arith, refl, sym, ap, subst, ◌∙◌, List, [], ◌∷◌, length}
use Rattle.std.specs.FinSet as set
use Rattle.std.specs.List.{list_any}
use Rattle.std.specs.Cmp.{IsTotalOrder, Equal-is, eq_by_cmp_equiv}
use Rattle.std.specs.Ordering.{nat_cmp, eq_by_cmp}
use Rattle.std.specs.Cmp.Lexicographic.{slice_cmp}
use Rattle.std.proofs.lemmas.Bool.{false≢true, cases_eq}
use Rattle.std.proofs.lemmas.Cmp.{nat_cmp_total, nat_list_cmp_total, then_total, on_total}
use Rattle.std.proofs.lemmas.Map.Lookups.{CmpEqualImpliesEq, exact_pairs, exact_unsigned, exact_bytes}
use Rattle.peano_keys.specs.declared.cell.CellKey.{CellKey}
use Rattle.peano_keys.specs.Cell.{key_cmp}
use Rattle.peano_keys.specs.Grid.{Cells}
use Rattle.peano_curve.specs.Laws.{ancestor_of}
use Rattle.curve_cuts.specs.Tiles.{cell_in}

exact_cells : CmpEqualImpliesEq key_cmp
exact_cells a b h = ap (λ (p : ℕ × List ℕ). record { level = p.0; x = p.1 }) (exact_pairs nat_cmp (slice_cmp nat_cmp) exact_unsigned exact_bytes (a.level, a.x) (b.level, b.x) h)

cells_total : IsTotalOrder key_cmp
cells_total = then_total (on_total (λ c. c.level) nat_cmp_total) (on_total (λ c. c.x) nat_list_cmp_total)

-- a cell is on a list
abbrev is_on : List CellKey → CellKey → Bool
is_on cells q = list_any (eq_by_cmp key_cmp q) cells

-- the ancestors of a cell of levels below `n`, before others
abbrev with_ancestors : CellKey → ℕ → List CellKey → List CellKey
with_ancestors c zero rest = rest
with_ancestors c (suc l) rest = ancestor_of c l ∷ with_ancestors c l rest

abbrev all_above : List CellKey → List CellKey
all_above [] = []
all_above (c ∷ cells) = with_ancestors c c.level (all_above cells)

-- a cell above one of a list
pub record IsAbove (cells : List CellKey) (q : CellKey) : Type 0 where
  pub place : ℕ
  pub within : place < length cells
  pub level : ℕ
  pub above : level < (cell_in cells place).level
  pub is : q ≡ ancestor_of (cell_in cells place) level

either : (a b : Bool) → (a || b) ≡ true → (a ≡ true) ⊎ (b ≡ true)
either true b h = inl refl
either false b h = inr h

or_left : (a b : Bool) → a ≡ true → (a || b) ≡ true
or_left a b h = rw h refl

or_right : (a b : Bool) → b ≡ true → (a || b) ≡ true
or_right true b h = refl
or_right false b h = h

same_key : (q k : CellKey) → eq_by_cmp key_cmp q k ≡ true → q ≡ k
same_key q k h = exact_cells q k ((Equal-is (key_cmp q k)).0 h)

one_found : (c : CellKey) (n : ℕ) (rest : List CellKey) (q : CellKey) → is_on (with_ancestors c n rest) q ≡ true → ((l : ℕ) × (l < n) × (q ≡ ancestor_of c l)) ⊎ (is_on rest q ≡ true)
one_found c zero rest q h = inr h
one_found c (suc l) rest q h = ⊎_elim
    (λ here. inl (l, omega arith, same_key q (ancestor_of c l) here))
    (λ later. ⊎_elim (λ r. inl (r.0, omega (arith, r.1), r.2)) (λ r. inr r) (one_found c l rest q later))
    (either (eq_by_cmp key_cmp q (ancestor_of c l)) (is_on (with_ancestors c l rest) q) h)

rest_there : (c : CellKey) (n : ℕ) (rest : List CellKey) (q : CellKey) → is_on rest q ≡ true → is_on (with_ancestors c n rest) q ≡ true
rest_there c zero rest q h = h
rest_there c (suc l) rest q h = or_right (eq_by_cmp key_cmp q (ancestor_of c l)) _ (rest_there c l rest q h)

one_there : (c : CellKey) (n l : ℕ) (rest : List CellKey) → l < n → is_on (with_ancestors c n rest) (ancestor_of c l) ≡ true
one_there c zero l rest h = absurd (omega (arith, h))
one_there c (suc m) l rest h = ⊎_elim
    (λ e. or_left _ _ (subst (λ k. eq_by_cmp key_cmp (ancestor_of c l) (ancestor_of c k) ≡ true) e ((eq_by_cmp_equiv cells_total).refl (ancestor_of c l))))
    (λ apart. or_right (eq_by_cmp key_cmp (ancestor_of c l) (ancestor_of c m)) _ (one_there c m l rest (omega (arith, h, apart))))
    (cases_eq l m)

found : (cells : List CellKey) (q : CellKey) → is_on (all_above cells) q ≡ true → IsAbove cells q
found [] q h = absurd (false≢true h)
found (c ∷ cells) q h = ⊎_elim
    (λ r. record { place = zero; within = omega arith; level = r.0; above = r.1; is = r.2 })
    (λ r. let a = found cells q r in record { place = suc a.place; within = omega (arith, a.within); level = a.level; above = a.above; is = a.is })
    (one_found c c.level (all_above cells) q h)

there : (cells : List CellKey) (i l : ℕ) → i < length cells → l < (cell_in cells i).level → is_on (all_above cells) (ancestor_of (cell_in cells i) l) ≡ true
there [] i l h below = absurd (omega (arith, h))
there (c ∷ cells) zero l h below = one_there c c.level l (all_above cells) below
there (c ∷ cells) (suc i) l h below = rest_there c c.level (all_above cells) (ancestor_of (cell_in cells i) l) (there cells i l (omega (arith, h)) below)

pub set_above : List CellKey → Cells
set_above cells = set.from_list (all_above cells)

pub above_from_set : (cells : List CellKey) (q : CellKey) → set.contains (set_above cells) q ≡ true → IsAbove cells q
unfolding set_above
above_from_set cells q h = found cells q (sym (set.contains-from_list cells_total (all_above cells) q) ∙ h)

pub set_from_above : (cells : List CellKey) (i l : ℕ) → i < length cells → l < (cell_in cells i).level → set.contains (set_above cells) (ancestor_of (cell_in cells i) l) ≡ true
unfolding set_above
set_from_above cells i l h below = set.contains-from_list cells_total (all_above cells) (ancestor_of (cell_in cells i) l) ∙ there cells i l h below
