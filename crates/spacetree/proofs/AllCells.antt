-- Lists of cells: the children of some, all cells of a grid, all cells down to a level.
use Rattle.std.proofs.Common.{◌≡◌, ⊎_elim, ℕ, zero, suc, ◌^◌, ◌<◌, ◌≤◌, true, refl, ap, sym, ◌∙◌, arith, List, [], ◌∷◌, ◌++◌}
use Rattle.std.specs.FinSet as set
use Rattle.std.specs.Ordering.{eq_by_cmp}
use Rattle.std.proofs.lemmas.Bool.{false≢true, cases_eq, or_left, or_right, or_cases}
use Rattle.peano_keys.specs.declared.dim.Dim.{Dim}
use Rattle.peano_keys.specs.declared.cell.CellKey.{CellKey}
use Rattle.peano_keys.specs.Dim.{axes}
use Rattle.peano_keys.specs.Cell.{IsCell, parent_of, child_of, root, key_cmp}
use Rattle.peano_keys.specs.Grid.{Spacetree, is_refined, has_cell}
use Rattle.spacetree.specs.Digits.{digits_at, number_in}
use Rattle.spacetree.specs.Leaves.{is_among}
use Rattle.spacetree.proofs.CellSets.{same_key, itself}
use Rattle.spacetree.proofs.Children.{child_by_number, number_bound, parent_cell, root_is}
use Rattle.spacetree.proofs.Leaves.{parent_refined}

pub among_first : (xs ys : List CellKey) (q : CellKey) → is_among xs q ≡ true → is_among (xs ++ ys) q ≡ true
among_first [] ys q h = absurd (false≢true h)
among_first (x ∷ xs) ys q h = ⊎_elim (λ a. or_left _ _ a) (λ b. or_right _ _ (among_first xs ys q b)) (or_cases _ _ h)

pub among_second : (xs ys : List CellKey) (q : CellKey) → is_among ys q ≡ true → is_among (xs ++ ys) q ≡ true
among_second [] ys q h = h
among_second (x ∷ xs) ys q h = or_right _ _ (among_second xs ys q h)

abbrev pub upto : ℕ → (ℕ → CellKey) → List CellKey
upto zero f = []
upto (suc n) f = f n ∷ upto n f

among_upto : (n : ℕ) (f : ℕ → CellKey) (k : ℕ) → k < n → is_among (upto n f) (f k) ≡ true
among_upto zero f k h = absurd (omega (arith, h))
among_upto (suc n) f k h = ⊎_elim
    (λ e. or_left (eq_by_cmp key_cmp (f k) (f n)) (is_among (upto n f) (f k)) (ap (λ i. eq_by_cmp key_cmp (f k) (f i)) (sym e) ∙ itself (f k)))
    (λ other. or_right (eq_by_cmp key_cmp (f k) (f n)) (is_among (upto n f) (f k)) (among_upto n f k (omega (arith, h, other))))
    (cases_eq k n)

-- the children of the cells of a list
abbrev pub cells_under : Dim → List CellKey → List CellKey
cells_under dim [] = []
cells_under dim (p ∷ ps) = upto (3 ^ axes dim) (λ n. child_of p (digits_at dim n)) ++ cells_under dim ps

pub among_under : (dim : Dim) (ps : List CellKey) (c : CellKey) → IsCell dim c → 0 < c.level → is_among ps (parent_of c) ≡ true → is_among (cells_under dim ps) c ≡ true
among_under dim [] c cell deep h = absurd (false≢true h)
among_under dim (p ∷ ps) c cell deep h = ⊎_elim
    (λ a.
    let own : c ≡ child_of p (digits_at dim (number_in dim c)) = child_by_number dim c p (number_in dim c) cell deep (same_key (parent_of c) p a) refl in
    among_first (upto (3 ^ axes dim) (λ n. child_of p (digits_at dim n))) (cells_under dim ps) c (ap (is_among (upto (3 ^ axes dim) (λ n. child_of p (digits_at dim n)))) own ∙ among_upto (3 ^ axes dim) (λ n. child_of p (digits_at dim n)) (number_in dim c) (number_bound dim c)))
    (λ b. among_second (upto (3 ^ axes dim) (λ n. child_of p (digits_at dim n))) (cells_under dim ps) c (among_under dim ps c cell deep b))
    (or_cases (eq_by_cmp key_cmp (parent_of c) p) (is_among ps (parent_of c)) h)

-- the root and the children of a list have a cell, if the list has its parent
from_parents : (dim : Dim) (ps : List CellKey) (c : CellKey) → IsCell dim c → (0 < c.level → is_among ps (parent_of c) ≡ true) → is_among (root ∷ cells_under dim ps) c ≡ true
from_parents dim ps c cell parent = ⊎_elim
    (λ e. or_left (eq_by_cmp key_cmp c root) (is_among (cells_under dim ps) c) (ap (λ q. eq_by_cmp key_cmp q root) (root_is dim c cell e) ∙ itself root))
    (λ apart.
    let deep : 0 < c.level = omega (arith, apart) in
    or_right (eq_by_cmp key_cmp c root) (is_among (cells_under dim ps) c) (among_under dim ps c cell deep (parent deep)))
    (cases_eq c.level 0)

-- a list that has all cells of a grid, from one of its refined cells
pub listed_under : (g : Spacetree) (ps : List CellKey) → ((q : CellKey) → is_refined g q ≡ true → is_among ps q ≡ true) → (c : CellKey) → IsCell g.dim c → has_cell g c ≡ true → is_among (root ∷ cells_under g.dim ps) c ≡ true
listed_under g ps all c cell there = from_parents g.dim ps c cell (λ deep. all (parent_of c) (parent_refined g c deep there))

-- all cells of a grid
abbrev pub all_cells : Spacetree → List CellKey
all_cells g = root ∷ cells_under g.dim (set.items g.refined)

pub listed : (g : Spacetree) (c : CellKey) → IsCell g.dim c → has_cell g c ≡ true → is_among (all_cells g) c ≡ true
listed g c cell there = listed_under g (set.items g.refined) (λ q h. sym (set.contains-items g.refined q) ∙ h) c cell there

-- all cells of the domain down to a level
abbrev pub cells_to : Dim → ℕ → List CellKey
cells_to dim zero = root ∷ []
cells_to dim (suc n) = root ∷ cells_under dim (cells_to dim n)

pub listed_to : (dim : Dim) (n : ℕ) (c : CellKey) → IsCell dim c → c.level ≤ n → is_among (cells_to dim n) c ≡ true
listed_to dim zero c cell h = from_parents dim [] c cell (λ deep. absurd (omega (arith, deep, h)))
listed_to dim (suc n) c cell h = from_parents dim (cells_to dim n) c cell (λ deep. listed_to dim n (parent_of c) (parent_cell dim c cell deep) (omega (arith, deep, h)))
