-- Steps of sets and lists of cells.
use Rattle.std.proofs.Common.{zero, suc, ◌+◌, ◌<◌, ◌≤◌, length, take, get_or, arith, ◌≡◌, ℕ, List, [], ◌∷◌, ◌++◌, Bool, true, false, ◌||◌, cond, refl, ap, sym, ◌∙◌, ◌⊎◌, inl, inr}
use Rattle.std.proofs.Math.Nat.{eq-or-lt_of_le}
use Rattle.std.specs.FinSet as set
use Rattle.std.specs.List.{list_any}
use Rattle.std.specs.Cmp.{Equal-is, tied_itself}
use Rattle.std.specs.Ordering.{is_eq, eq_by_cmp}
use Rattle.std.proofs.lemmas.Bool.{or_cases, or_left, or_right}
use Rattle.std.proofs.lemmas.List.{take_more}
use Rattle.peano_keys.specs.declared.cell.CellKey.{CellKey}
use Rattle.peano_keys.specs.Cell.{key_cmp}
use Rattle.peano_keys.specs.Grid.{Cells, Spacetree}
use Rattle.solver_api.specs.Step.{IsLeafOf}
use Rattle.spacetree.specs.Leaves.{is_among, ListsCells, ListsLeaves}
use Rattle.spacetree.specs.Digits.{IsKept}
use Rattle.spacetree.proofs.CellMaps.{cells_total, exact_cells}

-- a test of keys says that they are one
pub same_key : (a b : CellKey) → eq_by_cmp key_cmp a b ≡ true → a ≡ b
same_key a b h = exact_cells a b ((Equal-is (key_cmp a b)).0 h)

pub itself : (a : CellKey) → eq_by_cmp key_cmp a a ≡ true
itself a = ap is_eq (tied_itself cells_total a)

pub kept_by_insert : (s : Cells) (k : CellKey) → IsKept s (set.insert s k)
kept_by_insert s k q h = set.contains-insert cells_total s k q ∙ or_right (eq_by_cmp key_cmp q k) (set.contains s q) h

pub has_inserted : (s : Cells) (k : CellKey) → set.contains (set.insert s k) k ≡ true
has_inserted s k = set.contains-insert cells_total s k k ∙ or_left (eq_by_cmp key_cmp k k) (set.contains s k) (itself k)

pub inserted_cases : (s : Cells) (k q : CellKey) → set.contains (set.insert s k) q ≡ true → (q ≡ k) ⊎ (set.contains s q ≡ true)
inserted_cases s k q h =
    elim (or_cases (eq_by_cmp key_cmp q k) (set.contains s q) (sym (set.contains-insert cells_total s k q) ∙ h)) [ inl e ↦ inl (same_key q k e) | inr e ↦ inr e ]

one_bound : (b : Bool) (n m : ℕ) → n ≡ m → cond b n (n + 1) ≤ m + 1
one_bound true n m e = omega arith
one_bound false n m e = omega arith

-- one more cell counts at most one more
pub len_by_insert : (s : Cells) (k : CellKey) → set.len (set.insert s k) ≤ set.len s + 1
len_by_insert s k = rw (set.len-insert cells_total s k) (one_bound (set.contains s k) (set.len s) (set.len s) refl)

any_push : (test : CellKey → Bool) (xs : List CellKey) (y : CellKey) → list_any test (xs ++ y ∷ []) ≡ (test y || list_any test xs)
any_push test [] y = refl
any_push test (x ∷ xs) y = ap (λ b. test x || b) (any_push test xs y) ∙ turn (test x) (test y) (list_any test xs) where
  turn : (a b c : Bool) → (a || (b || c)) ≡ (b || (a || c))
  turn true true c = refl
  turn true false c = refl
  turn false b c = refl

-- which cells are among the first `i + 1`
pub among_next : (xs : List CellKey) (i : ℕ) (d q : CellKey) → i < length xs → is_among (take (i + 1) xs) q ≡ (eq_by_cmp key_cmp q (get_or xs i d) || is_among (take i xs) q)
among_next xs i d q h = ap (list_any (eq_by_cmp key_cmp q)) (take_more xs i d h) ∙ any_push (eq_by_cmp key_cmp q) (take i xs) (get_or xs i d)

-- a cell among the first `i + 1` is among the first `i` or is the last of them
pub among_more : (xs : List CellKey) (i : ℕ) (d q : CellKey) → i < length xs → is_among (take (i + 1) xs) q ≡ true → (is_among (take i xs) q ≡ true) ⊎ (q ≡ get_or xs i d)
among_more xs i d q h e =
    let k = get_or xs i d in
    elim (or_cases (eq_by_cmp key_cmp q k) (is_among (take i xs) q) (sym (among_next xs i d q h) ∙ e)) [ inl f ↦ inr (same_key q k f) | inr f ↦ inl f ]

-- each cell of a list is among it
pub among_at : (xs : List CellKey) (i : ℕ) (d : CellKey) → i < length xs → is_among xs (get_or xs i d) ≡ true
among_at [] i d h = absurd (omega arith)
among_at (x ∷ xs) zero d h = or_left (eq_by_cmp key_cmp x x) _ (itself x)
among_at (x ∷ xs) (suc i) d h = or_right (eq_by_cmp key_cmp (get_or xs i d) x) _ (among_at xs i d (omega arith))

-- a number below `n + 1` is below `n` or is `n`
pub below_or_at : (a n : ℕ) → a < n + 1 → (a < n) ⊎ (a ≡ n)
below_or_at a n h = let le : a ≤ n = omega arith in elim (eq-or-lt_of_le le) [ inl e ↦ inr e | inr l ↦ inl l ]

-- what a read past the end of a list of cells gives
abbrev pub nowhere : CellKey
nowhere = record { level = 0; x = [] }

-- each cell that lists a set is in the set
pub listed_at : (s : Cells) (parents cells : List CellKey) (i : ℕ) → ListsCells s parents → cells ≡ parents → i < length cells → set.contains s (get_or cells i nowhere) ≡ true
listed_at s parents cells i lists same h =
    sym (lists.members (get_or cells i nowhere)) ∙ ap (λ l. is_among l (get_or cells i nowhere)) (sym same) ∙ among_at cells i nowhere h

-- each cell that lists the leaves of a grid is a leaf
pub leaf_at : (t : Spacetree) (leaves cells : List CellKey) (i : ℕ) → ListsLeaves t leaves → cells ≡ leaves → i < length cells → IsLeafOf t (get_or cells i nowhere)
leaf_at t leaves cells i lists same h =
    (lists.members (get_or cells i nowhere)).0 (ap (λ l. is_among l (get_or cells i nowhere)) (sym same) ∙ among_at cells i nowhere h)
