-- Sets of the cells of lists, and how many cells they have.
use Rattle.std.proofs.Common.{◌≡◌, inl, inr, ℕ, ◌+◌, ◌≤◌, ◌||◌, Bool, true, false, cond, refl, sym, ap, ◌∙◌, arith, List, [], ◌∷◌, length}
use Rattle.std.specs.FinSet as set
use Rattle.std.specs.List.{IsDistinct}
use Rattle.std.specs.List.Sorted.{IsStrictlySortedBy}
use Rattle.std.specs.Cmp.{both_ways}
use Rattle.std.specs.Ordering.{eq_by_cmp}
use Rattle.std.proofs.lemmas.Bool.{false≢true, or_left, or_right}
use Rattle.std.proofs.lemmas.Map.Keys.{IsDistinct-from_sorted}
use Rattle.peano_keys.specs.declared.cell.CellKey.{CellKey}
use Rattle.peano_keys.specs.Cell.{key_cmp}
use Rattle.peano_keys.specs.Grid.{Cells}
use Rattle.spacetree.specs.Counts.{CountsCells, EachOnce}
use Rattle.spacetree.specs.Leaves.{is_among}
use Rattle.spacetree.proofs.CellMaps.{cells_total, exact_cells, none_of}
use Rattle.spacetree.proofs.CellSets.{itself, len_by_insert, same_key}
use Rattle.spacetree.proofs.Told.{true_told}

-- a set with the cells of a list
abbrev pub with_all : Cells → List CellKey → Cells
with_all s [] = s
with_all s (c ∷ cs) = set.insert (with_all s cs) c

or_swap : (a b c : Bool) → (a || (b || c)) ≡ (b || (a || c))
or_swap true true c = refl
or_swap true false c = refl
or_swap false b c = refl

or_false : (a : Bool) → a ≡ (a || false)
or_false true = refl
or_false false = refl

pub has_all : (s : Cells) (cs : List CellKey) (q : CellKey) → set.contains (with_all s cs) q ≡ (set.contains s q || is_among cs q)
has_all s [] q = or_false (set.contains s q)
has_all s (c ∷ cs) q = set.contains-insert cells_total (with_all s cs) c q ∙ ap (λ b. eq_by_cmp key_cmp q c || b) (has_all s cs q) ∙ or_swap (eq_by_cmp key_cmp q c) (set.contains s q) (is_among cs q)

pub false_by : (b : Bool) → (b ≡ true → ⊥) → b ≡ false
false_by true h = absurd (h refl)
false_by false h = refl

pub itself_first : (c : CellKey) (cs : List CellKey) → is_among (c ∷ cs) c ≡ true
itself_first c cs = or_left (eq_by_cmp key_cmp c c) (is_among cs c) (itself c)

-- as many more as the list has, where none of them was there
pub many : (s : Cells) (cs : List CellKey) → EachOnce cs → ((c : CellKey) → is_among cs c ≡ true → set.contains s c ≡ true → ⊥) → set.len (with_all s cs) ≡ set.len s + length cs
many s [] once apart = omega arith
many s (c ∷ cs) once apart =
    let fresh : set.contains (with_all s cs) c ≡ false = has_all s cs c ∙ ap (λ b. set.contains s c || b) once.0 ∙ sym (or_false (set.contains s c)) ∙ false_by (set.contains s c) (λ h. apart c (itself_first c cs) h) in
    let rest = many s cs once.1 (λ q h i. apart q (or_right (eq_by_cmp key_cmp q c) (is_among cs q) h) i) in
    set.len-insert cells_total (with_all s cs) c ∙ ap (λ b. cond b (set.len (with_all s cs)) (set.len (with_all s cs) + 1)) fresh ∙ omega (arith, rest)

-- a cell that is listed once more
again : (k q : CellKey) (ks : List CellKey) → is_among ks k ≡ true → is_among ks q ≡ (eq_by_cmp key_cmp q k || is_among ks q)
again k q ks there = by (eq_by_cmp key_cmp q k) refl where
  by : (b : Bool) → eq_by_cmp key_cmp q k ≡ b → is_among ks q ≡ (b || is_among ks q)
  by true e = ap (is_among ks) (same_key q k e) ∙ there
  by false e = refl

-- the cells of a list, each once
pub once_of : (ks : List CellKey) → (rs : List CellKey) × EachOnce rs × ((q : CellKey) → is_among rs q ≡ is_among ks q)
once_of [] = ([], tt, λ q. refl)
once_of (k ∷ ks) =
    let rest = once_of ks in
    elim (true_told (is_among ks k)) [
      | inl there ↦ (rest.0, rest.1, λ q. rest.2 q ∙ again k q ks there)
      | inr apart ↦ (k ∷ rest.0, (rest.2 k ∙ false_by (is_among ks k) apart, rest.1), λ q. ap (λ b. eq_by_cmp key_cmp q k || b) (rest.2 q))
    ]

-- the set of a list's cells
pub in_list : (cs : List CellKey) (q : CellKey) → set.contains (with_all set.empty cs) q ≡ is_among cs q
in_list cs q = has_all set.empty cs q ∙ ap (λ b. b || is_among cs q) (set.contains-empty key_cmp q)

-- has no more cells than the list,
pub no_more : (cs : List CellKey) → set.len (with_all set.empty cs) ≤ length cs
no_more [] = omega (arith, set.len-empty key_cmp)
no_more (c ∷ cs) = omega (arith, len_by_insert (with_all set.empty cs) c, no_more cs)

-- and as many where none stands twice
pub as_many : (cs : List CellKey) → EachOnce cs → set.len (with_all set.empty cs) ≡ length cs
as_many cs once = many set.empty cs once (λ c h i. false≢true (sym (set.contains-empty key_cmp c) ∙ i)) ∙ omega (arith, set.len-empty key_cmp)

-- the cells of a set, each once, are as many as the set has
pub listed_once : (s : Cells) → (cells : List CellKey) × EachOnce cells × ((q : CellKey) → is_among cells q ≡ set.contains s q) × (length cells ≡ set.len s)
listed_once s =
    let once = once_of (set.items s) in
    let members : (q : CellKey) → is_among once.0 q ≡ set.contains s q = λ q. once.2 q ∙ sym (set.contains-items s q) in
    (once.0, once.1, members, sym (as_many once.0 once.1) ∙ ap set.len (set.same_set cells_total exact_cells _ _ (λ q. in_list once.0 q ∙ members q)))

-- a list in key order has each cell once
once_of_distinct : (cells : List CellKey) → IsDistinct (eq_by_cmp key_cmp) cells → EachOnce cells
unfolding IsDistinct
once_of_distinct [] h = tt
once_of_distinct (c ∷ cells) h = (none_of c cells h.0, once_of_distinct cells h.1)

pub once_of_sorted : (cells : List CellKey) → IsStrictlySortedBy key_cmp cells → EachOnce cells
once_of_sorted cells h = once_of_distinct cells (IsDistinct-from_sorted key_cmp cells h)

-- of one kind there is one number of cells
pub count_is_one : (P : CellKey → Type 0) (n m : ℕ) → CountsCells P n → CountsCells P m → n ≡ m
count_is_one P n m a b =
    let same = set.same_set cells_total exact_cells (with_all set.empty a.cells) (with_all set.empty b.cells) (λ q. in_list a.cells q ∙ both_ways (is_among a.cells q) (is_among b.cells q) (λ h. (b.members q).1 ((a.members q).0 h)) (λ h. (a.members q).1 ((b.members q).0 h)) ∙ sym (in_list b.cells q)) in
    sym a.count ∙ sym (as_many a.cells a.once) ∙ ap set.len same ∙ as_many b.cells b.once ∙ b.count
