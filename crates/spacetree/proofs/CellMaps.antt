-- Sets of cells and maps from cells.
use Rattle.std.proofs.Common.{◌+◌, length, arith, ◌≡◌, ℕ, List, [], ◌∷◌, Some, Option, Bool, true, false, ◌||◌, ◌&&◌, cond, refl, ap, sym, ◌∙◌, subst, map, T}
use Rattle.std.specs.FinMap.{get, insert, entries, from_entries, from_sorted, get-from_entries, get-from_sorted, get-insert, entries-from_sorted, find, is_sorted, same_map}
use Rattle.std.specs.FinMap.Entries.{below_all}
use Rattle.std.specs.FinSet as set
use Rattle.std.specs.List.{AllByRecursion, IsDistinct}
use Rattle.std.specs.List.Sorted.{IsStrictlySortedBy}
use Rattle.std.proofs.lemmas.Map.Keys.{IsDistinct-from_sorted}
use Rattle.std.specs.Map.{lookup}
use Rattle.std.specs.Cmp.{IsTotalOrder, eq_by_cmp_equiv}
use Rattle.std.specs.Ordering.{nat_cmp, is_eq, is_lt, eq_by_cmp}
use Rattle.std.specs.declared.cmp.Ordering.TheVariants.{Less}
use Rattle.std.specs.Cmp.Lexicographic.{slice_cmp}
use Rattle.std.proofs.lemmas.Cmp.{nat_cmp_total, nat_list_cmp_total, then_total, on_total}
use Rattle.std.proofs.lemmas.Map.Lookups.{CmpEqualImpliesEq, exact_pairs, exact_unsigned, exact_bytes}
use Rattle.peano_keys.specs.declared.cell.CellKey.{CellKey}
use Rattle.peano_keys.specs.Cell.{key_cmp}
use Rattle.spacetree.specs.Leaves.{is_among}

-- keys that compare alike are one
pub exact_cells : CmpEqualImpliesEq key_cmp
exact_cells a b h = ap (λ (p : ℕ × List ℕ). record { level = p.0; x = p.1 }) (exact_pairs nat_cmp (slice_cmp nat_cmp) exact_unsigned exact_bytes (a.level, a.x) (b.level, b.x) h)

pub cells_total : IsTotalOrder key_cmp
cells_total = then_total (on_total (λ c. c.level) nat_cmp_total) (on_total (λ c. c.x) nat_list_cmp_total)

-- what the set that a list makes has
pub contains_cell : (ks : List CellKey) (q : CellKey) → set.contains (set.from_list {R = key_cmp} ks) q ≡ is_among ks q
contains_cell ks q = set.contains-from_list cells_total ks q

or_cond : (a b : Bool) → cond a true b ≡ (a || b)
or_cond true b = refl
or_cond false b = refl

-- lists that differ by one cell make sets that differ by it
pub one_added : (ks js : List CellKey) (s : CellKey) → ((q : CellKey) → is_among js q ≡ cond (is_eq (key_cmp s q)) true (is_among ks q)) → set.from_list {R = key_cmp} js ≡ set.insert (set.from_list ks) s
one_added ks js s h = set.same_set cells_total exact_cells _ _ (λ q.
    contains_cell js q ∙ h q ∙ ap (λ b. cond b true (is_among ks q)) ((eq_by_cmp_equiv cells_total).symm s q) ∙ or_cond (is_eq (key_cmp q s)) (is_among ks q)
    ∙ sym (set.contains-insert cells_total (set.from_list ks) s q ∙ ap (λ b. eq_by_cmp key_cmp q s || b) (contains_cell ks q)))

pub none_of : (x : CellKey) (xs : List CellKey) → AllByRecursion (λ y. eq_by_cmp key_cmp x y ≡ false) xs → is_among xs x ≡ false
none_of x [] h = refl
none_of x (y ∷ ys) h = rw h.0 (none_of x ys h.1)

len_of_distinct : (ks : List CellKey) → IsDistinct (eq_by_cmp key_cmp) ks → set.len (set.from_list {R = key_cmp} ks) ≡ length ks
unfolding IsDistinct
len_of_distinct [] h = set.len-empty key_cmp
len_of_distinct (k ∷ ks) h =
    set.len-insert cells_total (set.from_list ks) k
    ∙ ap (λ b. cond b (set.len (set.from_list {R = key_cmp} ks)) (set.len (set.from_list {R = key_cmp} ks) + 1)) (contains_cell ks k ∙ none_of k ks h.0)
    ∙ ap (λ n. n + 1) (len_of_distinct ks h.1) ∙ grind arith

-- the set of cells in order has as many as the list
pub len_of_set : (ks : List CellKey) → IsStrictlySortedBy key_cmp ks → set.len (set.from_list {R = key_cmp} ks) ≡ length ks
len_of_set ks h = len_of_distinct ks (IsDistinct-from_sorted key_cmp ks h)

both : (a b : Bool) → T a → T b → T (a && b)
both true b p q = q
both false b p q = p

module _ {X : Type 0} where
  -- what entries have at a cell
  abbrev pub entry_at : List (CellKey × X) → CellKey → Option X
  entry_at es c = lookup (λ k. is_eq (key_cmp c k)) es

  find_cell : (es : List (CellKey × X)) (q : CellKey) → find key_cmp q es ≡ entry_at es q
  find_cell [] q = refl
  find_cell (e ∷ es) q = ap (cond (is_eq (key_cmp q e.0)) (Some e.1)) (find_cell es q)

  -- what the map that the entries make has at a cell
  pub get_cell : (es : List (CellKey × X)) (q : CellKey) → get (from_entries {R = key_cmp} es) q ≡ entry_at es q
  get_cell es q = get-from_entries cells_total es q ∙ find_cell es q

  -- entries that differ at one cell make maps that differ there
  pub one_given : (es fs : List (CellKey × X)) (s : CellKey) (n : X) → ((q : CellKey) → entry_at fs q ≡ cond (is_eq (key_cmp s q)) (Some n) (entry_at es q)) → from_entries {R = key_cmp} fs ≡ insert (from_entries es) s n
  one_given es fs s n h = same_map cells_total exact_cells _ _ (λ q.
      get_cell fs q ∙ h q ∙ ap (λ b. cond b (Some n) (entry_at es q)) ((eq_by_cmp_equiv cells_total).symm s q)
      ∙ sym (get-insert cells_total (from_entries es) s n q ∙ ap (cond (is_eq (key_cmp q s)) (Some n)) (get_cell es q)))

  below_from_sorted : (x : CellKey) (es : List (CellKey × X)) → AllByRecursion (λ y. key_cmp x y ≡ Less) (map (λ e. e.0) es) → T (below_all key_cmp x es)
  below_from_sorted x [] h = tt
  below_from_sorted x (e ∷ es) h = subst (λ r. T (is_lt r && below_all key_cmp x es)) (sym h.0) (below_from_sorted x es h.1)

  sorted_entries : (es : List (CellKey × X)) → IsStrictlySortedBy key_cmp (map (λ e. e.0) es) → T (is_sorted key_cmp es)
  unfolding IsStrictlySortedBy
  sorted_entries [] h = tt
  sorted_entries (e ∷ es) h = both _ _ (below_from_sorted e.0 es h.0) (sorted_entries es h.1)

  -- the map of entries in key order has these entries
  pub entries_in_order : (es : List (CellKey × X)) → IsStrictlySortedBy key_cmp (map (λ e. e.0) es) → entries (from_entries {R = key_cmp} es) ≡ es
  entries_in_order es h =
      let sorted = sorted_entries es h in
      let same : from_entries {R = key_cmp} es ≡ from_sorted es = same_map cells_total exact_cells _ _ (λ q. get-from_entries cells_total es q ∙ sym (get-from_sorted key_cmp es q sorted)) in
      ap entries same ∙ entries-from_sorted key_cmp es sorted
