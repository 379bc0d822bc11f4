-- The rows of a field, sorted by their keys.
use Rattle.std.proofs.Common.{◌≡◌, ℕ, ◌+◌, ◌<◌, Bool, true, false, cond, List, [], ◌∷◌, length, get_or, map, Option, Some, None, ⊎_elim, inl, inr, refl, ap, ap₂, sym, subst, ◌∙◌, arith}
use Rattle.std.specs.FinMap as fin
use Rattle.std.specs.Cmp.{eq_by_cmp_equiv}
use Rattle.std.specs.List.{IsDistinct, AllByRecursion}
use Rattle.std.specs.List.Sorted.{IsPermutation, IsSortedByKey, IsStrictlySortedBy}
use Rattle.std.specs.Ordering.{eq_by_cmp, is_lt, is_eq, ordering_reverse}
use Rattle.std.specs.declared.cmp.Ordering.{Ordering}
use Rattle.std.specs.declared.cmp.Ordering.TheVariants.{Less, Equal, Greater}
use Rattle.std.proofs.lemmas.Bool.{false≢true}
use Rattle.std.proofs.lemmas.List.{get_or-map, length-map}
use Rattle.std.proofs.lemmas.List.Sorted.{IsPermutation-map, IsPermutation-sym, Contains-permutation}
use Rattle.std.proofs.lemmas.Map.Keys.{IsDistinct-IsPermutation, apart_from_distinct, sorted_from_all_adjacent}
use Rattle.stack_law.specs.Once.{IsIn}
use Rattle.peano_keys.specs.declared.cell.CellKey.{CellKey}
use Rattle.peano_keys.specs.declared.state.State.{State}
use Rattle.peano_keys.specs.Cell.{key_cmp}
use Rattle.peano_keys.specs.Field.{States}
use Rattle.spacetree.specs.declared.row.Row.{Row}
use Rattle.spacetree.specs.Fields.{row_of, rows_of}
use Rattle.spacetree.proofs.CellMaps.{cells_total, exact_cells, get_cell, entry_at, entries_in_order}
use Rattle.spacetree.proofs.CellSets.{same_key, itself}
use Rattle.showing_sweep.specs.Counts.{NoneTwice}
use Rattle.step_driver.specs.Showing.{AreRowsOf}
use Rattle.step_driver.proofs.Places.{in_place, place_in}

abbrev entry_of : Row → CellKey × State
entry_of r = (r.key, r.value)

abbrev pub key_of_row : Row → CellKey
key_of_row r = r.key

-- sorting keeps what is there
still_in : (xs ys : List Row) (r : Row) → IsPermutation xs ys → IsIn r xs → IsIn r ys
still_in xs ys r moved h =
    let found = Contains-permutation xs ys r moved (in_place r r xs h) in
    subst (λ z. IsIn z ys) found.2 (place_in r ys found.0 found.1)

-- keys that all differ from one
all_differ : (x : Row) (ys : List Row) → ((y : Row) → IsIn y ys → eq_by_cmp key_cmp x.key y.key ≡ false) → AllByRecursion (λ k. eq_by_cmp key_cmp x.key k ≡ false) (map key_of_row ys)
all_differ x [] each = tt
all_differ x (y ∷ ys) each = (each y (inl refl), all_differ x ys (λ z h. each z (inr h)))

not_true : (b : Bool) → (b ≡ true → ⊥) → b ≡ false
not_true true h = absurd (h refl)
not_true false h = refl

-- what `sort` leaves at a place is not below its neighbour, and where they differ it is above
rises : (o : Ordering) (b : Bool) → is_eq o ≡ false → (o ≡ Greater → b ≡ true) → b ≡ false → o ≡ Less
rises Less b e up low = refl
rises Equal b e up low = absurd (false≢true (sym e))
rises Greater b e up low = absurd (false≢true (sym low ∙ up refl))

greater_flips : (a b : CellKey) → key_cmp a b ≡ Greater → is_lt (key_cmp b a) ≡ true
greater_flips a b e = ap is_lt (cells_total.antisymm b a ∙ ap ordering_reverse e)

no_state : (s : State) → None ≡ Some s → ⊥
no_state s e = cc

-- what the first entries with a key tell
entry_there : (rows : List Row) (c : CellKey) (s : State) → entry_at (map entry_of rows) c ≡ Some s → IsIn (record { key = c; value = s }) rows
entry_there [] c s h = absurd (cc)
entry_there (r ∷ rows) c s h = by (entry_there rows c s) (eq_by_cmp key_cmp c r.key) refl h
  where
    some_is : (x y : State) → Some x ≡ Some y → x ≡ y
    some_is x y e = cc

    by : (entry_at (map entry_of rows) c ≡ Some s → IsIn (record { key = c; value = s }) rows) → (b : Bool) → eq_by_cmp key_cmp c r.key ≡ b → cond b (Some r.value) (entry_at (map entry_of rows) c) ≡ Some s → IsIn (record { key = c; value = s }) (r ∷ rows)
    by rest true e h = inl (λ i. record { key = same_key c r.key e i; value = sym (some_is r.value s h) i })
    by rest false e h = inr (rest h)

there_entry : (rows : List Row) (c : CellKey) (s : State) → IsIn (record { key = c; value = s }) rows → (v : State) × (entry_at (map entry_of rows) c ≡ Some v)
there_entry [] c s h = absurd h
there_entry (r ∷ rows) c s h = by (there_entry rows c s) (eq_by_cmp key_cmp c r.key) refl
  where
    by : (IsIn (record { key = c; value = s }) rows → (v : State) × (entry_at (map entry_of rows) c ≡ Some v)) → (b : Bool) → eq_by_cmp key_cmp c r.key ≡ b → (v : State) × (cond b (Some r.value) (entry_at (map entry_of rows) c) ≡ Some v)
    by next true e = (r.value, refl)
    by next false e = ⊎_elim
        (λ same. absurd (false≢true (sym e ∙ subst (λ k. eq_by_cmp key_cmp c k ≡ true) (ap key_of_row same) (itself c))))
        (λ rest. next rest)
        h

none_sorted : IsStrictlySortedBy key_cmp []
unfolding IsStrictlySortedBy
none_sorted = tt

module _ (f : States) where
  -- rows of a field with one key are one
  one_row : (rows : List Row) → ((r : Row) → IsIn r rows → fin.get f r.key ≡ Some r.value) → (a b : Row) → IsIn a rows → IsIn b rows → a.key ≡ b.key → a ≡ b
  one_row rows told a b h j same =
      let value : Some a.value ≡ Some b.value = sym (told a h) ∙ ap (fin.get f) same ∙ told b j in
      λ i. record { key = same i; value = some_is a.value b.value value i }
    where
      some_is : (x y : State) → Some x ≡ Some y → x ≡ y
      some_is x y e = cc

  keys_differ : (rows : List Row) → NoneTwice rows → ((r : Row) → IsIn r rows → fin.get f r.key ≡ Some r.value) → IsDistinct (eq_by_cmp key_cmp) (map key_of_row rows)
  unfolding IsDistinct
  keys_differ [] once told = tt
  keys_differ (x ∷ rows) once told = (
    all_differ x rows (λ y h. not_true (eq_by_cmp key_cmp x.key y.key) (λ e. once.0 (subst (λ z. IsIn z rows) (one_row (x ∷ rows) told y x (inr h) (inl refl) (sym (same_key x.key y.key e))) h))),
    keys_differ rows once.1 (λ r h. told r (inr h)),
  )

  module _ (xs ys : List Row) (are : AreRowsOf f xs) (moved : IsPermutation xs ys) (sorted : IsSortedByKey key_of_row key_cmp ys) where
    told : (r : Row) → IsIn r ys → fin.get f r.key ≡ Some r.value
    told r h = (are.members r).0 (still_in ys xs r (IsPermutation-sym xs ys moved) h)

    there : (r : Row) → fin.get f r.key ≡ Some r.value → IsIn r ys
    there r e = still_in xs ys r moved ((are.members r).1 e)

    distinct : IsDistinct (eq_by_cmp key_cmp) (map key_of_row ys)
    distinct = IsDistinct-IsPermutation (eq_by_cmp key_cmp) (λ a b. (eq_by_cmp_equiv cells_total).symm a b) (map key_of_row xs) (map key_of_row ys) (IsPermutation-map key_of_row xs ys moved) (keys_differ xs are.once (λ r h. (are.members r).0 h))

    ascend : (d : Row) (k : ℕ) → k + 1 < length (map key_of_row ys) → key_cmp (get_or (map key_of_row ys) k d.key) (get_or (map key_of_row ys) (k + 1) d.key) ≡ Less
    ascend d k below =
        let size = length-map ys key_of_row in
        let inside : k + 1 < length ys = omega (arith, below, size) in
        let a = get_or ys k d in
        let b = get_or ys (k + 1) d in
        let here : get_or (map key_of_row ys) k d.key ≡ a.key = get_or-map key_of_row ys k d d.key (omega (arith, inside)) in
        let next : get_or (map key_of_row ys) (k + 1) d.key ≡ b.key = get_or-map key_of_row ys (k + 1) d d.key inside in
        let apart : eq_by_cmp key_cmp a.key b.key ≡ false = ap₂ (eq_by_cmp key_cmp) (sym here) (sym next) ∙ apart_from_distinct (eq_by_cmp key_cmp) (map key_of_row ys) k (k + 1) d.key distinct (omega arith) below in
        ap₂ key_cmp here next ∙ rises (key_cmp a.key b.key) (is_lt (key_cmp b.key a.key)) apart (greater_flips a.key b.key) (sorted k d (omega arith) inside)

    -- they stand in key order
    pub rows_ascend : IsStrictlySortedBy key_cmp (map key_of_row ys)
    rows_ascend = by ys refl
      where
        by : (zs : List Row) → ys ≡ zs → IsStrictlySortedBy key_cmp (map key_of_row ys)
        by [] e = subst (λ zs. IsStrictlySortedBy key_cmp (map key_of_row zs)) (sym e) none_sorted
        by (z ∷ zs) e = sorted_from_all_adjacent cells_total (map key_of_row ys) z.key (ascend z)

    as_entries : (rows : List Row) → map (λ (e : CellKey × State). e.0) (map entry_of rows) ≡ map key_of_row rows
    as_entries [] = refl
    as_entries (r ∷ rows) = ap (λ ks. r.key ∷ ks) (as_entries rows)

    and_back : (rows : List Row) → map row_of (map entry_of rows) ≡ rows
    and_back [] = refl
    and_back (r ∷ rows) = ap (λ rs. r ∷ rs) (and_back rows)

    field_is : fin.from_entries {R = key_cmp} (map entry_of ys) ≡ f
    field_is = fin.same_map cells_total exact_cells (fin.from_entries (map entry_of ys)) f (λ c. get_cell (map entry_of ys) c ∙ by c (entry_at (map entry_of ys) c) refl (fin.get f c) refl)
      where
        by : (c : CellKey) (o : Option State) → entry_at (map entry_of ys) c ≡ o → (p : Option State) → fin.get f c ≡ p → entry_at (map entry_of ys) c ≡ fin.get f c
        by c (Some s) e p q = e ∙ sym (told (record { key = c; value = s }) (entry_there ys c s e))
        by c None e None q = e ∙ sym q
        by c None e (Some s) q = let v = there_entry ys c s (there (record { key = c; value = s }) q) in absurd (no_state v.0 (sym e ∙ v.1))

    -- so they are the field's
    pub sorted_rows : ys ≡ rows_of f
    sorted_rows =
        let entries = entries_in_order (map entry_of ys) (subst (IsStrictlySortedBy key_cmp) (sym (as_entries ys)) rows_ascend) in
        sym (and_back ys) ∙ ap (map row_of) (sym entries) ∙ ap rows_of field_is
