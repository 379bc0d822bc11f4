-- The root and the children of some cells as a set, and how many these are.
use Rattle.std.proofs.Common.{◌≡◌, ◌⊎◌, inl, inr, ⊎_elim, ℕ, zero, suc, ◌+◌, ◌*◌, ◌^◌, ◌<◌, ◌≤◌, true, cond, refl, sym, ap, ◌∙◌, arith, List, [], ◌∷◌, length}
use Rattle.std.specs.FinSet as set
use Rattle.std.specs.Ordering.{eq_by_cmp}
use Rattle.std.proofs.lemmas.Bool.{false≢true, cases_eq, or_left, or_right, or_cases}
use Rattle.peano_keys.specs.declared.dim.Dim.{Dim}
use Rattle.peano_keys.specs.declared.dim.Dim.TheVariants.{Two, Three}
use Rattle.peano_keys.specs.declared.cell.CellKey.{CellKey}
use Rattle.peano_keys.specs.Dim.{axes}
use Rattle.peano_keys.specs.Cell.{IsDigits, parent_of, child_of, root, key_cmp}
use Rattle.peano_keys.specs.Grid.{Cells}
use Rattle.spacetree.specs.Digits.{digits_at, number_in}
use Rattle.spacetree.specs.Leaves.{is_among}
use Rattle.spacetree.proofs.CellMaps.{cells_total}
use Rattle.spacetree.proofs.CellSets.{same_key, itself, kept_by_insert, has_inserted, inserted_cases}
use Rattle.spacetree.proofs.Children.{parent_of_child, third_digit}
use Rattle.spacetree.proofs.CountedSets.{false_by, in_list, with_all}
use Rattle.spacetree.proofs.Told.{true_told}

-- a cell that is new to a set makes it one larger
one_larger : (s : Cells) (c : CellKey) → (set.contains s c ≡ true → ⊥) → set.len (set.insert s c) ≡ set.len s + 1
one_larger s c new = set.len-insert cells_total s c ∙ ap (λ b. cond b (set.len s) (set.len s + 1)) (false_by (set.contains s c) new)

-- and one that it has does not
no_larger : (s : Cells) (c : CellKey) → set.contains s c ≡ true → set.len (set.insert s c) ≡ set.len s
no_larger s c there = set.len-insert cells_total s c ∙ ap (λ b. cond b (set.len s) (set.len s + 1)) there

module _ (dim : Dim) where
  abbrev pub fan : ℕ
  fan = 3 ^ axes dim

  -- the child at a number
  abbrev pub child : CellKey → ℕ → CellKey
  child p n = child_of p (digits_at dim n)

  pub digits_are : (n : ℕ) → n < fan → IsDigits dim (digits_at dim n)
  digits_are n h = by dim h where
    by : (d : Dim) → n < 3 ^ axes d → IsDigits d (digits_at d n)
    by Two h = record { shape = refl; first = omega (arith, h); second = omega arith; third = omega arith }
    by Three h = record { shape = refl; first = omega (arith, h); second = omega arith; third = omega arith }

  number_of : (p : CellKey) (n : ℕ) → n < fan → number_in dim (child p n) ≡ n
  number_of p n h = by dim h where
    by : (d : Dim) → n < 3 ^ axes d → number_in d (child_of p (digits_at d n)) ≡ n
    by Two h = omega (arith, h)
    by Three h = omega (arith, h)

  pub parent_is : (p : CellKey) (n : ℕ) → length p.x ≡ 3 → n < fan → parent_of (child p n) ≡ p
  parent_is p n shape h = let d = digits_are n h in parent_of_child p (digits_at dim n) shape d.first d.second (third_digit dim (digits_at dim n) d)

  -- a set with the first children of a cell
  abbrev with_first : Cells → CellKey → ℕ → Cells
  with_first s p zero = s
  with_first s p (suc n) = set.insert (with_first s p n) (child p n)

  first_cases : (s : Cells) (p : CellKey) (n : ℕ) (q : CellKey) → set.contains (with_first s p n) q ≡ true → (set.contains s q ≡ true) ⊎ ((k : ℕ) × (k < n) × (q ≡ child p k))
  first_cases s p zero q h = inl h
  first_cases s p (suc n) q h = ⊎_elim
      (λ e. inr (n, omega arith, e))
      (λ r. ⊎_elim (λ old. inl old) (λ k. inr (k.0, omega (arith, k.1), k.2)) (first_cases s p n q r))
      (inserted_cases (with_first s p n) (child p n) q h)

  first_kept : (s : Cells) (p : CellKey) (n : ℕ) (q : CellKey) → set.contains s q ≡ true → set.contains (with_first s p n) q ≡ true
  first_kept s p zero q h = h
  first_kept s p (suc n) q h = kept_by_insert (with_first s p n) (child p n) q (first_kept s p n q h)

  first_has : (s : Cells) (p : CellKey) (n k : ℕ) → k < n → set.contains (with_first s p n) (child p k) ≡ true
  first_has s p zero k h = absurd (omega (arith, h))
  first_has s p (suc n) k h = ⊎_elim
      (λ e. ap (λ i. set.contains (set.insert (with_first s p n) (child p n)) (child p i)) e ∙ has_inserted (with_first s p n) (child p n))
      (λ apart. kept_by_insert (with_first s p n) (child p n) (child p k) (first_has s p n k (omega (arith, h, apart))))
      (cases_eq k n)

  -- has so many more, where none was there
  first_many : (s : Cells) (p : CellKey) → ((k : ℕ) → k < fan → set.contains s (child p k) ≡ true → ⊥) → (n : ℕ) → n ≤ fan → set.len (with_first s p n) ≡ set.len s + n
  first_many s p apart zero h = omega arith
  first_many s p apart (suc n) h =
      let new : set.contains (with_first s p n) (child p n) ≡ true → ⊥ = λ there. ⊎_elim
      (λ old. apart n (omega (arith, h)) old)
      (λ k. absurd (omega (arith, k.1, h, number_of p n (omega (arith, h)), number_of p k.0 (omega (arith, h, k.1)), ap (number_in dim) k.2)))
      (first_cases s p n (child p n) there) in
      omega (arith, one_larger (with_first s p n) (child p n) new, first_many s p apart n (omega (arith, h)))

  -- and no more, where each was
  first_none : (s : Cells) (p : CellKey) → ((k : ℕ) → k < fan → set.contains s (child p k) ≡ true) → (n : ℕ) → n ≤ fan → set.len (with_first s p n) ≡ set.len s
  first_none s p all zero h = refl
  first_none s p all (suc n) h = no_larger (with_first s p n) (child p n) (first_kept s p n (child p n) (all n (omega (arith, h)))) ∙ first_none s p all n (omega (arith, h))

  -- the root and the children of some cells
  abbrev pub families : List CellKey → Cells
  families [] = set.insert set.empty root
  families (p ∷ ps) = with_first (families ps) p fan

  -- a cell that is one of the children
  abbrev pub IsChildIn : List CellKey → CellKey → Type 0
  IsChildIn ps q = (p : CellKey) × (k : ℕ) × (is_among ps p ≡ true) × (k < fan) × (q ≡ child p k)

  pub family_cases : (ps : List CellKey) (q : CellKey) → set.contains (families ps) q ≡ true → (q ≡ root) ⊎ IsChildIn ps q
  family_cases [] q h = ⊎_elim (λ e. inl e) (λ old. absurd (false≢true (sym (set.contains-empty key_cmp q) ∙ old))) (inserted_cases set.empty root q h)
  family_cases (p ∷ ps) q h = ⊎_elim
      (λ old. ⊎_elim (λ e. inl e) (λ r. inr (r.0, r.1, or_right (eq_by_cmp key_cmp r.0 p) (is_among ps r.0) r.2, r.3, r.4)) (family_cases ps q old))
      (λ k. inr (p, k.0, or_left (eq_by_cmp key_cmp p p) (is_among ps p) (itself p), k.1, k.2))
      (first_cases (families ps) p fan q h)

  pub family_root : (ps : List CellKey) → set.contains (families ps) root ≡ true
  family_root [] = has_inserted set.empty root
  family_root (p ∷ ps) = first_kept (families ps) p fan root (family_root ps)

  pub family_has : (ps : List CellKey) (p : CellKey) (k : ℕ) → is_among ps p ≡ true → k < fan → set.contains (families ps) (child p k) ≡ true
  family_has [] p k h below = absurd (false≢true h)
  family_has (o ∷ ps) p k h below = ⊎_elim
      (λ e. ap (λ q. set.contains (families (o ∷ ps)) (child q k)) (same_key p o e) ∙ first_has (families ps) o fan k below)
      (λ r. first_kept (families ps) o fan (child p k) (family_has ps p k r below))
      (or_cases (eq_by_cmp key_cmp p o) (is_among ps p) h)

  -- they are the root and as many as each of the cells has children
  pub family_many : (ps : List CellKey) → ((p : CellKey) → is_among ps p ≡ true → length p.x ≡ 3) → set.len (families ps) ≡ 1 + fan * set.len (with_all set.empty ps)
  family_many [] shapes =
      let none = set.len-empty key_cmp in
      let no_more : fan * set.len (with_all set.empty []) ≡ 0 = ap (λ n. fan * n) none ∙ omega arith in
      omega (arith, one_larger set.empty root (λ h. false≢true (sym (set.contains-empty key_cmp root) ∙ h)), none, no_more)
  family_many (p ∷ ps) shapes =
      let shape : length p.x ≡ 3 = shapes p (or_left (eq_by_cmp key_cmp p p) (is_among ps p) (itself p)) in
      let others : (q : CellKey) → is_among ps q ≡ true → length q.x ≡ 3 = λ q h. shapes q (or_right (eq_by_cmp key_cmp q p) (is_among ps q) h) in
      let rest = family_many ps others in
      elim (true_told (is_among ps p)) [
        | inl again ↦
            let same = ap (λ n. fan * n) (no_larger (with_all set.empty ps) p (in_list ps p ∙ again)) in
            omega (arith, first_none (families ps) p (λ k below. family_has ps p k again below) fan (omega arith), rest, same)
        | inr new ↦
            let apart : (k : ℕ) → k < fan → set.contains (families ps) (child p k) ≡ true → ⊥ = λ k below there. ⊎_elim
            (λ e. absurd (omega (arith, ap (λ (q : CellKey). q.level) e)))
            (λ r. new (ap (is_among ps) (sym (parent_is p k shape below) ∙ ap parent_of r.4 ∙ parent_is r.0 r.1 (others r.0 r.2) r.3) ∙ r.2))
            (family_cases ps (child p k) there) in
            let one = ap (λ n. fan * n) (one_larger (with_all set.empty ps) p (λ h. new (sym (in_list ps p) ∙ h))) in
            let more : fan * (set.len (with_all set.empty ps) + 1) ≡ fan + fan * set.len (with_all set.empty ps) = grind arith in
            omega (arith, first_many (families ps) p apart fan (omega arith), rest, one, more)
      ]
