-- Sets to which the cells of a list are added one after another, where a fact holds.
use Rattle.std.proofs.Common.{◌+◌, ◌<◌, ◌≤◌, length, take, get_or, arith, ◌≡◌, ℕ, List, [], true, ap, sym, ◌∙◌, subst, ◌⊎◌, inl, inr, ◌↔◌}
use Rattle.std.specs.FinSet as set
use Rattle.std.specs.Ordering.{eq_by_cmp}
use Rattle.std.proofs.lemmas.Bool.{false≢true, or_cases, or_left, or_right}
use Rattle.peano_keys.specs.declared.cell.CellKey.{CellKey}
use Rattle.peano_keys.specs.declared.side.Mark.{Mark}
use Rattle.peano_keys.specs.Cell.{key_cmp}
use Rattle.peano_keys.specs.Grid.{Cells, Spacetree}
use Rattle.spacetree.specs.Leaves.{is_among, ListsCells, ListsLeaves}
use Rattle.spacetree.specs.Marked.{HasMarked, IsAddedWhere}
use Rattle.spacetree.proofs.CellMaps.{cells_total, exact_cells, contains_cell, len_of_set}
use Rattle.spacetree.proofs.CellSets.{itself, same_key, kept_by_insert, has_inserted, inserted_cases, len_by_insert, among_next}

-- a set has the cells of another, and those of a list for which a fact holds
abbrev pub Sifts : (CellKey → Type 0) → List CellKey → Cells → Cells → Type 0
Sifts P cells base s = (q : CellKey) → (set.contains s q ≡ true) ↔ ((set.contains base q ≡ true) ⊎ ((is_among cells q ≡ true) × P q))

pub sifts_none : (P : CellKey → Type 0) (base s : Cells) → s ≡ base → Sifts P [] base s
sifts_none P base s e q = (
  λ h. inl (ap (λ r. set.contains r q) (sym e) ∙ h),
  λ h. elim h [ inl b ↦ ap (λ r. set.contains r q) e ∙ b | inr a ↦ absurd (false≢true a.0) ],
)

stays : (P : Type 0) (k q : CellKey) (s new : Cells) → IsAddedWhere P k s new → set.contains s q ≡ true → set.contains new q ≡ true
stays P k q s new (inl a) h = ap (λ r. set.contains r q) a.1 ∙ kept_by_insert s k q h
stays P k q s new (inr a) h = ap (λ r. set.contains r q) a.1 ∙ h

added_cases : (P : Type 0) (k q : CellKey) (s new : Cells) → IsAddedWhere P k s new → set.contains new q ≡ true → ((q ≡ k) × P) ⊎ (set.contains s q ≡ true)
added_cases P k q s new (inl a) h = elim (inserted_cases s k q (ap (λ r. set.contains r q) (sym a.1) ∙ h)) [ inl e ↦ inl (e, a.0) | inr e ↦ inr e ]
added_cases P k q s new (inr a) h = inr (ap (λ r. set.contains r q) (sym a.1) ∙ h)

has_added : (P : Type 0) (k : CellKey) (s new : Cells) → IsAddedWhere P k s new → P → set.contains new k ≡ true
has_added P k s new (inl a) p = ap (λ r. set.contains r k) a.1 ∙ has_inserted s k
has_added P k s new (inr a) p = absurd (a.0 p)

-- one more cell counts at most one more
pub len_by_added : (P : Type 0) (k : CellKey) (s new : Cells) → IsAddedWhere P k s new → set.len new ≤ set.len s + 1
len_by_added P k s new (inl a) = omega (arith, ap set.len a.1, len_by_insert s k)
len_by_added P k s new (inr a) = omega (arith, ap set.len a.1)

-- the next cell of the list is added where the fact holds
pub sifts_more : (P : CellKey → Type 0) (xs : List CellKey) (i : ℕ) (d : CellKey) (base s new : Cells) → i < length xs → Sifts P (take i xs) base s → IsAddedWhere (P (get_or xs i d)) (get_or xs i d) s new → Sifts P (take (i + 1) xs) base new
sifts_more P xs i d base s new h old added q =
    let k : CellKey = get_or xs i d in
    let next = among_next xs i d q h in (
      λ e. elim (added_cases (P k) k q s new added e) [
        | inl a ↦ inr (next ∙ or_left (eq_by_cmp key_cmp q k) (is_among (take i xs) q) (ap (eq_by_cmp key_cmp q) (sym a.0) ∙ itself q), subst P (sym a.0) a.1)
        | inr c ↦ elim ((old q).0 c) [
          | inl b ↦ inl b
          | inr a ↦ inr (next ∙ or_right (eq_by_cmp key_cmp q k) (is_among (take i xs) q) a.0, a.1)
        ]
      ],
      λ e. elim e [
        | inl b ↦ stays (P k) k q s new added ((old q).1 (inl b))
        | inr a ↦ elim (or_cases (eq_by_cmp key_cmp q k) (is_among (take i xs) q) (sym next ∙ a.0)) [
          | inl f ↦
              let same : q ≡ k = same_key q k f in
              ap (set.contains new) same ∙ has_added (P k) k s new added (subst P same a.1)
          | inr f ↦ stays (P k) k q s new added ((old q).1 (inr (f, a.1)))
        ]
      ],
    )

-- the leaves with one mark
pub marked_by : (t : Spacetree) (marks : CellKey → Mark) (m : Mark) (leaves : List CellKey) (s : Cells) → ListsLeaves t leaves → Sifts (λ q. marks q ≡ m) leaves set.empty s → HasMarked t marks m s
marked_by t marks m leaves s lists sifts c = (
  λ h. elim ((sifts c).0 h) [ inl e ↦ absurd (false≢true (sym (set.contains-empty key_cmp c) ∙ e)) | inr a ↦ ((lists.members c).0 a.0, a.1) ],
  λ h. (sifts c).1 (inr ((lists.members c).1 h.0, h.1)),
)

-- a list of the cells of a set is as long as the set
pub listed_count : (s : Cells) (cells : List CellKey) → ListsCells s cells → length cells ≡ set.len s
listed_count s cells lists =
    let same : s ≡ set.from_list cells = set.same_set cells_total exact_cells s (set.from_list cells) (λ q. sym (lists.members q) ∙ sym (contains_cell cells q)) in
    sym (len_of_set cells lists.order) ∙ ap set.len (sym same)
