-- Lists of cells: when two are one, by the cells that they have in key order, and by the code's test.
use Rattle.std.proofs.Common.{◌≡◌, List, [], ◌∷◌, Some, None, Bool, true, false, ◌==◌, ◌&&◌, ◌||◌, not, nat_eq, eqb-true, eq-eqb, cond, refl, ap, sym, ◌∙◌, subst, map}
use Rattle.std.specs.Bool.{Decides}
use Rattle.std.specs.Cmp.Lexicographic.{pointwise}
use Rattle.std.specs.FinMap.{FinMap, entries, from_entries, same_map}
use Rattle.std.specs.List.Sorted.{IsStrictlySortedBy}
use Rattle.std.specs.Ordering.{eq_by_cmp}
use Rattle.std.proofs.lemmas.Bool.{and_parts, false≢true}
use Rattle.std.proofs.lemmas.Slice.Eq.{bytes_eq-Decides, slice_eq-Decides}
use Rattle.peano_keys.specs.declared.cell.CellKey.{CellKey}
use Rattle.peano_keys.specs.Cell.{key_cmp}
use Rattle.spacetree.specs.Leaves.{is_among}
use Rattle.spacetree.proofs.CellMaps.{cells_total, exact_cells, entry_at, entries_in_order, get_cell}

-- the cells of a list as the keys of a map that says nothing of them
abbrev listed : List CellKey → List (CellKey × Unit {0})
listed [] = []
listed (k ∷ ks) = (k, tt) ∷ listed ks

keys_listed : (ks : List CellKey) → map (λ e. e.0) (listed ks) ≡ ks
keys_listed [] = refl
keys_listed (k ∷ ks) = ap (λ l. k ∷ l) (keys_listed ks)

pick : {X : Type 0} (v : X) (b a : Bool) → cond b (Some v) (cond a (Some v) None) ≡ cond (b || a) (Some v) None
pick v true a = refl
pick v false a = refl

at_listed : (ks : List CellKey) (q : CellKey) → entry_at (listed ks) q ≡ cond (is_among ks q) (Some tt) None
at_listed [] q = refl
at_listed (k ∷ ks) q = ap (cond (eq_by_cmp key_cmp q k) (Some tt)) (at_listed ks q) ∙ pick tt (eq_by_cmp key_cmp q k) (is_among ks q)

abbrev map_of : List CellKey → FinMap key_cmp (Unit {0})
map_of ks = from_entries {R = key_cmp} (listed ks)

same_maps : (ks js : List CellKey) → ((q : CellKey) → is_among ks q ≡ is_among js q) → map_of ks ≡ map_of js
same_maps ks js same = same_map cells_total exact_cells (map_of ks) (map_of js) (λ q.
    get_cell (listed ks) q ∙ at_listed ks q ∙ ap (λ b. cond b (Some tt) None) (same q) ∙ sym (get_cell (listed js) q ∙ at_listed js q))

entries_of : (ks : List CellKey) → IsStrictlySortedBy key_cmp ks → entries (map_of ks) ≡ listed ks
entries_of ks order = entries_in_order (listed ks) (subst (IsStrictlySortedBy key_cmp) (sym (keys_listed ks)) order)

pub same_cells : (ks js : List CellKey) → IsStrictlySortedBy key_cmp ks → IsStrictlySortedBy key_cmp js → ((q : CellKey) → is_among ks q ≡ is_among js q) → ks ≡ js
same_cells ks js first second same =
    sym (keys_listed ks) ∙ ap (map (λ e. e.0)) (sym (entries_of ks first) ∙ ap entries (same_maps ks js same) ∙ entries_of js second) ∙ keys_listed js

-- the test of two keys that the code makes
abbrev pub is_key : CellKey → CellKey → Bool
is_key a b = (a.level == b.level) && pointwise nat_eq a.x b.x

key_told : (a b : CellKey) → Decides (is_key a b) (a ≡ b)
key_told a b = (
  λ h.
      let parts = and_parts (a.level == b.level) (pointwise nat_eq a.x b.x) h in
      let levels = eqb-true a.level b.level parts.0 in
      let coords = (bytes_eq-Decides a.x b.x).0 parts.1 in
      λ i. record { level = levels i; x = coords i },
  λ e. ap (is_key a) (sym e) ∙ ap (λ r. r && pointwise nat_eq a.x a.x) (eq-eqb a.level a.level refl) ∙ (bytes_eq-Decides a.x a.x).1 refl,
)

-- what the test of two lists says, where it asks whether they differ
pub lists_are_one : (ks js : List CellKey) (r : Bool) → r ≡ not (pointwise is_key ks js) → r ≡ false → ks ≡ js
lists_are_one ks js r h e = (slice_eq-Decides key_told ks js (pointwise is_key ks js) refl).0 (not_false (pointwise is_key ks js) (sym h ∙ e)) where
  not_false : (b : Bool) → not b ≡ false → b ≡ true
  not_false true g = refl
  not_false false g = sym g

pub lists_differ : (ks js : List CellKey) (r : Bool) → r ≡ not (pointwise is_key ks js) → r ≡ true → ks ≡ js → ⊥
lists_differ ks js r h e same = false≢true (sym (ap not ((slice_eq-Decides key_told ks js (pointwise is_key ks js) refl).1 same)) ∙ sym h ∙ e)
