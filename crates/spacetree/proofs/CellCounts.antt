-- A set that another one has whole has no more cells.
use Rattle.std.proofs.Common.{zero, suc, ◌-◌, ◌/◌, ◌^◌, ◌<◌, ◌≤◌, arith, ◌≡◌, ℕ, List, [], ◌∷◌, Bool, true, false, ◌&&◌, not, cond, refl, ap, sym, ◌∙◌, ◌⊎◌, inl, inr, subst}
use Rattle.std.specs.FinSet as set
use Rattle.std.specs.List.{list_any}
use Rattle.std.specs.Ordering.{eq_by_cmp}
use Rattle.std.proofs.lemmas.Bool.{false≢true, or_left}
use Rattle.std.proofs.Math.Nat.{mul-le-mul_left}
use Rattle.peano_keys.specs.declared.dim.Dim.{Dim}
use Rattle.peano_keys.specs.declared.dim.Dim.TheVariants.{Two, Three}
use Rattle.peano_keys.specs.declared.cell.CellKey.{CellKey}
use Rattle.peano_keys.specs.Dim.{axes}
use Rattle.peano_keys.specs.Cell.{key_cmp}
use Rattle.peano_keys.specs.Grid.{Cells}
use Rattle.spacetree.specs.declared.shape.Shape.{Shape}
use Rattle.spacetree.specs.Counts.{cells_for}
use Rattle.spacetree.specs.Digits.{IsKept}
use Rattle.spacetree.specs.Build.{HasOpened, HasNoSmallGrid}
use Rattle.spacetree.proofs.CellMaps.{cells_total, exact_cells}
use Rattle.spacetree.proofs.CellSets.{itself}

-- a set has no cell, or has one
member : (s : Cells) → (set.len s ≡ 0) ⊎ ((k : CellKey) × (set.contains s k ≡ true))
member s = listed (set.items s) (λ q. set.contains-items s q) where
  listed : (ks : List CellKey) → ((q : CellKey) → set.contains s q ≡ list_any (eq_by_cmp key_cmp q) ks) → (set.len s ≡ 0) ⊎ ((k : CellKey) × (set.contains s k ≡ true))
  listed [] has = inl (ap set.len (set.same_set cells_total exact_cells s set.empty (λ q. has q ∙ sym (set.contains-empty key_cmp q))) ∙ set.len-empty key_cmp)
  listed (k ∷ ks) has = inr (k, has k ∙ or_left (eq_by_cmp key_cmp k k) (list_any (eq_by_cmp key_cmp k) ks) (itself k))

and_more : (a b c : Bool) → (b ≡ true → c ≡ true) → (a && b) ≡ true → (a && c) ≡ true
and_more true b c f h = f h
and_more false b c f h = h

some_counted : (t : Cells) (k : CellKey) → set.contains t k ≡ true → set.len t ≡ 0 → ⊥
some_counted t k h e = false≢true (sym (set.contains-empty key_cmp k) ∙ ap (λ u. set.contains u k) (sym (set.empty_of_len t e)) ∙ h)

len_kept : (n : ℕ) (s t : Cells) → set.len s ≡ n → IsKept s t → set.len s ≤ set.len t
len_kept zero s t e kept = omega arith
len_kept (suc n) s t e kept = elim (member s) [
  | inl none ↦ omega arith
  | inr some ↦
      let k : CellKey = some.0 in
      let there : set.contains t k ≡ true = kept k some.1 in
      let fewer : set.len (set.remove s k) ≡ set.len s - 1 = set.len-remove cells_total s k ∙ ap (λ b. cond b (set.len s - 1) (set.len s)) some.1 in
      let left : set.len (set.remove t k) ≡ set.len t - 1 = set.len-remove cells_total t k ∙ ap (λ b. cond b (set.len t - 1) (set.len t)) there in
      let rest : IsKept (set.remove s k) (set.remove t k) =
      λ q h. set.contains-remove cells_total t k q ∙ and_more (not (eq_by_cmp key_cmp q k)) (set.contains s q) (set.contains t q) (kept q) (sym (set.contains-remove cells_total s k q) ∙ h) in
      let step : set.len (set.remove s k) ≤ set.len (set.remove t k) = len_kept n (set.remove s k) (set.remove t k) (omega arith) rest in
      let some_left : ¬ (set.len t ≡ 0) = some_counted t k there in
      omega arith
]

pub len_by_kept : (s t : Cells) → IsKept s t → set.len s ≤ set.len t
len_by_kept s t kept = len_kept (set.len s) s t refl kept

pub more_cells : (dim : Dim) (m n : ℕ) → m ≤ n → cells_for dim m ≤ cells_for dim n
more_cells dim m n h = omega (arith, mul-le-mul_left (3 ^ axes dim) h)

-- where some refined cells are too many, no opening grid is small
pub no_small_grid : (shape : Shape) (s : Cells) → HasOpened shape s → 200000 < cells_for shape.dim (set.len s) → HasNoSmallGrid shape
no_small_grid shape s opened many t opens =
    let all : IsKept s t.refined = λ c h. (opens.refined c).1 (opened c h) in
    let most = more_cells shape.dim (set.len s) (set.len t.refined) (len_by_kept s t.refined all) in
    let same : cells_for t.dim (set.len t.refined) ≡ cells_for shape.dim (set.len t.refined) = ap (λ d. cells_for d (set.len t.refined)) opens.dim in
    omega (arith, most, same, many)

-- with so many refined cells a grid has more than 200,000 cells
pub too_many : (dim : Dim) (n fan : ℕ) → fan ≡ 3 ^ axes dim → 199999 / fan < n → 200000 < cells_for dim n
too_many Two n fan e h = let least : 199999 / 9 < n = subst (λ (f : ℕ). 199999 / f < n) e h in omega arith
too_many Three n fan e h = let least : 199999 / 27 < n = subst (λ (f : ℕ). 199999 / f < n) e h in omega arith
