-- The leaves of a grid in the order of the curve: their intervals rise, and the first one begins at 0.
use Rattle.std.proofs.Common.{◌≡◌, ◌⊎◌, inl, inr, ⊎_elim, ℕ, zero, suc, ◌+◌, ◌-◌, ◌*◌, ◌/◌, ◌^◌, ◌<◌, ◌≤◌, arith, refl, sym, ap, subst, ◌∙◌, true, false, Bool, List, [], ◌∷◌, ◌++◌, length, get_or, lit<, ◌==◌, ◌||◌}
use Rattle.std.specs.Prelude.{Contains, ◌&&◌, not}
use Rattle.std.proofs.lemmas.Bool.{cases_eq, false≢true}
use Rattle.peano_keys.specs.declared.cell.CellKey.{CellKey}
use Rattle.peano_keys.specs.declared.dim.Dim.{Dim}
use Rattle.peano_keys.specs.declared.dim.Dim.TheVariants.{Two, Three}
use Rattle.peano_keys.specs.Dim.{children}
use Rattle.peano_keys.specs.Cell.{IsCell, at, triple, parent_of}
use Rattle.peano_keys.specs.Grid.{Spacetree, IsGrid, is_leaf, is_refined, has_cell}
use Rattle.peano_keys.proofs.Powers.{pow3_positive}
use Rattle.peano_curve.specs.Order.{rank_from, rank_of, interval_start}
use Rattle.std.proofs.lemmas.Bool.{eqb-true}
use Rattle.std.proofs.lemmas.List.{get_or_default, get_or_append_left, length-append}
use Rattle.std.proofs.Math.Seq.{get_or-append_seam}
use Rattle.peano_keys.specs.Cell.{root}
use Rattle.peano_curve.proofs.Ranks.{interval_within}
use Rattle.peano_curve.proofs.Ancestors.{rank_bound}
use Rattle.curve_cuts.specs.Cuts.{AreCuts}
use Rattle.curve_cuts.specs.Keys.{CutPoints, AreCutPoints, cuts_of, first_leaf, AreEqualCuts}
use Rattle.curve_cuts.specs.Leaves.{InCurveOrder}
use Rattle.curve_cuts.proofs.Cuts.{lt_or_le}
use Rattle.curve_cuts.proofs.Filled.{IsFilled}
use Rattle.curve_cuts.proofs.Shares.{share_below, share_rises}

-- the cell of a level at the domain's low corner
abbrev pub origin : ℕ → CellKey
origin l = record { level = l; x = triple 0 0 0 }

origin_rank : (dim : Dim) (l : ℕ) → rank_from dim l 0 0 0 ≡ 0
origin_rank Two zero = refl
origin_rank Three zero = refl
origin_rank Two (suc l) = rw (origin_rank Two l) refl
origin_rank Three (suc l) = rw (origin_rank Three l) refl

origin_start : (dim : Dim) (l depth : ℕ) → interval_start dim (origin l) depth ≡ 0
origin_start dim l depth = rw (origin_rank dim l) (omega arith)

origin_cell : (dim : Dim) (l : ℕ) → l ≤ 12 → IsCell dim (origin l)
origin_cell Two l h = record { shape = refl; level = h; first = pow3_positive l; second = pow3_positive l; third = lit< tt }
origin_cell Three l h = record { shape = refl; level = h; first = pow3_positive l; second = pow3_positive l; third = pow3_positive l }

module _ (dim : Dim) (depth : ℕ) (t : Spacetree) (grid : IsGrid depth t) where
  pub leaf_or : (c : CellKey) (b : Bool) → is_refined t c ≡ b → has_cell t c ≡ true → (is_leaf t c ≡ true) ⊎ (is_refined t c ≡ true)
  leaf_or c true e has = inr e
  leaf_or c false e has = inl (rw (has, e) refl)

  right_or : (a b : Bool) → b ≡ true → (a || b) ≡ true
  right_or true b h = refl
  right_or false b h = h

  origin_parent : (l : ℕ) → is_refined t (origin l) ≡ true → has_cell t (origin (suc l)) ≡ true
  origin_parent l h = let e : l ≡ suc l - 1 = omega arith in right_or (suc l == 0) (is_refined t (origin (suc l - 1))) (subst (λ m. is_refined t (origin m) ≡ true) e h)

  -- some leaf stands at the low corner
  origin_leaf : (fuel l : ℕ) → fuel + l ≡ depth → has_cell t (origin l) ≡ true → (m : ℕ) × (m ≤ depth) × (is_leaf t (origin m) ≡ true)
  origin_leaf zero l e has = ⊎_elim (λ leaf. (l, omega arith, leaf)) (λ refined. absurd (omega (arith, e, grid.levels (origin l) refined))) (leaf_or (origin l) (is_refined t (origin l)) refl has)
  origin_leaf (suc fuel) l e has = ⊎_elim (λ leaf. (l, omega arith, leaf)) (λ refined. origin_leaf fuel (suc l) (omega arith) (origin_parent l refined)) (leaf_or (origin l) (is_refined t (origin l)) refl has)

  pub some_origin : (m : ℕ) × (m ≤ depth) × (is_leaf t (origin m) ≡ true)
  some_origin = origin_leaf depth 0 (omega arith) refl

  both_left : (a b : Bool) → (a && b) ≡ true → a ≡ true
  both_left true b h = refl
  both_left false b h = h

  either : (a b : Bool) → (a || b) ≡ true → (a ≡ true) ⊎ (b ≡ true)
  either true b h = inl refl
  either false b h = inr h

  both_right : (a b : Bool) → (a && not b) ≡ true → b ≡ false
  both_right true true h = sym h
  both_right true false h = refl
  both_right false true h = absurd (false≢true h)
  both_right false false h = refl

  pub leaf_plain : (c : CellKey) → is_leaf t c ≡ true → is_refined t c ≡ false
  leaf_plain c leaf = both_right (has_cell t c) (is_refined t c) leaf

  pub parent_refined : (c : CellKey) → 0 < c.level → is_leaf t c ≡ true → is_refined t (parent_of c) ≡ true
  parent_refined c pos leaf = ⊎_elim
      (λ top. absurd (omega (arith, pos, eqb-true c.level 0 top)))
      (λ refined. refined)
      (either (c.level == 0) (is_refined t (parent_of c)) (both_left (has_cell t c) (not (is_refined t c)) leaf))

  pub leaf_level : (c : CellKey) → is_leaf t c ≡ true → c.level ≤ depth
  leaf_level c leaf = ⊎_elim
      (λ top. omega (arith, eqb-true c.level 0 top))
      (λ refined. omega (arith, grid.levels (parent_of c) refined))
      (either (c.level == 0) (is_refined t (parent_of c)) (both_left (has_cell t c) (not (is_refined t c)) leaf))

module _ (dim : Dim) (depth : ℕ) (leaves : List CellKey) (ordered : InCurveOrder dim depth leaves) where
  leaf_at : (i : ℕ) → i < length leaves → IsCell dim (get_or leaves i root) × (is_leaf ordered.0 (get_or leaves i root) ≡ true)
  leaf_at i h = ordered.1.only i root h

  pub place_cell : (i : ℕ) → i < length leaves → IsCell dim (get_or leaves i root)
  place_cell i h = (leaf_at i h).0

  pub place_level : (i : ℕ) → i < length leaves → (get_or leaves i root).level ≤ depth
  place_level i h = leaf_level dim depth ordered.0 ordered.1.grid (get_or leaves i root) (leaf_at i h).1

  pub starts_rise : (i j : ℕ) → i ≤ j → j < length leaves → interval_start dim (get_or leaves i root) depth ≤ interval_start dim (get_or leaves j root) depth
  starts_rise i j low high = ⊎_elim
      (λ e. omega (arith, ap (λ k. interval_start dim (get_or leaves k root) depth) e))
      (λ apart. omega (arith, ordered.1.order i j root (omega (arith, low, apart)) high))
      (cases_eq i j)

  low_corner : (m : ℕ) × (m ≤ depth) × (is_leaf ordered.0 (origin m) ≡ true)
  low_corner = some_origin dim depth ordered.0 ordered.1.grid

  module _ (deepest : depth ≤ 12) where
    listed : Contains leaves (origin low_corner.0)
    listed = ordered.1.all (origin low_corner.0) (origin_cell dim low_corner.0 (omega (arith, low_corner.1))) low_corner.2

    pub some_leaf : 0 < length leaves
    some_leaf = omega (arith, listed.1)

    -- the first leaf begins at 0
    pub first_start : interval_start dim (get_or leaves 0 root) depth ≡ 0
    first_start =
        let k : ℕ = listed.0 in
        let same : get_or leaves k root ≡ origin low_corner.0 = get_or_default leaves k root (origin low_corner.0) listed.1 ∙ listed.2 in
        omega (arith, starts_rise 0 k (omega arith) listed.1, ap (λ c. interval_start dim c depth) same, origin_start dim low_corner.0 depth)

    start_below : (c : CellKey) → c.level ≤ depth → interval_start dim c depth ≤ children dim ^ depth
    start_below c h = omega (arith, interval_within (children dim) (rank_of dim c) c.level depth h (rank_bound dim c.level (at c 0) (at c 1) (at c 2)))

    -- the starts of the shares
    module _ (n : ℕ) (starts : List ℕ) (some : 1 ≤ n) (most : n ≤ 64) (filled : IsFilled dim depth leaves n n starts) (total : ℕ) (whole : total ≡ children dim ^ depth) where
      abbrev points : CutPoints
      points = record { dim = dim; depth = depth; starts = starts ++ total ∷ [] }

      long : length (starts ++ total ∷ []) ≡ n + 1
      long = length-append starts (total ∷ []) ∙ ap (λ k. k + 1) filled.len

      inner : (t : ℕ) → t < n → get_or (starts ++ total ∷ []) t 0 ≡ interval_start dim (first_leaf leaves n t) depth
      inner t h = get_or_append_left starts (total ∷ []) 0 t (omega (arith, filled.len)) ∙ filled.each t h

      last : get_or (starts ++ total ∷ []) n 0 ≡ children dim ^ depth
      last = ap (λ k. get_or (starts ++ total ∷ []) k 0) (sym filled.len) ∙ get_or-append_seam starts total [] 0 ∙ whole

      pub equal_cuts : AreEqualCuts dim depth leaves n points
      equal_cuts = record { dim = refl; depth = refl; trees = long; start = inner; end = last }

      share_place : (t : ℕ) → t < n → t * length leaves / n < length leaves
      share_place t h = share_below t n (length leaves) h some_leaf

      opening : get_or (starts ++ total ∷ []) 0 0 ≡ 0
      opening =
          let e : 0 * length leaves / n ≡ 0 = omega arith in
          inner 0 (omega (arith, some)) ∙ ap (λ k. interval_start dim (get_or leaves k root) depth) e ∙ first_start

      rising : (t : ℕ) → t < n → get_or (starts ++ total ∷ []) t 0 ≤ get_or (starts ++ total ∷ []) (t + 1) 0
      rising t h = ⊎_elim
          (λ inside. omega (arith, inner t h, inner (t + 1) inside, starts_rise (t * length leaves / n) ((t + 1) * length leaves / n) (share_rises t n (length leaves) (omega (arith, some))) (share_place (t + 1) inside)))
          (λ end.
          let e : t + 1 ≡ n = omega arith in
          omega (arith, inner t h, ap (λ k. get_or (starts ++ total ∷ []) k 0) e, last, start_below (first_leaf leaves n t) (place_level (t * length leaves / n) (share_place t h))))
          (lt_or_le (t + 1) n)

      trees_are : length (starts ++ total ∷ []) - 1 ≡ n
      trees_are = omega (arith, long)

      pub are_cuts : AreCuts (cuts_of points)
      are_cuts = record {
        first = opening;
        rising = λ t h. rising t (omega (arith, h, trees_are));
        end = ap (λ k. get_or (starts ++ total ∷ []) k 0) trees_are ∙ last;
      }

      pub cut_points : AreCutPoints points
      cut_points = record { some = omega (arith, long, some); most = omega (arith, long, most); deepest = deepest; cuts = are_cuts }
