-- Cells that tile the domain are the leaves of the grid in which all cells above them are refined.
use Rattle.std.proofs.Common.{◌≡◌, ◌⊎◌, inl, inr, ⊎_elim, ℕ, zero, suc, ◌+◌, ◌-◌, ◌/◌, ◌^◌, ◌<◌, ◌≤◌, ◌==◌, ◌||◌, Bool, true, false, arith, refl, sym, ap, subst, ◌∙◌, List, length, get_or}
use Rattle.std.specs.Prelude.{◌≢◌}
use Rattle.std.proofs.lemmas.Bool.{false≢true, cases_eq}
use Rattle.std.proofs.lemmas.Bool.Decides.{nat_tests}
use Rattle.std.proofs.lemmas.List.{get_or_default}
use Rattle.std.proofs.lemmas.Nat.{pow-add}
use Rattle.std.proofs.Math.Nat.{div-div-eq-div-mul}
use Rattle.peano_keys.specs.declared.cell.CellKey.{CellKey}
use Rattle.peano_keys.specs.declared.dim.Dim.{Dim}
use Rattle.peano_keys.specs.Dim.{children}
use Rattle.peano_keys.specs.Cell.{IsCell, at, triple, root, parent_of}
use Rattle.peano_keys.specs.Grid.{Spacetree, IsGrid, is_leaf, is_refined, has_cell}
use Rattle.peano_curve.specs.Order.{rank_of, interval_start, interval_of}
use Rattle.peano_curve.specs.Run.{Holds}
use Rattle.peano_curve.specs.Laws.{ancestor_of, IsIn}
use Rattle.peano_curve.proofs.Ranks.{interval_within, width_positive}
use Rattle.peano_curve.proofs.Ancestors.{rank_bound, ancestor_cell}
use Rattle.curve_cuts.specs.Leaves.{RiseAlong}
use Rattle.curve_cuts.specs.Tiles.{cell_in, end_of, BeginsAt, Tile, TilesAreLeaves}
use Rattle.curve_cuts.proofs.Cuts.{lt_or_le}
use Rattle.curve_cuts.proofs.Leaves.{leaf_or, leaf_level, leaf_plain, parent_refined}
use Rattle.curve_cuts.proofs.Nested.{nested, inside, same_level, interval_wide}
use Rattle.curve_cuts.proofs.Above.{IsAbove, set_above, above_from_set, set_from_above}

-- ancestors of ancestors
div_twice : (x l m n : ℕ) → m ≤ l → l ≤ n → x / 3 ^ (n - l) / 3 ^ (l - m) ≡ x / 3 ^ (n - m)
div_twice x l m n low high =
    let e : n - l + (l - m) ≡ n - m = omega arith in
    div-div-eq-div-mul x (3 ^ (n - l)) (3 ^ (l - m)) ∙ ap (λ k. x / k) (sym (pow-add 3 (n - l) (l - m)) ∙ ap (λ k. 3 ^ k) e)

pub ancestor_again : (c : CellKey) (l m : ℕ) → m ≤ l → l ≤ c.level → ancestor_of (ancestor_of c l) m ≡ ancestor_of c m
ancestor_again c l m low high = λ i. record { level = m; x = triple (div_twice (at c 0) l m c.level low high i) (div_twice (at c 1) l m c.level low high i) (div_twice (at c 2) l m c.level low high i) }

pub parent_is : (c : CellKey) → 0 < c.level → parent_of c ≡ ancestor_of c (c.level - 1)
parent_is c pos =
    let e : 1 ≡ c.level - (c.level - 1) = omega arith in
    ap (λ k. record { level = c.level - 1; x = triple (at c 0 / 3 ^ k) (at c 1 / 3 ^ k) (at c 2 / 3 ^ k) }) e

module _ (dim : Dim) (depth : ℕ) (cells : List CellKey) (deepest : depth ≤ 12) (tile : Tile dim depth cells) where
  abbrev lo : ℕ → ℕ
  lo i = (interval_of dim (cell_in cells i) depth).lo

  abbrev hi : ℕ → ℕ
  hi i = (interval_of dim (cell_in cells i) depth).hi

  rises_to : (i j : ℕ) → i + j ≤ length cells → end_of dim depth cells i ≤ end_of dim depth cells (i + j)
  rises_to i zero h = let e : i + 0 ≡ i = omega arith in omega (arith, ap (end_of dim depth cells) e)
  rises_to i (suc j) h =
      let e : i + suc j ≡ suc (i + j) = omega arith in
      let next = tile.each (i + j) (omega (arith, h)) in
      omega (arith, rises_to i j (omega (arith, h)), next.start, ap (end_of dim depth cells) e, interval_wide dim depth (cell_in cells (i + j)))

  apart : (i j : ℕ) → i < j → j < length cells → hi i ≤ lo j
  apart i j low high =
      let e : suc i + (j - suc i) ≡ j = omega arith in
      omega (arith, rises_to (suc i) (j - suc i) (omega (arith, low, high)), ap (end_of dim depth cells) e, (tile.each j high).start)

  tile_at : (p n : ℕ) → n ≤ length cells → p < end_of dim depth cells n → (i : ℕ) × (i < length cells) × Holds (interval_of dim (cell_in cells i) depth) p
  tile_at p zero h below = absurd (omega (arith, below))
  tile_at p (suc n) h below = ⊎_elim
      (λ less. tile_at p n (omega (arith, h)) less)
      (λ more. (n, omega (arith, h), (omega (arith, more, (tile.each n (omega (arith, h))).start), below)))
      (lt_or_le p (end_of dim depth cells n))

  abbrev t : Spacetree
  t = record { dim = dim; refined = set_above cells }

  -- no cell of the list is above another
  none_above : (i j l : ℕ) → i < length cells → j < length cells → l < (cell_in cells j).level → cell_in cells i ≡ ancestor_of (cell_in cells j) l → ⊥
  none_above i j l hi_i hj below e =
      let level : (cell_in cells i).level ≡ l = ap (λ (c : CellKey). c.level) e in
      let one = tile.each i hi_i in
      let two = tile.each j hj in
      let up : (cell_in cells i).level ≤ (cell_in cells j).level = omega (arith, level, below) in
      let is_in : IsIn (cell_in cells i) (cell_in cells j) = record { level = up; ancestor = ap (ancestor_of (cell_in cells j)) level ∙ sym e } in
      let r = inside dim depth (cell_in cells i) (cell_in cells j) one.cell two.cell up two.level is_in in
      let wide = interval_wide dim depth (cell_in cells j) in
      ⊎_elim
      (λ first. absurd (omega (arith, r.1, wide, apart i j first hj)))
      (λ rest. ⊎_elim
      (λ same. absurd (omega (arith, level, below, ap (λ k. (cell_in cells k).level) same)))
      (λ differ. absurd (omega (arith, r.0, wide, apart j i (omega (arith, rest, differ)) hi_i)))
      (cases_eq i j))
      (lt_or_le i j)

  above_refined : (q : CellKey) → IsAbove cells q → is_refined t q ≡ true
  above_refined q a = subst (λ (c : CellKey). is_refined t c ≡ true) (sym a.is) (set_from_above cells a.place a.level a.within a.above)

  grid : IsGrid depth t
  grid = record {
    cells = λ q h. let a = above_from_set cells q h in subst (IsCell dim) (sym a.is) (ancestor_cell dim (cell_in cells a.place) a.level (tile.each a.place a.within).cell (omega (arith, a.above)));
    levels = λ q h. let a = above_from_set cells q h in omega (arith, ap (λ (c : CellKey). c.level) a.is, a.above, (tile.each a.place a.within).level);
    parents = λ q h pos.
        let a = above_from_set cells q h in
        let level : q.level ≡ a.level = ap (λ (c : CellKey). c.level) a.is in
        let up : parent_of q ≡ ancestor_of (cell_in cells a.place) (a.level - 1) = ap parent_of a.is ∙ parent_is (ancestor_of (cell_in cells a.place) a.level) (omega (arith, level, pos)) ∙ ancestor_again (cell_in cells a.place) a.level (a.level - 1) (omega arith) (omega (arith, a.above)) in
        above_refined (parent_of q) (record { place = a.place; within = a.within; level = a.level - 1; above = omega (arith, a.above); is = up });
  }

  has_tile : (i : ℕ) → i < length cells → has_cell t (cell_in cells i) ≡ true
  has_tile i h = ⊎_elim
      (λ top. let e : ((cell_in cells i).level == 0) ≡ true = grind (arith, nat_tests, top) in rw e refl)
      (λ below.
      let pos : 0 < (cell_in cells i).level = omega (arith, below) in
      or_right ((cell_in cells i).level == 0) _ (above_refined (parent_of (cell_in cells i)) (record { place = i; within = h; level = (cell_in cells i).level - 1; above = omega (arith, pos); is = parent_is (cell_in cells i) pos })))
      (cases_eq (cell_in cells i).level 0)
    where
      or_right : (a b : Bool) → b ≡ true → (a || b) ≡ true
      or_right true b h = refl
      or_right false b h = h

  tile_is_leaf : (i : ℕ) → i < length cells → is_leaf t (cell_in cells i) ≡ true
  tile_is_leaf i h = ⊎_elim
      (λ leaf. leaf)
      (λ refined. let a = above_from_set cells (cell_in cells i) refined in absurd (none_above i a.place a.level h a.within a.above a.is))
      (leaf_or dim depth t grid (cell_in cells i) (is_refined t (cell_in cells i)) refl (has_tile i h))

  start_within : (c : CellKey) → c.level ≤ depth → interval_start dim c depth < children dim ^ depth
  start_within c level = omega (arith, interval_within (children dim) (rank_of dim c) c.level depth level (rank_bound dim c.level (at c 0) (at c 1) (at c 2)), width_positive dim (depth - c.level))

  -- each leaf is on the list: the tile that has its first position
  listed : (c : CellKey) → IsCell dim c → is_leaf t c ≡ true → (i : ℕ) × (i < length cells) × (cell_in cells i ≡ c)
  listed c cell leaf = (i, within, is)
    where
      level : c.level ≤ depth
      level = leaf_level dim depth t grid c leaf

      r : (i : ℕ) × (i < length cells) × Holds (interval_of dim (cell_in cells i) depth) (interval_start dim c depth)
      r = tile_at (interval_start dim c depth) (length cells) (omega arith) (omega (arith, tile.end, start_within c level))

      i : ℕ
      i = r.0

      within : r.0 < length cells
      within = r.1

      own : Holds (interval_of dim c depth) (interval_start dim c depth)
      own = (omega arith, interval_wide dim depth c)

      one : BeginsAt dim depth (cell_in cells r.0) (end_of dim depth cells r.0)
      one = tile.each r.0 r.1

      is : cell_in cells r.0 ≡ c
      is = ⊎_elim
          (λ lower.
          -- the tile stands above the leaf, and the leaf's parent above a tile
          let is_in = nested dim depth (cell_in cells r.0) c one.cell cell (omega (arith, lower)) level (interval_start dim c depth) r.2 own in
          let pos : 0 < c.level = omega (arith, lower) in
          let a = above_from_set cells (parent_of c) (parent_refined dim depth t grid c pos leaf) in
          let up : c.level - 1 ≡ a.level = ap (λ (q : CellKey). q.level) a.is in
          let m : ℕ = (cell_in cells r.0).level in
          let chain : ancestor_of c m ≡ ancestor_of (cell_in cells a.place) m = sym (ancestor_again c (c.level - 1) m (omega (arith, lower)) (omega arith)) ∙ ap (λ (q : CellKey). ancestor_of q m) (sym (parent_is c pos) ∙ a.is) ∙ ancestor_again (cell_in cells a.place) a.level m (omega (arith, lower, up)) (omega (arith, a.above)) in
          absurd (none_above r.0 a.place m r.1 a.within (omega (arith, lower, up, a.above)) (sym is_in.ancestor ∙ chain)))
          (λ higher.
          let is_in = nested dim depth c (cell_in cells r.0) cell one.cell higher one.level (interval_start dim c depth) own r.2 in
          ⊎_elim
          (λ same. sym (same_level dim depth c (cell_in cells r.0) cell one.cell higher one.level same is_in))
          (λ differ. absurd (false≢true (sym (leaf_plain dim depth t grid c leaf) ∙ above_refined c (record { place = r.0; within = r.1; level = c.level; above = omega (arith, higher, differ); is = sym is_in.ancestor }))))
          (cases_eq c.level (cell_in cells r.0).level))
          (lt_or_le (cell_in cells r.0).level c.level)

  rise : RiseAlong dim depth cells
  rise i j d low high =
      let first = ap (λ (c : CellKey). interval_start dim c depth) (get_or_default cells i d root (omega (arith, low, high))) in
      let second = ap (λ (c : CellKey). interval_start dim c depth) (get_or_default cells j d root high) in
      omega (arith, first, second, apart i j low high, interval_wide dim depth (cell_in cells i))

pub tiles_are_leaves : TilesAreLeaves
tiles_are_leaves dim depth cells deepest tile = (
  t dim depth cells deepest tile,
  record {
    dim = refl;
    grid = grid dim depth cells deepest tile;
    only = λ i d h. subst (λ (c : CellKey). IsCell dim c × (is_leaf (t dim depth cells deepest tile) c ≡ true)) (get_or_default cells i root d h) ((tile.each i h).cell, tile_is_leaf dim depth cells deepest tile i h);
    all = λ c cell leaf. let r = listed dim depth cells deepest tile c cell leaf in (r.0, r.1, get_or_default cells r.0 c root r.1 ∙ r.2);
    order = rise dim depth cells deepest tile;
  },
)

-- the first `n` cells are tiles, and end at `end`
pub record AreTiled (dim : Dim) (depth : ℕ) (cells : List CellKey) (n end : ℕ) : Type 0 where
  pub each : (i : ℕ) → i < n → BeginsAt dim depth (cell_in cells i) (end_of dim depth cells i)
  pub ends : end ≡ end_of dim depth cells n

-- one more tile
pub tiled_more : (dim : Dim) (depth : ℕ) (cells : List CellKey) (n end next : ℕ) (d : CellKey) → AreTiled dim depth cells n end → n < length cells → BeginsAt dim depth (get_or cells n d) end → next ≡ (interval_of dim (get_or cells n d) depth).hi → AreTiled dim depth cells (n + 1) next
tiled_more dim depth cells n end next d tiled within begins is = record { each = λ i below. each i below (cases_eq i n); ends = is ∙ ap (λ (c : CellKey). (interval_of dim c depth).hi) same ∙ ap (end_of dim depth cells) step }
  where
    same : get_or cells n d ≡ cell_in cells n
    same = get_or_default cells n d root within

    step : suc n ≡ n + 1
    step = omega arith

    here : BeginsAt dim depth (cell_in cells n) (end_of dim depth cells n)
    here = subst (BeginsAt dim depth (cell_in cells n)) tiled.ends (subst (λ (c : CellKey). BeginsAt dim depth c end) same begins)

    each : (i : ℕ) → i < n + 1 → (i ≡ n) ⊎ (i ≢ n) → BeginsAt dim depth (cell_in cells i) (end_of dim depth cells i)
    each i below (inl e) = subst (λ k. BeginsAt dim depth (cell_in cells k) (end_of dim depth cells k)) (sym e) here
    each i below (inr apart) = tiled.each i (omega (arith, below, apart))

-- all cells are tiles
pub all_tiled : (dim : Dim) (depth : ℕ) (cells : List CellKey) (n end : ℕ) → AreTiled dim depth cells n end → n ≡ length cells → end ≡ children dim ^ depth → Tile dim depth cells
all_tiled dim depth cells n end tiled whole is = record {
  each = λ i below. tiled.each i (omega (arith, below, whole));
  end = ap (end_of dim depth cells) (sym whole) ∙ sym tiled.ends ∙ is;
}
