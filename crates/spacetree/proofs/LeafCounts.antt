-- The cells of a grid are the root and the children of the refined ones; the leaves are as many without these, and the rows of a field are as many as the leaves.
use Rattle.std.proofs.Common.{◌≡◌, ◌↔◌, ⊎_elim, ◌*◌, ◌^◌, ◌<◌, ◌||◌, ◌&&◌, Bool, true, false, T, refl, sym, ap, subst, ◌∙◌, arith, List, [], ◌∷◌, length, map}
use Rattle.std.specs.FinMap as fin
use Rattle.std.specs.FinMap.{is_sorted}
use Rattle.std.specs.FinMap.Entries.{below_all}
use Rattle.std.specs.FinSet as set
use Rattle.std.specs.Cmp.{both_ways}
use Rattle.std.specs.Ordering.{is_lt, is_eq}
use Rattle.std.specs.declared.cmp.Ordering.{Ordering}
use Rattle.std.specs.declared.cmp.Ordering.TheVariants.{Less, Equal, Greater}
use Rattle.std.proofs.lemmas.Bool.{cases_eq, or_left, or_right, or_cases}
use Rattle.std.proofs.lemmas.List.{length-map}
use Rattle.peano_keys.specs.declared.cell.CellKey.{CellKey}
use Rattle.peano_keys.specs.declared.state.State.{State}
use Rattle.peano_keys.specs.Dim.{axes}
use Rattle.peano_keys.specs.Cell.{IsCell, parent_of, root, key_cmp}
use Rattle.peano_keys.specs.Grid.{Cells, Spacetree, IsGrid, is_refined, has_cell}
use Rattle.peano_keys.specs.Field.{States}
use Rattle.solver_api.specs.Step.{IsLeafOf}
use Rattle.spacetree.specs.Counts.{CountsCells, EachOnce, cells_of, leaves_of}
use Rattle.spacetree.specs.Digits.{digits_at, number_in}
use Rattle.spacetree.specs.Fields.{row_of}
use Rattle.spacetree.specs.Leaves.{IsCellOf, is_among}
use Rattle.spacetree.proofs.CellMaps.{cells_total, exact_cells}
use Rattle.spacetree.proofs.Children.{child_by_number, number_bound, root_is, child_cell, third_digit}
use Rattle.spacetree.proofs.Leaves.{child_there, leaf_from, leaf_there, not_leaf, parent_refined, refined_there}
use Rattle.spacetree.proofs.Told.{true_told}
use Rattle.spacetree.specs.Laws.{CellsAreCounted, OneCountOfCells, LeavesAreCounted, LeavesAreListed, RowsAreLeaves}
use Rattle.spacetree.proofs.CountedSets.{count_is_one, false_by, has_all, in_list, listed_once, many, once_of_sorted, with_all}
use Rattle.spacetree.proofs.Families.{digits_are, families, family_cases, family_root, family_has, family_many}

both_hold : (a b : Bool) → T (a && b) → T a × T b
both_hold true b h = (tt, h)
both_hold false b h = absurd h

less_apart : (o : Ordering) → T (is_lt o) → is_eq o ≡ false
less_apart Less h = refl
less_apart Equal h = absurd h
less_apart Greater h = absurd h

-- keys in order stand there once
abbrev keys_in : List (CellKey × State) → List CellKey
keys_in es = map (λ (e : CellKey × State). e.0) es

not_below : (c : CellKey) (es : List (CellKey × State)) → T (below_all key_cmp c es) → is_among (keys_in es) c ≡ false
not_below c [] h = refl
not_below c (e ∷ es) h =
    let parts = both_hold (is_lt (key_cmp c e.0)) (below_all key_cmp c es) h in
    ap (λ b. b || is_among (keys_in es) c) (less_apart (key_cmp c e.0) parts.0) ∙ not_below c es parts.1

once_in : (es : List (CellKey × State)) → T (is_sorted key_cmp es) → EachOnce (keys_in es)
once_in [] h = tt
once_in (e ∷ es) h =
    let parts = both_hold (below_all key_cmp e.0 es) (is_sorted key_cmp es) h in
    (not_below e.0 es parts.0, once_in es parts.1)

keys_once : (f : States) → EachOnce (fin.keys f)
keys_once f = once_in (fin.entries f) (fin.entries_sorted f)

-- the set of the cells of a set is the set
of_items : (s : Cells) → with_all set.empty (set.items s) ≡ s
of_items s = set.same_set cells_total exact_cells _ _ (λ q. in_list (set.items s) q ∙ sym (set.contains-items s q))

module _ (g : Spacetree) (grid : IsGrid 12 g) where
  -- the root and the children of the refined cells
  abbrev all_families : Cells
  all_families = families g.dim (set.items g.refined)

  in_families : (c : CellKey) → IsCell g.dim c → has_cell g c ≡ true → set.contains all_families c ≡ true
  in_families c cell there = ⊎_elim
      (λ e. ap (set.contains all_families) (root_is g.dim c cell e) ∙ family_root g.dim (set.items g.refined))
      (λ apart.
      let below : 0 < c.level = omega (arith, apart) in
      let own = child_by_number g.dim c (parent_of c) (number_in g.dim c) cell below refl refl in
      ap (set.contains all_families) own ∙ family_has g.dim (set.items g.refined) (parent_of c) (number_in g.dim c) (sym (set.contains-items g.refined (parent_of c)) ∙ parent_refined g c below there) (number_bound g.dim c))
      (cases_eq c.level 0)

  listed_refined : (p : CellKey) → is_among (set.items g.refined) p ≡ true → is_refined g p ≡ true
  listed_refined p h = set.contains-items g.refined p ∙ h

  root_cell : IsCell g.dim root
  root_cell = grind arith

  from_families : (c : CellKey) → set.contains all_families c ≡ true → IsCellOf g c
  from_families c h = ⊎_elim
      (λ e. subst (IsCellOf g) (sym e) (record { cell = root_cell; there = refl }))
      (λ r.
      let refined = listed_refined r.0 r.2 in
      let cell = grid.cells r.0 refined in
      let d = digits_are g.dim r.1 r.3 in
      subst (IsCellOf g) (sym r.4) (record {
        cell = child_cell g.dim r.0 (digits_at g.dim r.1) cell (grid.levels r.0 refined) d;
        there = child_there g r.0 (digits_at g.dim r.1) cell.shape d.first d.second (third_digit g.dim (digits_at g.dim r.1) d) refined;
      }))
      (family_cases g.dim (set.items g.refined) c h)

  -- are all cells of the grid, as many as the formula says
  families_many : set.len all_families ≡ cells_of g
  families_many =
      let all = family_many g.dim (set.items g.refined) (λ p h. (grid.cells p (listed_refined p h)).shape) in
      let size = ap (λ (s : Cells). 3 ^ axes g.dim * set.len s) (of_items g.refined) in
      omega (arith, all, size)

  each_cell : CountsCells (IsCellOf g) (cells_of g)
  each_cell =
      let all = listed_once all_families in
      record {
        cells = all.0;
        members = λ c. ((λ h. from_families c (sym (all.2 c) ∙ h)), (λ is. all.2 c ∙ in_families c is.cell is.there));
        once = all.1;
        count = all.3 ∙ families_many;
      }

pub cells_are_counted : CellsAreCounted
cells_are_counted g grid = each_cell g grid

pub one_count_of_cells : OneCountOfCells
one_count_of_cells g n grid counted = count_is_one (IsCellOf g) n (cells_of g) counted (each_cell g grid)

module _ (g : Spacetree) (grid : IsGrid 12 g) (leaves : List CellKey) (members : (c : CellKey) → (is_among leaves c ≡ true) ↔ IsLeafOf g c) (once : EachOnce leaves) where
  -- the refined cells and the leaves,
  abbrev both_kinds : Cells
  both_kinds = with_all g.refined leaves

  in_kinds : (c : CellKey) → IsCell g.dim c → has_cell g c ≡ true → set.contains both_kinds c ≡ true
  in_kinds c cell there = has_all g.refined leaves c ∙ ⊎_elim
      (λ refined. or_left (is_refined g c) (is_among leaves c) refined)
      (λ apart. or_right (is_refined g c) (is_among leaves c) ((members c).1 (leaf_from g c cell there (false_by (is_refined g c) apart))))
      (true_told (is_refined g c))

  from_kinds : (c : CellKey) → set.contains both_kinds c ≡ true → set.contains (all_families g grid) c ≡ true
  from_kinds c h = ⊎_elim
      (λ refined. in_families g grid c (grid.cells c refined) (refined_there 12 g c grid refined))
      (λ among. let leaf = (members c).0 among in in_families g grid c leaf.cell (leaf_there g c leaf))
      (or_cases (is_refined g c) (is_among leaves c) (sym (has_all g.refined leaves c) ∙ h))

  from_all : (c : CellKey) → set.contains (all_families g grid) c ≡ true → set.contains both_kinds c ≡ true
  from_all c h = let is = from_families g grid c h in in_kinds c is.cell is.there

  -- are the same cells: all of the grid
  same_cells : both_kinds ≡ all_families g grid
  same_cells = set.same_set cells_total exact_cells both_kinds (all_families g grid) (λ c. both_ways (set.contains both_kinds c) (set.contains (all_families g grid) c) (from_kinds c) (from_all c))

  as_many : length leaves ≡ leaves_of g
  as_many =
      let kinds = many g.refined leaves once (λ c among refined. not_leaf g c refined ((members c).0 among)) in
      omega (arith, kinds, families_many g grid, ap set.len same_cells)

pub leaves_are_counted : LeavesAreCounted
leaves_are_counted g n grid counted = sym counted.count ∙ as_many g grid counted.cells counted.members counted.once

-- a list of the leaves in order is as long
pub leaves_are_listed : LeavesAreListed
leaves_are_listed g cells grid lists = as_many g grid cells lists.members (once_of_sorted cells lists.order)

-- the keys of a field are the leaves
pub rows_are_leaves : RowsAreLeaves
rows_are_leaves parts g f grid on =
    let keys = as_many g grid (fin.keys f) (λ c. ((λ h. (on.leaves c).0 (fin.contains_key-keys f c ∙ h)), (λ leaf. sym (fin.contains_key-keys f c) ∙ (on.leaves c).1 leaf))) (keys_once f) in
    omega (arith, keys, length-map (fin.entries f) row_of, length-map (fin.entries f) (λ e. e.0))
