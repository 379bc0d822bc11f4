-- Refined cells to which those above a cell are added.
use Rattle.std.proofs.Common.{◌≡◌, ℕ, ◌+◌, ◌<◌, ◌≤◌, ◌==◌, List, length, get_or, take, true, refl, ap, sym, ◌∙◌, subst, arith, inl, inr}
use Rattle.std.specs.FinSet as set
use Rattle.std.specs.Cmp.{both_ways}
use Rattle.std.proofs.lemmas.Bool.{false≢true, cases_eq, or_left, or_right}
use Rattle.peano_keys.specs.declared.dim.Dim.{Dim}
use Rattle.peano_keys.specs.declared.cell.CellKey.{CellKey}
use Rattle.peano_keys.specs.Cell.{IsCell, parent_of, key_cmp}
use Rattle.peano_keys.specs.Grid.{Cells, Spacetree, IsGrid, is_refined, has_cell}
use Rattle.spacetree.specs.declared.fault.LeavesFault.{LeavesFault}
use Rattle.spacetree.specs.declared.fault.LeavesFault.TheVariants.{NotLeaves, NoMemory}
use Rattle.spacetree.specs.Counts.{cells_for, cells_of}
use Rattle.spacetree.specs.Digits.{IsKept}
use Rattle.spacetree.specs.LeafLists.{AreAbove, CellFails, IsGridOf, IsGridWith, IsJoined, IsLeastWith, IsOneGridOf, LeavesFail, grid_with}
use Rattle.spacetree.specs.Leaves.{ListsLeaves, is_among}
use Rattle.spacetree.proofs.CellCounts.{len_by_kept, more_cells}
use Rattle.spacetree.proofs.CellSets.{among_more, has_inserted, inserted_cases, kept_by_insert, leaf_at, nowhere}
use Rattle.spacetree.proofs.Children.{parent_cell}
use Rattle.spacetree.proofs.LeafLists.{deeper, one_grid_of_leaves, one_list, refines_too}
use Rattle.spacetree.proofs.Leaves.{leaf_there, parent_refined, refined_there}
use Rattle.spacetree.proofs.Unique.{same_grid}

-- above the root there is none
pub none_above : (old : Cells) (c : CellKey) → c.level ≡ 0 → IsLeastWith old c old
none_above old c top = record {
  kept = λ q h. h;
  above = λ deep. absurd (omega (arith, top, deep));
  grid = λ dim depth cell level grid. grid;
  least = λ depth g grid kept there. kept;
}

-- nor is one missing where the parent is there
pub all_there : (old : Cells) (c : CellKey) → set.contains old (parent_of c) ≡ true → IsLeastWith old c old
all_there old c there = record {
  kept = λ q h. h;
  above = λ deep. there;
  grid = λ dim depth cell level grid. grid;
  least = λ depth g grid kept has. kept;
}

-- a grid to which a cell is added whose parent it refines
grid_by_insert : (dim : Dim) (depth : ℕ) (s : Cells) (p : CellKey) → IsCell dim p → p.level < depth → (0 < p.level → set.contains s (parent_of p) ≡ true) → IsGrid depth (grid_with dim s) → IsGrid depth (grid_with dim (set.insert s p))
grid_by_insert dim depth s p cell level up grid = record {
  cells = λ c h. elim (inserted_cases s p c h) [ inl e ↦ subst (IsCell dim) (sym e) cell | inr old ↦ grid.cells c old ];
  levels = λ c h. elim (inserted_cases s p c h) [ inl e ↦ subst (λ (q : CellKey). q.level < depth) (sym e) level | inr old ↦ grid.levels c old ];
  parents = λ c h deep. kept_by_insert s p (parent_of c) (elim (inserted_cases s p c h) [
    | inl e ↦ subst (λ (q : CellKey). set.contains s (parent_of q) ≡ true) (sym e) (up (subst (λ (q : CellKey). 0 < q.level) e deep))
    | inr old ↦ grid.parents c old deep
  ]);
}

-- the parent after those above it
pub parent_added : (old middle : Cells) (c : CellKey) → 0 < c.level → IsLeastWith old (parent_of c) middle → IsLeastWith old c (set.insert middle (parent_of c))
parent_added old middle c deep up =
    let p : CellKey = parent_of c in
    record {
      kept = λ q h. kept_by_insert middle p q (up.kept q h);
      above = λ _. has_inserted middle p;
      grid = λ dim depth cell level grid.
          let over = parent_cell dim c cell deep in
          let below : p.level < depth = omega (arith, deep, level) in
          grid_by_insert dim depth middle p over below up.above (up.grid dim depth over (omega (arith, below)) grid);
      least = λ depth g grid kept there q h.
          let refined = parent_refined g c deep there in
          elim (inserted_cases middle p q h) [
            | inl e ↦ subst (λ (r : CellKey). is_refined g r ≡ true) (sym e) refined
            | inr other ↦ up.least depth g grid kept (refined_there depth g p grid refined) q other
          ];
    }

-- a grid has a cell whose parent is refined
pub has_by_parent : (t : Spacetree) (c : CellKey) → (0 < c.level → is_refined t (parent_of c) ≡ true) → has_cell t c ≡ true
has_by_parent t c up = elim (cases_eq c.level 0) [
  | inl top ↦ or_left (c.level == 0) (is_refined t (parent_of c)) (ap (λ l. l == 0) top)
  | inr apart ↦ or_right (c.level == 0) (is_refined t (parent_of c)) (up (omega (arith, apart)))
]

-- a grid keeps a cell with more refined ones
pub still_there : (t u : Spacetree) (c : CellKey) → IsKept t.refined u.refined → has_cell t c ≡ true → has_cell u c ≡ true
still_there t u c kept there = has_by_parent u c (λ deep. kept (parent_of c) (parent_refined t c deep there))

module _ (dim : Dim) (depth : ℕ) (old : Cells) (c : CellKey) where
  -- what each grid with some cells refines
  pub least_with : (new : Cells) → IsLeastWith old c new → (g : Spacetree) → IsGridWith dim depth old c g → IsKept new g.refined
  least_with new with_above g is = with_above.least depth g is.grid is.kept is.cell.there

  pub joins : (new : Cells) → IsGrid depth (grid_with dim old) → IsCell dim c → c.level ≤ depth → IsLeastWith old c new → cells_for dim (set.len new) ≤ 200000 → IsJoined dim depth old c new
  joins new grid cell level with_above room = record {
    grid = with_above.grid dim depth cell level grid;
    kept = with_above.kept;
    there = has_by_parent (grid_with dim new) c with_above.above;
    room = room;
    least = least_with new with_above;
  }

  -- a cell below the depth is none of a grid
  pub too_deep : depth < c.level → (g : Spacetree) → IsGridWith dim depth old c g → ⊥
  too_deep deep g is = absurd (omega (arith, deep, is.grid.levels (parent_of c) (parent_refined g c (omega (arith, deep)) is.cell.there)))

  -- nor is a key that is no cell of the domain
  pub outside : ¬ IsCell dim c → (g : Spacetree) → IsGridWith dim depth old c g → ⊥
  outside apart g is = apart (subst (λ (d : Dim). IsCell d c) is.axes is.cell.cell)

  -- and no grid has room for too many
  pub no_room : (new : Cells) → IsLeastWith old c new → 200000 < cells_for dim (set.len new) → (g : Spacetree) → IsGridWith dim depth old c g → ⊥
  no_room new with_above many g is =
      let most = more_cells dim (set.len new) (set.len g.refined) (len_by_kept new g.refined (least_with new with_above g is)) in
      let same : cells_of g ≡ cells_for dim (set.len g.refined) = ap (λ d. cells_for d (set.len g.refined)) is.axes in
      absurd (omega (arith, most, same, many, is.room))

module _ (dim : Dim) (depth : ℕ) (leaves : List CellKey) where
  -- a grid with these leaves has each of them
  pub has_leaf : (g : Spacetree) (s : Cells) (i : ℕ) → i < length leaves → IsGridOf dim depth leaves g → IsKept s g.refined → IsGridWith dim depth s (get_or leaves i nowhere) g
  has_leaf g s i h is kept =
      let leaf = leaf_at g leaves leaves i is.lists refl h in
      record { axes = is.axes; grid = is.grid; room = is.room; kept = kept; cell = record { cell = leaf.cell; there = leaf_there g (get_or leaves i nowhere) leaf } }

  -- what is refined once the first of the list have joined
  pub record AreJoined (i : ℕ) (s : Cells) : Type 0 where
    pub grid : IsGrid depth (grid_with dim s)
    pub there : (c : CellKey) → is_among (take i leaves) c ≡ true → has_cell (grid_with dim s) c ≡ true
    pub room : cells_for dim (set.len s) ≤ 200000
    pub least : (g : Spacetree) → IsGridOf dim depth leaves g → IsKept s g.refined

  -- where a leaf of the list does not join, there is no grid
  pub fails_up : (s : Cells) (i : ℕ) (fault : LeavesFault) → i < length leaves → AreJoined i s → CellFails dim depth s (get_or leaves i nowhere) fault → LeavesFail dim depth leaves fault
  fails_up s i NotLeaves h all fails = λ g is. fails g (has_leaf g s i h is (all.least g is))
  fails_up s i NoMemory h all fails = tt

  pub none_joined : (s : Cells) → s ≡ set.empty → AreJoined 0 s
  none_joined s e =
      let nothing : (q : CellKey) → set.contains s q ≡ true → ⊥ = λ q h. false≢true (sym (set.contains-empty key_cmp q) ∙ ap (λ u. set.contains u q) (sym e) ∙ h) in
      record {
        grid = record { cells = λ q h. absurd (nothing q h); levels = λ q h. absurd (nothing q h); parents = λ q h. absurd (nothing q h) };
        there = λ q h. absurd (false≢true h);
        room = (let none = ap (cells_for dim) (ap set.len e ∙ set.len-empty key_cmp) in omega (arith, none));
        least = λ g is q h. absurd (nothing q h);
      }

  pub one_more_joined : (i : ℕ) (old new : Cells) → i < length leaves → AreJoined i old → IsJoined dim depth old (get_or leaves i nowhere) new → AreJoined (i + 1) new
  one_more_joined i old new h all one = record {
    grid = one.grid;
    there = λ q among. elim (among_more leaves i nowhere q h among) [
      | inl before ↦ still_there (grid_with dim old) (grid_with dim new) q one.kept (all.there q before)
      | inr last ↦ subst (λ (r : CellKey). has_cell (grid_with dim new) r ≡ true) (sym last) one.there
    ];
    room = one.room;
    least = λ g is. one.least g (has_leaf g old i h is (all.least g is));
  }

  -- a grid with these leaves refines the cells above them alone
  pub grid_is : (s : Cells) (g : Spacetree) → depth ≤ 12 → AreAbove dim depth leaves s → IsGridOf dim depth leaves g → g ≡ grid_with dim s
  grid_is s g shallow above is = same_grid g (grid_with dim s) is.axes (λ c. both_ways (is_refined g c) (set.contains s c)
      (refines_too depth g (grid_with dim s) (deeper depth 12 g shallow is.grid) above.grid (λ q leaf. above.there q ((is.lists.members q).1 leaf)) c)
      (above.least g is c))

  -- the grid that is made, and what its leaves say where they are the list
  module _ (s : Cells) (grid : Spacetree) (found : List CellKey) (shallow : depth ≤ 12) (above : AreAbove dim depth leaves s) (made : grid ≡ grid_with dim s) (lists : ListsLeaves grid found) where
    pub makes_grid : found ≡ leaves → IsGridOf dim depth leaves grid
    makes_grid same = record {
      axes = ap (λ (t : Spacetree). t.dim) made;
      grid = subst (IsGrid depth) (sym made) above.grid;
      room = subst (λ (t : Spacetree). cells_of t ≤ 200000) (sym made) above.room;
      lists = subst (ListsLeaves grid) same lists;
    }

    pub makes_one : found ≡ leaves → IsOneGridOf dim leaves grid
    makes_one same g axes deep listed =
        let is = makes_grid same in
        one_grid_of_leaves g grid leaves (axes ∙ sym is.axes) deep (deeper depth 12 grid shallow is.grid) listed is.lists

    -- and where they are not
    pub makes_none : (found ≡ leaves → ⊥) → (g : Spacetree) → IsGridOf dim depth leaves g → ⊥
    makes_none other g is = other (one_list g found leaves (subst (λ (t : Spacetree). ListsLeaves t found) (made ∙ sym (grid_is s g shallow above is)) lists) is.lists)
