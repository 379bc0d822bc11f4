-- The grid and the field that rows tell, and trees that are cut anew from them.
use Rattle.std.proofs.Common.{◌≡◌, ◌≢◌, ℕ, zero, suc, ◌<◌, ◌≤◌, ◌&&◌, ◌^◌, Bool, true, false, T, List, [], ◌∷◌, ◌++◌, map, length, refl, ap, sym, subst, ◌∙◌, ⊎_elim, arith}
use Rattle.std.specs.FinMap as fin
use Rattle.std.specs.FinMap.{is_sorted}
use Rattle.std.specs.FinMap.Entries.{below_all}
use Rattle.std.specs.List.{AllByRecursion}
use Rattle.std.specs.List.Sorted.{IsStrictlySortedBy}
use Rattle.std.specs.Ordering.{is_lt}
use Rattle.std.specs.declared.cmp.Ordering.{Ordering}
use Rattle.std.specs.declared.cmp.Ordering.TheVariants.{Less, Equal, Greater}
use Rattle.std.proofs.lemmas.Bool.{cases_eq}
use Rattle.peano_keys.specs.declared.dim.Dim.{Dim}
use Rattle.peano_keys.specs.declared.cell.CellKey.{CellKey}
use Rattle.peano_keys.specs.declared.state.State.{State}
use Rattle.peano_keys.specs.Cell.{key_cmp}
use Rattle.peano_keys.specs.Dim.{children}
use Rattle.peano_keys.specs.Grid.{Spacetree, IsGrid}
use Rattle.peano_keys.specs.Field.{States}
use Rattle.peano_curve.specs.declared.order.Direction.TheVariants.{Backward}
use Rattle.peano_curve.proofs.Ranks.{width_positive}
use Rattle.curve_cuts.specs.Cuts.{Cuts, AreCuts, IsCutGrid}
use Rattle.curve_cuts.specs.Keys.{CutPoints, cuts_of}
use Rattle.spacetree.specs.declared.row.Row.{Row}
use Rattle.spacetree.specs.Fields.{IsFieldOn, HasLeaves, row_of, rows_of}
use Rattle.spacetree.specs.LeafLists.{IsGridOf}
use Rattle.spacetree.specs.Leaves.{ListsLeaves}
use Rattle.spacetree.proofs.LeafLists.{deeper}
use Rattle.vertex_stacks.specs.declared.kind.Kind.TheVariants.{Recut}
use Rattle.vertex_stacks.specs.Notes.{Note}
use Rattle.vertex_stacks.specs.Tales.{TaleGrows}
use Rattle.tree_automaton.specs.TreeLists.{TreeLists}
use Rattle.step_world.specs.Notes.{note_over, note_raised, by_trees}
use Rattle.step_driver.specs.declared.recutting.Gathered.{Gathered}
use Rattle.step_driver.specs.declared.recutting.NewTrees.{NewTrees}
use Rattle.step_driver.specs.declared.showing.Shown.{Shown}
use Rattle.step_driver.specs.Notes.{sizes_of, HaveTales, AddsFirst}
use Rattle.step_driver.specs.Recutting.{AreRowsIn, IsGathered, AreSharesAfter, AreCutAnew, AreNotCut, cut_notes}
use Rattle.step_driver.specs.Showing.{ShowTrees}
use Rattle.step_driver.specs.Starts.{AreEqualKeys, AreStarted}
use Rattle.step_driver.specs.Worlds.{AreAt}
use Rattle.step_driver.proofs.Began.{adds_more, adds_after, adds_all, both_noted}
use Rattle.step_driver.proofs.KeysExist.{equal_keys_exist}
use Rattle.step_driver.proofs.Notes.{tales_begin}

both_hold : (a b : Bool) → T (a && b) → T a × T b
both_hold true b h = (tt, h)
both_hold false b h = absurd h

is_less : (o : Ordering) → T (is_lt o) → o ≡ Less
is_less Less h = refl
is_less Equal h = absurd h
is_less Greater h = absurd h

-- the keys of a map stand in their order
keys_above : (c : CellKey) (es : List (CellKey × State)) → T (below_all key_cmp c es) → AllByRecursion (λ k. key_cmp c k ≡ Less) (map (λ (e : CellKey × State). e.0) es)
keys_above c [] h = tt
keys_above c (e ∷ es) h =
    let parts = both_hold (is_lt (key_cmp c e.0)) (below_all key_cmp c es) h in
    (is_less (key_cmp c e.0) parts.0, keys_above c es parts.1)

keys_rise : (es : List (CellKey × State)) → T (is_sorted key_cmp es) → IsStrictlySortedBy key_cmp (map (λ (e : CellKey × State). e.0) es)
unfolding IsStrictlySortedBy
keys_rise [] h = tt
keys_rise (e ∷ es) h =
    let parts = both_hold (below_all key_cmp e.0 es) (is_sorted key_cmp es) h in
    (keys_above e.0 es parts.0, keys_rise es parts.1)

keys_of_rows : (es : List (CellKey × State)) → map (λ (r : Row). r.key) (map row_of es) ≡ map (λ (e : CellKey × State). e.0) es
keys_of_rows [] = refl
keys_of_rows (e ∷ es) = ap (λ (ks : List CellKey). e.0 ∷ ks) (keys_of_rows es)

states_of_rows : (es : List (CellKey × State)) → map (λ (r : Row). r.value) (map row_of es) ≡ map (λ (e : CellKey × State). e.1) es
states_of_rows [] = refl
states_of_rows (e ∷ es) = ap (λ (ss : List State). e.1 ∷ ss) (states_of_rows es)

module _ (dim : Dim) (depth : ℕ) (g : Spacetree) (f : States) (rows : List Row) (are : AreRowsIn dim depth g f rows) where
  pub keys_are : map (λ (r : Row). r.key) rows ≡ map (λ (e : CellKey × State). e.0) (fin.entries f)
  keys_are = ap (map (λ (r : Row). r.key)) are.rows_are ∙ keys_of_rows (fin.entries f)

  pub states_are : map (λ (r : Row). r.value) rows ≡ map (λ (e : CellKey × State). e.1) (fin.entries f)
  states_are = ap (map (λ (r : Row). r.value)) are.rows_are ∙ states_of_rows (fin.entries f)

  lists : ListsLeaves g (fin.keys f)
  lists = record {
    members = λ c. (
      (λ h. (are.leaves c).0 (fin.contains_key-keys f c ∙ h)),
      (λ leaf. sym (fin.contains_key-keys f c) ∙ (are.leaves c).1 leaf),
    );
    order = keys_rise (fin.entries f) (fin.entries_sorted f);
  }

  -- the keys of the rows are the leaves of the grid, in order
  pub rows_list : ListsLeaves g (map (λ (r : Row). r.key) rows)
  rows_list = subst (ListsLeaves g) (sym keys_are) lists

  pub grid_of_rows : IsGridOf dim depth (map (λ (r : Row). r.key) rows) g
  grid_of_rows = record { axes = are.axes; grid = are.grid; room = are.room; lists = rows_list }

-- trees of some cuts are at least one
pub some_trees : (k : Cuts) → AreCuts k → 1 ≤ k.trees
some_trees k cuts = ⊎_elim
    (λ e.
    let last : k.start 0 ≡ children k.dim ^ k.depth = subst (λ n. k.start n ≡ children k.dim ^ k.depth) e cuts.end in
    let first = cuts.first in
    let wide = width_positive k.dim k.depth in
    absurd (omega (arith, first, last, wide)))
    (λ apart. omega (arith, apart))
    (cases_eq k.trees 0)

module _ (parts : ℕ) (keys : CutPoints) (g : Spacetree) (f : States) (step cells : ℕ) (before : List TreeLists) (old : List Note) (at : AreAt parts (cuts_of keys) before old cells g f) where
  -- keys with equal shares exist
  pub shares_exist : (cut : CutPoints) × AreSharesAfter keys g cut
  shares_exist =
      let found = equal_keys_exist keys.depth g (cuts_of keys).trees at.fits.deepest at.fits.grid (some_trees (cuts_of keys) at.fits.cuts) at.few in
      (found.0, found.1)

  -- where the rows are not gathered, the first notes of those sweeps are the first of all
  pub not_gathered : (now : List Note) → AddsFirst old now (by_trees (cuts_of keys).trees (note_over (sizes_of (cuts_of keys)) step Recut g)) → AreNotCut keys g step old now
  not_gathered now h = record {
    cut = shares_exist.0;
    shares = shares_exist.1;
    noted = adds_more old now (by_trees (cuts_of keys).trees (note_over (sizes_of (cuts_of keys)) step Recut g)) (by_trees (cuts_of keys).trees (note_raised (sizes_of (cuts_of shares_exist.0)) step g)) h;
  }

  module _ (after : List TreeLists) (noted : List Note) (shown : Shown) (h : ShowTrees parts (cuts_of keys) g f step Recut cells after old noted shown) where
    -- the rows are those of the grid and the field,
    pub rows_in : AreRowsIn keys.dim keys.depth g f shown.rows.items
    rows_in = record { axes = at.fits.dim; grid = at.fits.grid; room = at.room; leaves = at.field.leaves; rows_are = h.rows }

    -- and then all sweeps that gather are noted
    pub gathered_alone : AreNotCut keys g step old noted
    gathered_alone = not_gathered noted (adds_all old noted (by_trees (cuts_of keys).trees (note_over (sizes_of (cuts_of keys)) step Recut g)) h.noted)

    module _ (x : Gathered) (tells : IsGathered keys.dim keys.depth shown.rows.items x) where
      grid_is : x.grid ≡ g
      grid_is = (tells g f rows_in).0

      field_is : x.field ≡ f
      field_is = (tells g f rows_in).1

      pub grid_stays : IsGrid keys.depth x.grid
      grid_stays = subst (IsGrid keys.depth) (sym grid_is) at.fits.grid

      pub field_fits : IsFieldOn parts x.grid x.field
      field_fits = subst (λ t. IsFieldOn parts t x.field) (sym grid_is) (subst (IsFieldOn parts g) (sym field_is) at.field)

      -- the trees of new keys, raised from them
      pub cut_done : TaleGrows → (trees : NewTrees) (raised new : List Note) → AreEqualKeys keys.depth x.grid (cuts_of keys).trees trees.keys → IsCutGrid (cuts_of trees.keys) x.grid → AreStarted (cuts_of trees.keys) x.grid x.field step trees.stores.items raised → new ≡ noted ++ raised →
          AreCutAnew parts keys g f step cells old new trees
      cut_done grows trees raised new equal fits started is =
          let k : Cuts = cuts_of trees.keys in
          let many : k.trees ≡ (cuts_of keys).trees = (let count = equal.2.trees in omega (arith, count)) in
          let few = at.few in
          let stand = subst (λ t. AreStarted k t x.field step trees.stores.items raised) grid_is started in
          let stands = subst (λ u. AreStarted k g u step trees.stores.items raised) field_is stand in
          let told : new ≡ noted ++ by_trees k.trees (note_raised (sizes_of k) step g) = is ∙ ap (λ (ns : List Note). noted ++ ns) stands.noted in
          record {
            shares = subst (λ t. AreEqualKeys keys.depth t (cuts_of keys).trees trees.keys) grid_is equal;
            at = record {
              few = omega (arith, many, few);
              fits = subst (IsCutGrid k) grid_is fits;
              field = at.field;
              dir = Backward;
              stand = stands.stand;
              tales = subst (HaveTales k.trees trees.stores.items) (sym told) (tales_begin (note_raised (sizes_of k) step g) (λ s. refl) grows (λ s. refl) k.trees trees.stores.items noted stands.tales);
              counted = at.counted;
              room = at.room;
            };
            noted = both_noted old noted new (by_trees (cuts_of keys).trees (note_over (sizes_of (cuts_of keys)) step Recut g)) (by_trees (cuts_of keys).trees (note_raised (sizes_of k) step g)) h.noted
                (told ∙ ap (λ n. noted ++ by_trees n (note_raised (sizes_of k) step g)) many);
          }
