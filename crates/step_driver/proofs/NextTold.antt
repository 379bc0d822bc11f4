-- The next grid, as the slots of all stores tell it before an adaptation.
use Rattle.std.proofs.Common.{◌≡◌, ◌⊎◌, inl, inr, ⊎_elim, ℕ, zero, suc, ◌<◌, Bool, true, false, refl, sym, ap, ap₂, subst, ◌∙◌, arith, List, [], ◌∷◌, ◌++◌, length, Option, Some, None}
use Rattle.std.specs.FinSet as set
use Rattle.std.specs.Cmp.{both_ways}
use Rattle.std.specs.Ordering.{eq_by_cmp}
use Rattle.std.proofs.lemmas.Bool.{cases_eq, false≢true, or_left, or_right, or_cases}
use Rattle.stack_law.specs.Once.{IsIn}
use Rattle.peano_keys.specs.declared.dim.Dim.{Dim}
use Rattle.peano_keys.specs.declared.cell.CellKey.{CellKey}
use Rattle.peano_keys.specs.Cell.{IsCell, key_cmp}
use Rattle.peano_keys.specs.Dim.{corners}
use Rattle.peano_keys.specs.Vertex.{adjacent_of, corner_of, home_of, slot_from}
use Rattle.peano_keys.specs.Grid.{Spacetree, is_refined, has_cell}
use Rattle.peano_keys.specs.Next.{IsNextGrid}
use Rattle.peano_records.specs.declared.stored.Stored.{Stored}
use Rattle.peano_records.specs.declared.slot.Slot.{Slot}
use Rattle.peano_records.specs.AtRest.{HoldsIntent, IsBeforeAdapting, status_of, intent_between}
use Rattle.peano_records.specs.Slots.{slot_at}
use Rattle.peano_records.specs.Tells.{slot_tells, tells_refined}
use Rattle.peano_curve.specs.declared.order.Direction.{Direction}
use Rattle.spacetree.specs.Leaves.{is_among}
use Rattle.spacetree.proofs.CellMaps.{cells_total, exact_cells}
use Rattle.spacetree.proofs.CellSets.{same_key, itself}
use Rattle.spacetree.proofs.Leaves.{leaf_there}
use Rattle.hanging_nodes.proofs.TwoGrids.{refined_there}
use Rattle.curve_cuts.specs.Cuts.{Cuts, HasVertex, IsCutGrid, range_of}
use Rattle.curve_cuts.proofs.Cuts.{owner_exists, owner_holds}
use Rattle.tree_automaton.specs.TreeLists.{TreeLists}
use Rattle.tree_automaton.specs.AtRest.{StandsBefore}
use Rattle.step_phases.specs.Change.{Change}
use Rattle.step_phases.proofs.Homes.{has_home, home_stands, slot_below}
use Rattle.swept_slots.specs.Copies.{copies}
use Rattle.swept_slots.proofs.Stores.{all_in, store_has_copies}
use Rattle.swept_slots.proofs.Visited.{among_in}
use Rattle.spacetree.proofs.AllCells.{among_first, among_second}
use Rattle.step_driver.specs.Stores.{no_store, store_of}
use Rattle.step_driver.proofs.Places.{in_place, place_in}

-- a cell of which it is said that it will be refined
abbrev if_told : Bool → Option CellKey → List CellKey
if_told true (Some c) = c ∷ []
if_told true None = []
if_told false o = []

-- the cells at the first positions of a vertex of which its slots say so
abbrev round : Dim → Stored → ℕ → List CellKey
round dim r zero = []
round dim r (suc n) = if_told (slot_tells true (slot_at r n)) (adjacent_of dim r.key n) ++ round dim r n

abbrev in_records : Dim → List Stored → List CellKey
in_records dim [] = []
in_records dim (r ∷ rs) = round dim r (corners dim) ++ in_records dim rs

abbrev in_stores : Dim → List TreeLists → List CellKey
in_stores dim [] = []
in_stores dim (s ∷ ss) = in_records dim s.lanes.input ++ in_stores dim ss

-- the grid of which these are the refined cells
abbrev pub told_grid : Dim → List TreeLists → Spacetree
told_grid dim stores = record { dim = dim; refined = set.from_list (in_stores dim stores) }

-- a vertex whose slot of a cell says so
record Tells (dim : Dim) (c : CellKey) (m : ℕ) (r : Stored) : Type 0 where
  pub n : ℕ
  pub below : n < m
  pub tells : slot_tells true (slot_at r n) ≡ true
  pub at : adjacent_of dim r.key n ≡ Some c

among_either : (xs ys : List CellKey) (q : CellKey) → is_among (xs ++ ys) q ≡ true → (is_among xs q ≡ true) ⊎ (is_among ys q ≡ true)
among_either [] ys q h = inr h
among_either (x ∷ xs) ys q h = ⊎_elim
    (λ a. inl (or_left (eq_by_cmp key_cmp q x) (is_among xs q) a))
    (λ b. ⊎_elim (λ l. inl (or_right (eq_by_cmp key_cmp q x) (is_among xs q) l)) (λ r. inr r) (among_either xs ys q b))
    (or_cases (eq_by_cmp key_cmp q x) (is_among (xs ++ ys) q) h)

is_told : (b : Bool) (o : Option CellKey) (c : CellKey) → is_among (if_told b o) c ≡ true → (b ≡ true) × (o ≡ Some c)
is_told true (Some q) c h = (refl, ap Some (sym (same_key c q (⊎_elim (λ a. a) (λ b. absurd (false≢true b)) (or_cases (eq_by_cmp key_cmp c q) false h)))))
is_told true None c h = absurd (false≢true h)
is_told false o c h = absurd (false≢true h)

told_is : (b : Bool) (o : Option CellKey) (c : CellKey) → b ≡ true → o ≡ Some c → is_among (if_told b o) c ≡ true
told_is b o c e f = subst (λ x. is_among (if_told x o) c ≡ true) (sym e) (subst (λ x. is_among (if_told true x) c ≡ true) (sym f) (or_left (eq_by_cmp key_cmp c c) false (itself c)))

round_tells : (dim : Dim) (r : Stored) (m : ℕ) (c : CellKey) → is_among (round dim r m) c ≡ true → Tells dim c m r
round_tells dim r zero c h = absurd (false≢true h)
round_tells dim r (suc m) c h = ⊎_elim
    (λ a.
    let one = is_told (slot_tells true (slot_at r m)) (adjacent_of dim r.key m) c a in
    record { n = m; below = omega arith; tells = one.0; at = one.1 })
    (λ b.
    let rest = round_tells dim r m c b in
    record { n = rest.n; below = (let low = rest.below in omega (arith, low)); tells = rest.tells; at = rest.at })
    (among_either (if_told (slot_tells true (slot_at r m)) (adjacent_of dim r.key m)) (round dim r m) c h)

round_told : (dim : Dim) (r : Stored) (m : ℕ) (c : CellKey) → Tells dim c m r → is_among (round dim r m) c ≡ true
round_told dim r zero c t = absurd (let low = t.below in omega (arith, low))
round_told dim r (suc m) c t = ⊎_elim
    (λ e. among_first (if_told (slot_tells true (slot_at r m)) (adjacent_of dim r.key m)) (round dim r m) c
    (told_is (slot_tells true (slot_at r m)) (adjacent_of dim r.key m) c (ap (λ i. slot_tells true (slot_at r i)) (sym e) ∙ t.tells) (ap (λ i. adjacent_of dim r.key i) (sym e) ∙ t.at)))
    (λ apart. among_second (if_told (slot_tells true (slot_at r m)) (adjacent_of dim r.key m)) (round dim r m) c
    (round_told dim r m c (record { n = t.n; below = (let low = t.below in omega (arith, low, apart)); tells = t.tells; at = t.at })))
    (cases_eq t.n m)

records_tell : (dim : Dim) (rs : List Stored) (c : CellKey) → is_among (in_records dim rs) c ≡ true → (r : Stored) × IsIn r rs × Tells dim c (corners dim) r
records_tell dim [] c h = absurd (false≢true h)
records_tell dim (r ∷ rs) c h = ⊎_elim
    (λ a. (r, inl refl, round_tells dim r (corners dim) c a))
    (λ b. let rest = records_tell dim rs c b in (rest.0, inr rest.1, rest.2))
    (among_either (round dim r (corners dim)) (in_records dim rs) c h)

records_told : (dim : Dim) (rs : List Stored) (c : CellKey) (r : Stored) → IsIn r rs → Tells dim c (corners dim) r → is_among (in_records dim rs) c ≡ true
records_told dim [] c r h t = absurd h
records_told dim (x ∷ rs) c r (inl e) t = among_first (round dim x (corners dim)) (in_records dim rs) c (round_told dim x (corners dim) c (subst (Tells dim c (corners dim)) e t))
records_told dim (x ∷ rs) c r (inr h) t = among_second (round dim x (corners dim)) (in_records dim rs) c (records_told dim rs c r h t)

stores_tell : (dim : Dim) (ss : List TreeLists) (c : CellKey) → is_among (in_stores dim ss) c ≡ true → (s : TreeLists) × IsIn s ss × (is_among (in_records dim s.lanes.input) c ≡ true)
stores_tell dim [] c h = absurd (false≢true h)
stores_tell dim (s ∷ ss) c h = ⊎_elim
    (λ a. (s, inl refl, a))
    (λ b. let rest = stores_tell dim ss c b in (rest.0, inr rest.1, rest.2))
    (among_either (in_records dim s.lanes.input) (in_stores dim ss) c h)

stores_told : (dim : Dim) (ss : List TreeLists) (c : CellKey) (s : TreeLists) → IsIn s ss → is_among (in_records dim s.lanes.input) c ≡ true → is_among (in_stores dim ss) c ≡ true
stores_told dim [] c s h a = absurd h
stores_told dim (x ∷ ss) c s (inl e) a = among_first (in_records dim x.lanes.input) (in_stores dim ss) c (subst (λ (z : TreeLists). is_among (in_records dim z.lanes.input) c ≡ true) e a)
stores_told dim (x ∷ ss) c s (inr h) a = among_second (in_records dim x.lanes.input) (in_stores dim ss) c (stores_told dim ss c s h a)

between_tells : (a b : Bool) → tells_refined true (intent_between a b) (status_of a) ≡ b
between_tells true true = refl
between_tells true false = refl
between_tells false true = refl
between_tells false false = refl

module _ (k : Cuts) (w : Change) (dir : Direction) (stores : List TreeLists) (fits : IsCutGrid k w.old) (new_fits : IsCutGrid k w.new) (next : IsNextGrid w.old w.mark w.new)
    (count : length stores ≡ k.trees) (before : (t : ℕ) → t < k.trees → StandsBefore k.depth (range_of k t) t dir w.old w.new (store_of stores t)) where
  slot_shows : (c : CellKey) (s : Slot) → HoldsIntent w.old w.new c s → slot_tells true s ≡ is_refined w.new c
  slot_shows c s h = ap₂ (tells_refined true) h.intent h.status ∙ between_tells (is_refined w.old c) (is_refined w.new c)

  -- what the record of a store says of a cell at a position
  says : (t : ℕ) → t < k.trees → (r : Stored) → IsIn r (store_of stores t).lanes.input → (n : ℕ) (c : CellKey) → n < corners k.dim → adjacent_of k.dim r.key n ≡ Some c → slot_tells true (slot_at r n) ≡ is_refined w.new c
  says t below r there n c low at =
      let is : IsBeforeAdapting w.old w.new r = all_in (IsBeforeAdapting w.old w.new) (store_of stores t).lanes.input (before t below).slots r there in
      slot_shows c (slot_at r n) (is.inside n c (subst (λ d. n < corners d) (sym fits.dim) low) (subst (λ d. adjacent_of d r.key n ≡ Some c) (sym fits.dim) at))

  told_refined : (c : CellKey) → is_among (in_stores k.dim stores) c ≡ true → is_refined w.new c ≡ true
  told_refined c h =
      let s = stores_tell k.dim stores c h in
      let p = in_place no_store s.0 stores s.1 in
      let below : p.0 < k.trees = (let low = p.1 in omega (arith, low, count)) in
      let r = records_tell k.dim s.0.lanes.input c s.2 in
      sym (says p.0 below r.0 (subst (λ (z : TreeLists). IsIn r.0 z.lanes.input) (sym p.2) r.1) r.2.n c r.2.below r.2.at) ∙ r.2.tells

  refined_told : (c : CellKey) → is_refined w.new c ≡ true → is_among (in_stores k.dim stores) c ≡ true
  refined_told c refined =
      let cell : IsCell k.dim c = subst (λ d. IsCell d c) new_fits.dim (new_fits.grid.cells c refined) in
      let there : has_cell w.old c ≡ true = ⊎_elim
      (λ s. leaf_there w.old c (record { cell = s.cell; leaf = s.leaf }))
      (λ r. refined_there k.depth w.old c fits.grid r.0)
      ((next.refined c).0 refined) in
      let low = new_fits.grid.levels c refined in
      let o = owner_exists k c fits.cuts cell (omega (arith, low)) in
      let tree = o.1.tree in
      let home = corner_of c (home_of k.dim c) in
      let place = slot_from k.dim (home_of k.dim c) in
      let has : HasVertex k w.old o.0 home = has_home k w.old o.0 c fits tree cell (owner_holds k o.0 c o.1) there in
      let input = (store_of stores o.0).lanes.input in
      let copy = store_has_copies k w.old o.0 o.0 dir (store_of stores o.0) fits (before o.0 tree).lists home has in
      let inside : IsIn (copies input home) input = among_in (copies input home) input copy.among in
      let below : place < corners k.dim = slot_below k.dim (home_of k.dim c) in
      let at : adjacent_of k.dim (copies input home).key place ≡ Some c = ap (λ v. adjacent_of k.dim v place) copy.key ∙ home_stands k.dim c cell in
      stores_told k.dim stores c (store_of stores o.0) (place_in no_store stores o.0 (omega (arith, tree, count)))
      (records_told k.dim input c (copies input home) inside (record { n = place; below = below; tells = says o.0 tree (copies input home) inside place c below at ∙ refined; at = at }))

  -- it is the next grid
  pub told_is_next : told_grid k.dim stores ≡ w.new
  told_is_next =
      let dims : k.dim ≡ w.new.dim = sym new_fits.dim in
      let sets : set.from_list (in_stores k.dim stores) ≡ w.new.refined = set.same_set cells_total exact_cells (set.from_list (in_stores k.dim stores)) w.new.refined
      (λ c. set.contains-from_list cells_total (in_stores k.dim stores) c ∙ both_ways (is_among (in_stores k.dim stores) c) (is_refined w.new c) (told_refined c) (refined_told c)) in
      λ i. record { dim = dims i; refined = sets i }
