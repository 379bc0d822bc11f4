-- Leaves that stand where they begin.
use Rattle.std.proofs.Common.{◌≡◌, ◌⊎◌, ℕ, ◌+◌, ◌-◌, ◌<◌, ◌≤◌, Bool, true, false, cond, List, length, get_or, refl, ap, sym, subst, ◌∙◌, ⊎_elim, arith, inl, inr}
use Rattle.std.specs.Prelude.{Option, Some, IfSome, Contains}
use Rattle.std.specs.BTreeMap as tree
use Rattle.std.specs.BTreeMap.{BTreeMap, IsOrdered}
use Rattle.std.specs.Cmp.{eq_by_cmp_equiv}
use Rattle.std.specs.Map.{keys_of, values_of}
use Rattle.std.specs.Ordering.{nat_cmp, is_eq}
use Rattle.std.proofs.lemmas.Bool.{cases_eq, false≢true}
use Rattle.std.proofs.lemmas.Cmp.{nat_cmp_total}
use Rattle.std.proofs.lemmas.List.{get_or-map, get_or_default, length-map}
use Rattle.std.proofs.lemmas.List.Elements.{Contains-get_or}
use Rattle.std.proofs.lemmas.Map.Keys.{below_from_sorted}
use Rattle.std.proofs.lemmas.Map.Lookups.{exact_unsigned}
use Rattle.std.proofs.lemmas.Map.Views.{All-found, Contains-from_any, btree_map_get_iff, list_any-from_Contains, tells_apart}
use Rattle.peano_keys.specs.declared.cell.CellKey.{CellKey}
use Rattle.peano_keys.specs.Cell.{IsCell, root}
use Rattle.peano_keys.specs.Grid.{Spacetree, IsGrid, is_leaf}
use Rattle.peano_curve.specs.Order.{interval_start, interval_of}
use Rattle.peano_curve.specs.Run.{Holds}
use Rattle.peano_curve.proofs.Ranks.{width_positive}
use Rattle.solver_api.specs.Step.{IsLeafOf}
use Rattle.spacetree.specs.Leaves.{ListsLeaves}
use Rattle.spacetree.proofs.CellMaps.{cells_total, exact_cells}
use Rattle.curve_cuts.specs.Leaves.{AreLeaves}
use Rattle.curve_cuts.proofs.Apart.{leaves_share_none}
use Rattle.step_driver.specs.Along.{LeavesBegin, StandsIn, HasFirst, HasLeavesAlong}

if_is : {X : Type 0} (P : X → Type 0) (o : Option X) (x : X) → o ≡ Some x → IfSome o P → P x
if_is P o x e h = subst (λ o. IfSome o P) e h

module _ (depth : ℕ) (g : Spacetree) (grid : IsGrid depth g) where
  begins_in : (a : CellKey) → Holds (interval_of g.dim a depth) (interval_start g.dim a depth)
  begins_in a = let w = width_positive g.dim (depth - a.level) in (omega arith, omega (arith, w))

  -- two leaves that begin at one position are one
  pub one_leaf : (a b : CellKey) → IsLeafOf g a → IsLeafOf g b → interval_start g.dim a depth ≡ interval_start g.dim b depth → a ≡ b
  one_leaf a b leaf_a leaf_b e = leaves_share_none depth g a b (interval_start g.dim a depth) grid leaf_a.cell leaf_b.cell leaf_a.leaf leaf_b.leaf (begins_in a) (subst (Holds (interval_of g.dim b depth)) (sym e) (begins_in b))

  module _ (m n : BTreeMap ℕ CellKey) (c : CellKey) (s : ℕ) (leaf : IsLeafOf g c) (begins : s ≡ interval_start g.dim c depth) (updated : (q : ℕ) → tree.get nat_cmp n q ≡ cond (is_eq (nat_cmp s q)) (Some c) (tree.get nat_cmp m q)) where
    got : (q : ℕ) (b : Bool) → is_eq (nat_cmp s q) ≡ b → tree.get nat_cmp n q ≡ cond b (Some c) (tree.get nat_cmp m q)
    got q b e = updated q ∙ ap (λ b. cond b (Some c) (tree.get nat_cmp m q)) e

    abbrev Good : ℕ → Option CellKey → Type 0
    Good q o = IfSome o (λ x. IsLeafOf g x × (interval_start g.dim x depth ≡ q))

    only_more : LeavesBegin depth g m → LeavesBegin depth g n
    only_more h q = by (is_eq (nat_cmp s q)) refl
      where
        by : (b : Bool) → is_eq (nat_cmp s q) ≡ b → Good q (tree.get nat_cmp n q)
        by true e = subst (Good q) (sym (got q true e)) (leaf, sym begins ∙ tells_apart exact_unsigned s q e)
        by false e = subst (Good q) (sym (got q false e)) (h q)

    stands_more : (b : CellKey) → IsLeafOf g b → (b ≡ c) ⊎ StandsIn depth g m b → StandsIn depth g n b
    stands_more b leaf_b was = by (is_eq (nat_cmp s (interval_start g.dim b depth))) refl
      where
        here : b ≡ c → is_eq (nat_cmp s (interval_start g.dim b depth)) ≡ true
        here e = ap (λ p. is_eq (nat_cmp s p)) (ap (λ x. interval_start g.dim x depth) e ∙ sym begins) ∙ (eq_by_cmp_equiv nat_cmp_total).refl s

        by : (o : Bool) → is_eq (nat_cmp s (interval_start g.dim b depth)) ≡ o → StandsIn depth g n b
        by true e = got (interval_start g.dim b depth) true e ∙ ap Some (one_leaf c b leaf leaf_b (sym begins ∙ tells_apart exact_unsigned s (interval_start g.dim b depth) e))
        by false e = got (interval_start g.dim b depth) false e ∙ ⊎_elim (λ same. absurd (false≢true (sym e ∙ here same))) (λ h. h) was

    -- one leaf more
    pub first_more : (leaves : List CellKey) (i : ℕ) → ((j : ℕ) → j < length leaves → IsLeafOf g (get_or leaves j root)) → i < length leaves → c ≡ get_or leaves i root → HasFirst depth g leaves i m → HasFirst depth g leaves (i + 1) n
    first_more leaves i all inside is h = record {
      only = only_more h.only;
      first = λ j below. stands_more (get_or leaves j root) (all j (omega (arith, below, inside))) (⊎_elim
          (λ e. inl (ap (λ k. get_or leaves k root) e ∙ sym is))
          (λ apart. inr (h.first j (omega (arith, below, apart))))
          (cases_eq j i));
    }

  -- a list of the leaves has leaves at its places
  pub leaf_at : (cells : List CellKey) → ListsLeaves g cells → (d : CellKey) (j : ℕ) → j < length cells → IsLeafOf g (get_or cells j d)
  leaf_at cells lists d j inside = (lists.members (get_or cells j d)).0 (list_any-from_Contains (eq_by_cmp_equiv cells_total) (get_or cells j d) cells (Contains-get_or cells j d inside))

  -- and where all of the list stand, all leaves do
  pub all_stand_in : (cells : List CellKey) (i : ℕ) (m : BTreeMap ℕ CellKey) → ListsLeaves g cells → length cells ≤ i → HasFirst depth g cells i m → HasLeavesAlong depth g m
  all_stand_in cells i m lists enough h = record {
    only = h.only;
    all = λ c leaf.
        let at = Contains-from_any (tells_apart exact_cells) c cells ((lists.members c).1 leaf) in
        subst (StandsIn depth g m) (get_or_default cells at.0 root c at.1 ∙ at.2) (h.first at.0 (omega (arith, at.1, enough)));
  }

  -- the leaves by where they begin are the leaves in the order of the curve
  module _ (m : BTreeMap ℕ CellKey) (ordered : IsOrdered nat_cmp m) (h : HasLeavesAlong depth g m) where
    abbrev entry : CellKey → ℕ → ℕ × CellKey
    entry d i = get_or m.entries i (0, d)

    found : (i : ℕ) (d : CellKey) → i < length m.entries → tree.get nat_cmp m (entry d i).0 ≡ Some (entry d i).1
    found i d inside = All-found nat_cmp_total m ordered i (0, d) inside

    good : (i : ℕ) (d : CellKey) → i < length m.entries → IsLeafOf g (entry d i).1 × (interval_start g.dim (entry d i).1 depth ≡ (entry d i).0)
    good i d inside = if_is (λ x. IsLeafOf g x × (interval_start g.dim x depth ≡ (entry d i).0)) (tree.get nat_cmp m (entry d i).0) (entry d i).1 (found i d inside) (h.only (entry d i).0)

    value_at : (i : ℕ) (d : CellKey) → i < length m.entries → get_or (values_of m.entries) i d ≡ (entry d i).1
    value_at i d inside = get_or-map (λ (e : ℕ × CellKey). e.1) m.entries i (0, d) d inside

    key_at : (i : ℕ) (d : CellKey) → i < length m.entries → get_or (keys_of m.entries) i 0 ≡ (entry d i).0
    key_at i d inside = get_or-map (λ (e : ℕ × CellKey). e.0) m.entries i (0, d) 0 inside

    count : length (values_of m.entries) ≡ length m.entries
    count = length-map m.entries (λ (e : ℕ × CellKey). e.1)

    key_count : length (keys_of m.entries) ≡ length m.entries
    key_count = length-map m.entries (λ (e : ℕ × CellKey). e.0)

    rises : (i j : ℕ) (d : CellKey) → i < j → j < length (values_of m.entries) → interval_start g.dim (get_or (values_of m.entries) i d) depth < interval_start g.dim (get_or (values_of m.entries) j d) depth
    rises i j d less inside =
        let high : j < length m.entries = omega (arith, inside, count) in
        let low : i < length m.entries = omega (arith, less, high) in
        let start_i = ap (λ x. interval_start g.dim x depth) (value_at i d low) ∙ ((good i d low).1 ∙ sym (key_at i d low)) in
        let start_j = ap (λ x. interval_start g.dim x depth) (value_at j d high) ∙ ((good j d high).1 ∙ sym (key_at j d high)) in
        let keys = below_from_sorted (keys_of m.entries) i j 0 ordered less (omega (arith, high, key_count)) in
        omega (arith, start_i, start_j, keys)

    has_leaf : (c : CellKey) → IsLeafOf g c → Contains (values_of m.entries) c
    has_leaf c leaf =
        let at = (btree_map_get_iff nat_cmp_total exact_unsigned m ordered (interval_start g.dim c depth) c).0 (h.all c leaf) in
        (at.0, omega (arith, at.1, count), get_or-map (λ (e : ℕ × CellKey). e.1) m.entries at.0 (interval_start g.dim c depth, c) c at.1 ∙ ap (λ (e : ℕ × CellKey). e.1) at.2)

    pub leaves_are : AreLeaves g.dim depth g (values_of m.entries)
    leaves_are = record {
      dim = refl;
      grid = grid;
      only = λ i d inside.
          let below : i < length m.entries = omega (arith, inside, count) in
          let leaf = (good i d below).0 in
          subst (λ x. IsCell g.dim x × (is_leaf g x ≡ true)) (sym (value_at i d below)) (leaf.cell, leaf.leaf);
      all = λ c cell leaf. has_leaf c (record { cell = cell; leaf = leaf });
      order = rises;
    }
