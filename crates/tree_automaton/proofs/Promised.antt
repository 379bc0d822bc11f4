-- What a visitor keeps of a view.
use Rattle.std.proofs.Common.{◌≡◌, ◌↔◌, ◌⊎◌, ℕ, zero, suc, ◌<◌, Bool, true, false, Option, Some, None, length, refl, ap, sym, ◌∙◌, subst, ⊎_elim, inl, inr, arith}
use Rattle.std.specs.Prelude.{if◌then◌else◌, IfSome, nat_lt}
use Rattle.std.proofs.lemmas.Bool.{cases_Bool, false≢true, lt-ltb}
use Rattle.peano_keys.specs.declared.dim.Dim.{Dim}
use Rattle.peano_keys.specs.declared.dim.Dim.TheVariants.{Two, Three}
use Rattle.peano_keys.specs.declared.cell.CellKey.{CellKey}
use Rattle.peano_keys.specs.declared.vertex.VertexKey.{VertexKey}
use Rattle.peano_keys.specs.Dim.{corners}
use Rattle.peano_keys.specs.Cell.{IsCell}
use Rattle.peano_keys.specs.Vertex.{IsVertex, Touches, adjacent_of, corner_of}
use Rattle.peano_keys.specs.Grid.{Spacetree, IsStored, has_cell, is_refined}
use Rattle.peano_keys.proofs.Positions.{adjacent_touches}
use Rattle.peano_records.specs.declared.slot.Slot.{Slot}
use Rattle.peano_records.specs.declared.slot.Status.TheVariants.{Unset, Outside, Leaf, Refined}
use Rattle.peano_records.specs.declared.slot.Intent.TheVariants.{Stay, Split, Merge}
use Rattle.peano_records.specs.declared.view.CellView.{CellView}
use Rattle.peano_records.specs.declared.view.Corner.{Corner}
use Rattle.peano_records.specs.declared.view.Corner.TheVariants.{Vertex, Hanging, Beyond}
use Rattle.peano_records.specs.Slots.{VertexRecord, slot_at, fresh, first_status}
use Rattle.peano_records.specs.AtRest.{SaysOfCells, HoldsCell, status_of}
use Rattle.peano_records.specs.Tells.{corner_at}
use Rattle.hanging_nodes.specs.Views.{HasSlots, IsOldSlot, IsNewSlot, IsFirstSlot, IsShown, IsStoredBefore}
use Rattle.hanging_nodes.proofs.TwoGrids.{leaf_of, stay_not_split, stay_not_merge}
use Rattle.hanging_nodes.proofs.Told.{refined_is}
use Rattle.sweep_visits.specs.Plan.{dim_of}
use Rattle.tree_automaton.specs.declared.kinds.Serves.{Serves}
use Rattle.tree_automaton.specs.declared.kinds.Serves.TheVariants.{Raising, Adapting, Plain}
use Rattle.tree_automaton.specs.Sweep.{TreeSweep, IsTreeSweep, GridsServe, flag_in, tells_new}
use Rattle.tree_automaton.specs.Promises.{Foresees, HasKey, IsViewIn, Keeps, KnowsStep, MayEnter, MayLeave, Meaning, SameCorner, StatusIn}
use Rattle.tree_automaton.specs.Story.{Story}
use Rattle.tree_automaton.specs.Sweeps.{GridsAgree, IsFor}
use Rattle.tree_automaton.specs.Views.{CornerFits, CornerGiven, HasValues, IsMade, IsViewOf, KnowsField, VertexFits, ViewFits, ViewGiven}
use Rattle.tree_automaton.specs.Visits.{CornerTaken, ViewTaken}
use Rattle.tree_automaton.proofs.Decided.{corner_vertex, old_grid}
use Rattle.tree_automaton.proofs.Entered.{given}

field_kept : (v : Serves) (p : TreeSweep) (c : CellKey) (x y : CellView) → y.sides ≡ x.sides → y.carried ≡ x.carried → KnowsField v p c x → KnowsField v p c y
field_kept Raising p c x y sides carried h = tt
field_kept Adapting p c x y sides carried h = tt
field_kept Plain p c x y sides carried h = (sides ∙ h.0, λ below. carried ∙ h.1 below)

-- a place without a corner stays so
pub beyond_kept : (k l : Corner) → SameCorner k l → k ≡ Beyond → l ≡ Beyond
beyond_kept Beyond Beyond same e = refl
beyond_kept Beyond (Vertex t) same e = absurd same
beyond_kept Beyond (Hanging l) same e = absurd same
beyond_kept (Vertex s) l same e = cc
beyond_kept (Hanging k) l same e = cc

eight_corners : (dim : Dim) (n : ℕ) → n < corners dim → n < 8
eight_corners Two n h = omega arith
eight_corners Three n h = h

leaf_not_refined : (b : Bool) → status_of b ≡ Leaf → b ≡ false
leaf_not_refined true e = cc
leaf_not_refined false e = refl

refined_true : (b : Bool) → status_of b ≡ Refined → b ≡ true
refined_true true e = refl
refined_true false e = cc

-- a cell at a position of a stored vertex is one of the grid
stored_has : (t : Spacetree) (w : VertexKey) (n : ℕ) (q : CellKey) → IsVertex t.dim w → IsStored t w → adjacent_of t.dim w n ≡ Some q → has_cell t q ≡ true
stored_has t w n q vertex stored here = let at = subst (λ o. IfSome o (λ q. IsCell t.dim q × Touches q w)) here (adjacent_touches t.dim w n vertex) in stored q at.0 at.1

abbrev PlainSlot : VertexKey → ℕ → Slot → Slot → Type 0
PlainSlot key k s t = (t.status ≡ s.status) × (t.value ≡ s.value) × (t.intent ≡ Split → (s.intent ≡ Split) ⊎ (s.status ≡ Leaf)) × (t.intent ≡ Merge → (s.intent ≡ Merge) ⊎ (s.status ≡ Refined))

module _ (p : TreeSweep) (plan : IsTreeSweep p) where
  -- in a plain sweep
  plain_vertex : (s t : VertexRecord) → p.serves ≡ Plain → p.plan.old ≡ Some p.plan.new → IsVertex (dim_of p.plan) s.key → t.key ≡ s.key → length t.slots ≡ length s.slots → ((k : ℕ) → k < 8 → PlainSlot s.key k (slot_at s k) (slot_at t k)) → VertexFits p s → VertexFits p t
  plain_vertex s t serves one vertex key len rel fits = record {
    eight = len ∙ fits.eight;
    slots = subst (λ o. HasSlots (dim_of p.plan) o p.plan.new (tells_new p.serves) t.key t) (sym one) (subst (λ v. HasSlots (dim_of p.plan) (Some p.plan.new) p.plan.new (tells_new v) t.key t) (sym serves) slots);
    outside = λ n below none. (rel n (eight_corners (dim_of p.plan) n below)).0 ∙ fits.outside n below (ap (λ w. adjacent_of (dim_of p.plan) w n) (sym key) ∙ none);
    values = subst (λ v. HasValues v p t) (sym serves) values;
  }
    where
      old_slots : HasSlots (dim_of p.plan) (Some p.plan.new) p.plan.new false s.key s
      old_slots = subst (λ v. HasSlots (dim_of p.plan) (Some p.plan.new) p.plan.new (tells_new v) s.key s) serves (subst (λ o. HasSlots (dim_of p.plan) o p.plan.new (tells_new p.serves) s.key s) one fits.slots)

      stored : IsStored p.plan.new s.key
      stored = ⊎_elim (λ x. x) (λ x. x) old_slots.0

      old_values : SaysOfCells (dim_of p.plan) s (HoldsCell p.plan.new p.field)
      old_values = subst (λ v. HasValues v p s) serves fits.values

      here : (n : ℕ) (q : CellKey) → adjacent_of (dim_of p.plan) t.key n ≡ Some q → adjacent_of (dim_of p.plan) s.key n ≡ Some q
      here n q at = ap (λ w. adjacent_of (dim_of p.plan) w n) (sym key) ∙ at

      values : SaysOfCells (dim_of p.plan) t (HoldsCell p.plan.new p.field)
      values n q below at = let one_slot = rel n (eight_corners (dim_of p.plan) n below) in let old = old_values n q below (here n q at) in record { status = one_slot.0 ∙ old.status; value = one_slot.1 ∙ old.value }

      old_slot : SaysOfCells (dim_of p.plan) t (IsOldSlot p.plan.new p.plan.new false)
      old_slot n q below at =
          let r = rel n (eight_corners (dim_of p.plan) n below) in
          let o = old_slots.1 stored n q below (here n q at) in
          let v = old_values n q below (here n q at) in
          record {
            split = λ e. ⊎_elim (λ was. o.split was) (λ leaf. leaf_of p.plan.new q (stored_has p.plan.new s.key n q vertex stored (here n q at)) (leaf_not_refined (is_refined p.plan.new q) (sym v.status ∙ leaf))) (r.2 e);
            merge = λ e. ⊎_elim (λ was. o.merge was) (λ refined. refined_true (is_refined p.plan.new q) (sym v.status ∙ refined)) (r.3 e);
            stay = λ e. let f = refined_is (is_refined p.plan.new q) in (λ x. f.0 (sym (values n q below at).status ∙ x), λ x. (values n q below at).status ∙ f.1 x);
            splits = λ e. absurd (false≢true e);
            merges = λ e. absurd (false≢true e);
          }

      slots : HasSlots (dim_of p.plan) (Some p.plan.new) p.plan.new false t.key t
      slots = (inl (subst (IsStored p.plan.new) (sym key) stored), λ _. old_slot, λ not. absurd (not (subst (IsStored p.plan.new) (sym key) stored)))

  fresh_stays : (dim : Dim) (w : VertexKey) (k : ℕ) → k < 8 → (slot_at (fresh dim w) k).intent ≡ Stay
  fresh_stays dim w zero h = refl
  fresh_stays dim w (suc zero) h = refl
  fresh_stays dim w (suc (suc zero)) h = refl
  fresh_stays dim w (suc (suc (suc zero))) h = refl
  fresh_stays dim w (suc (suc (suc (suc zero)))) h = refl
  fresh_stays dim w (suc (suc (suc (suc (suc zero))))) h = refl
  fresh_stays dim w (suc (suc (suc (suc (suc (suc zero)))))) h = refl
  fresh_stays dim w (suc (suc (suc (suc (suc (suc (suc zero))))))) h = refl
  fresh_stays dim w (suc (suc (suc (suc (suc (suc (suc (suc k)))))))) h = absurd (omega arith)

  -- in a raising sweep every slot is set as the cell is entered
  raising_vertex : (w : VertexKey) (s t : VertexRecord) → p.serves ≡ Raising → p.plan.old ≡ None → s.key ≡ w → t.key ≡ s.key → length t.slots ≡ length s.slots → ((k : ℕ) → k < 8 → ((slot_at t k).intent ≡ (slot_at s k).intent) × (k < corners (dim_of p.plan) → StatusIn p.plan.new (adjacent_of (dim_of p.plan) s.key k) (slot_at t k))) → VertexFits p s ⊎ IsMade p w s → VertexFits p t
  raising_vertex w s t serves none own key len rel fits = record {
    eight = len ∙ eight fits;
    slots = subst (λ o. HasSlots (dim_of p.plan) o p.plan.new (tells_new p.serves) t.key t) (sym none) (subst (IsStored p.plan.new) (sym key) (stored fits), first);
    outside = λ n below out. subst (λ o. StatusIn p.plan.new o (slot_at t n)) (ap (λ x. adjacent_of (dim_of p.plan) x n) (sym key) ∙ out) ((rel n (eight_corners (dim_of p.plan) n below)).1 below);
    values = subst (λ v. HasValues v p t) (sym serves) tt;
  }
    where
      eight : VertexFits p s ⊎ IsMade p w s → length s.slots ≡ 8
      eight (inl f) = f.eight
      eight (inr made) = ap (λ x. length x.slots) made.fresh

      stored : VertexFits p s ⊎ IsMade p w s → IsStored p.plan.new s.key
      stored (inl f) = (subst (λ o. HasSlots (dim_of p.plan) o p.plan.new (tells_new p.serves) s.key s) none f.slots).0
      stored (inr made) = subst (IsStored p.plan.new) (sym own) made.stored

      stays : VertexFits p s ⊎ IsMade p w s → (n : ℕ) (q : CellKey) → n < corners (dim_of p.plan) → adjacent_of (dim_of p.plan) s.key n ≡ Some q → (slot_at s n).intent ≡ Stay
      stays (inl f) n q below at = ((subst (λ o. HasSlots (dim_of p.plan) o p.plan.new (tells_new p.serves) s.key s) none f.slots).1 n q below at).stay
      stays (inr made) n q below at = ap (λ x. (slot_at x n).intent) made.fresh ∙ fresh_stays (dim_of p.plan) w n (eight_corners (dim_of p.plan) n below)

      first : SaysOfCells (dim_of p.plan) t (IsFirstSlot p.plan.new)
      first n q below at =
          let old : adjacent_of (dim_of p.plan) s.key n ≡ Some q = ap (λ x. adjacent_of (dim_of p.plan) x n) (sym key) ∙ at in
          let r = rel n (eight_corners (dim_of p.plan) n below) in
          let status : (slot_at t n).status ≡ status_of (is_refined p.plan.new q) = subst (λ o. StatusIn p.plan.new o (slot_at t n)) old (r.1 below) in
          let f = refined_is (is_refined p.plan.new q) in
          record { stay = r.0 ∙ stays fits n q below old; refined = (λ x. f.0 (sym status ∙ x), λ x. status ∙ f.1 x) }

  module _ (old : Spacetree) (is_old : p.plan.old ≡ Some old) (serves : p.serves ≡ Adapting) where
    both : (x : VertexKey) (s : VertexRecord) → HasSlots (dim_of p.plan) p.plan.old p.plan.new (tells_new p.serves) x s → HasSlots (dim_of p.plan) (Some old) p.plan.new true x s
    both x s h = subst (λ v. HasSlots (dim_of p.plan) (Some old) p.plan.new (tells_new v) x s) serves (subst (λ o. HasSlots (dim_of p.plan) o p.plan.new (tells_new p.serves) x s) is_old h)

    back : (x : VertexKey) (s : VertexRecord) → HasSlots (dim_of p.plan) (Some old) p.plan.new true x s → HasSlots (dim_of p.plan) p.plan.old p.plan.new (tells_new p.serves) x s
    back x s h = subst (λ o. HasSlots (dim_of p.plan) o p.plan.new (tells_new p.serves) x s) (sym is_old) (subst (λ v. HasSlots (dim_of p.plan) (Some old) p.plan.new (tells_new v) x s) (sym serves) h)

    never : (b : Bool) (o : Option CellKey) → (if b then first_status o else Unset) ≡ Refined → ⊥
    never true None e = cc
    never true (Some q) e = cc
    never false o e = cc

    fresh_status : (dim : Dim) (w : VertexKey) (k : ℕ) → k < 8 → (slot_at (fresh dim w) k).status ≡ Refined → ⊥
    fresh_status dim w zero h e = never (nat_lt 0 (corners dim)) (adjacent_of dim w 0) e
    fresh_status dim w (suc zero) h e = never (nat_lt 1 (corners dim)) (adjacent_of dim w 1) e
    fresh_status dim w (suc (suc zero)) h e = never (nat_lt 2 (corners dim)) (adjacent_of dim w 2) e
    fresh_status dim w (suc (suc (suc zero))) h e = never (nat_lt 3 (corners dim)) (adjacent_of dim w 3) e
    fresh_status dim w (suc (suc (suc (suc zero)))) h e = never (nat_lt 4 (corners dim)) (adjacent_of dim w 4) e
    fresh_status dim w (suc (suc (suc (suc (suc zero))))) h e = never (nat_lt 5 (corners dim)) (adjacent_of dim w 5) e
    fresh_status dim w (suc (suc (suc (suc (suc (suc zero)))))) h e = never (nat_lt 6 (corners dim)) (adjacent_of dim w 6) e
    fresh_status dim w (suc (suc (suc (suc (suc (suc (suc zero))))))) h e = never (nat_lt 7 (corners dim)) (adjacent_of dim w 7) e
    fresh_status dim w (suc (suc (suc (suc (suc (suc (suc (suc k)))))))) h e = absurd (omega arith)

    outside_slot : (b : Bool) (o : Option CellKey) → b ≡ true → o ≡ None → (if b then first_status o else Unset) ≡ Outside
    outside_slot true None x y = refl
    outside_slot true (Some q) x y = cc
    outside_slot false o x y = absurd (false≢true x)

    fresh_outside : (dim : Dim) (w : VertexKey) (k : ℕ) → k < 8 → k < corners dim → adjacent_of dim w k ≡ None → (slot_at (fresh dim w) k).status ≡ Outside
    fresh_outside dim w zero h b o = outside_slot (nat_lt 0 (corners dim)) (adjacent_of dim w 0) (lt-ltb 0 (corners dim) b) o
    fresh_outside dim w (suc zero) h b o = outside_slot (nat_lt 1 (corners dim)) (adjacent_of dim w 1) (lt-ltb 1 (corners dim) b) o
    fresh_outside dim w (suc (suc zero)) h b o = outside_slot (nat_lt 2 (corners dim)) (adjacent_of dim w 2) (lt-ltb 2 (corners dim) b) o
    fresh_outside dim w (suc (suc (suc zero))) h b o = outside_slot (nat_lt 3 (corners dim)) (adjacent_of dim w 3) (lt-ltb 3 (corners dim) b) o
    fresh_outside dim w (suc (suc (suc (suc zero)))) h b o = outside_slot (nat_lt 4 (corners dim)) (adjacent_of dim w 4) (lt-ltb 4 (corners dim) b) o
    fresh_outside dim w (suc (suc (suc (suc (suc zero))))) h b o = outside_slot (nat_lt 5 (corners dim)) (adjacent_of dim w 5) (lt-ltb 5 (corners dim) b) o
    fresh_outside dim w (suc (suc (suc (suc (suc (suc zero)))))) h b o = outside_slot (nat_lt 6 (corners dim)) (adjacent_of dim w 6) (lt-ltb 6 (corners dim) b) o
    fresh_outside dim w (suc (suc (suc (suc (suc (suc (suc zero))))))) h b o = outside_slot (nat_lt 7 (corners dim)) (adjacent_of dim w 7) (lt-ltb 7 (corners dim) b) o
    fresh_outside dim w (suc (suc (suc (suc (suc (suc (suc (suc k)))))))) h b o = absurd (omega (arith, h))

    -- a vertex that was made fits an adaptation
    made_fits : (w : VertexKey) (s : VertexRecord) → s.key ≡ w → IsMade p w s → VertexFits p s
    made_fits w s own made = record {
      eight = ap (λ x. length x.slots) made.fresh;
      slots = back s.key s (
        inr (subst (IsStored p.plan.new) (sym own) made.stored),
        λ stored. absurd (made.first (subst (λ o. IsStoredBefore o w) (sym is_old) (subst (IsStored old) own stored))),
        λ _ n q below at. record {
          stay = ap (λ x. (slot_at x n).intent) made.fresh ∙ fresh_stays (dim_of p.plan) w n (eight_corners (dim_of p.plan) n below);
          refined = λ e. absurd (fresh_status (dim_of p.plan) w n (eight_corners (dim_of p.plan) n below) (ap (λ x. (slot_at x n).status) (sym made.fresh) ∙ e));
        },
      );
      outside = λ n below none. ap (λ x. (slot_at x n).status) made.fresh ∙ fresh_outside (dim_of p.plan) w n (eight_corners (dim_of p.plan) n below) below (ap (λ k. adjacent_of (dim_of p.plan) k n) (sym own) ∙ none);
      values = subst (λ v. HasValues v p s) (sym serves) tt;
    }

    abbrev AdaptSlot : CellKey → VertexKey → ℕ → Slot → Slot → Type 0
    AdaptSlot c key k s t = (t.intent ≡ s.intent) × ((adjacent_of (dim_of p.plan) key k ≡ Some c) ⊎ ((t.status ≡ s.status) × (t.value ≡ s.value)))

    abbrev FollowsNew : CellKey → VertexKey → ℕ → Slot → Slot → Type 0
    FollowsNew c key k s t = adjacent_of (dim_of p.plan) key k ≡ Some c → (t.status ≡ s.status) ⊎ ((t.status ≡ Refined) ↔ (is_refined p.plan.new c ≡ true))

    -- what a status may become: the same, or that of the new grid for the visited cell
    moved : (c q : CellKey) (key : VertexKey) (k : ℕ) (s t : Slot) → adjacent_of (dim_of p.plan) key k ≡ Some q → AdaptSlot c key k s t → FollowsNew c key k s t → (t.status ≡ s.status) ⊎ ((t.status ≡ Refined) ↔ (is_refined p.plan.new q ≡ true))
    moved c q key k s t at may follows = ⊎_elim
        (λ here. let same : c ≡ q = some_is (sym here ∙ at) in ⊎_elim (λ e. inl e) (λ f. inr (subst (λ x. (t.status ≡ Refined) ↔ (is_refined p.plan.new x ≡ true)) same f)) (follows here))
        (λ kept. inl kept.0)
        may.1
      where
        some_is : Some c ≡ Some q → c ≡ q
        some_is e = ap (λ (o : Option CellKey). elim o as (λ _. CellKey) [ Some x ↦ x | None ↦ c ]) e

    -- where a cell is to stay, both grids say the same of it
    stays_same : (q : CellKey) (s : Slot) → has_cell old q ≡ true → IsOldSlot old p.plan.new true q s → s.intent ≡ Stay → (is_refined p.plan.new q ≡ true) ↔ (is_refined old q ≡ true)
    stays_same q s has slot stay = (λ new. ⊎_elim (λ o. o) (λ not. absurd (stay_not_split (sym stay ∙ (slot.splits refl).1 (leaf_of old q has not, new)))) (cases_Bool (is_refined old q)), λ o. ⊎_elim (λ new. new) (λ not. absurd (stay_not_merge (sym stay ∙ (slot.merges refl).1 (o, not)))) (cases_Bool (is_refined p.plan.new q)))

    adapting_vertex : (c : CellKey) (s t : VertexRecord) → IsVertex (dim_of p.plan) s.key → t.key ≡ s.key → length t.slots ≡ length s.slots → ((k : ℕ) → k < 8 → AdaptSlot c s.key k (slot_at s k) (slot_at t k)) → ((k : ℕ) → k < 8 → FollowsNew c s.key k (slot_at s k) (slot_at t k)) → VertexFits p s → VertexFits p t
    adapting_vertex c s t vertex key len rel follows fits = record {
      eight = len ∙ fits.eight;
      slots = back t.key t (⊎_elim (λ o. inl (subst (IsStored old) (sym key) o)) (λ n. inr (subst (IsStored p.plan.new) (sym key) n)) had.0, λ stored. old_slots (subst (IsStored old) key stored), λ not. new_slots (λ stored. not (subst (IsStored old) (sym key) stored)));
      outside = λ n below out. ⊎_elim
          (λ here. absurd (none_some c (sym (ap (λ w. adjacent_of (dim_of p.plan) w n) (sym key) ∙ out) ∙ here)))
          (λ kept. kept.0 ∙ fits.outside n below (ap (λ w. adjacent_of (dim_of p.plan) w n) (sym key) ∙ out))
          (rel n (eight_corners (dim_of p.plan) n below)).1;
      values = subst (λ v. HasValues v p t) (sym serves) tt;
    }
      where
        had : HasSlots (dim_of p.plan) (Some old) p.plan.new true s.key s
        had = both s.key s fits.slots

        none_some : (x : CellKey) → None ≡ Some x → ⊥
        none_some x e = cc

        here : (n : ℕ) (q : CellKey) → adjacent_of (dim_of p.plan) t.key n ≡ Some q → adjacent_of (dim_of p.plan) s.key n ≡ Some q
        here n q at = ap (λ w. adjacent_of (dim_of p.plan) w n) (sym key) ∙ at

        old_slots : IsStored old s.key → SaysOfCells (dim_of p.plan) t (IsOldSlot old p.plan.new true)
        old_slots stored n q below at =
            let e = eight_corners (dim_of p.plan) n below in
            let o = had.1 stored n q below (here n q at) in
            let i = (rel n e).0 in
            let dim = (old_grid p old plan is_old).old_dim in
            let has = stored_has old s.key n q (subst (λ d. IsVertex d s.key) (sym dim) vertex) stored (subst (λ d. adjacent_of d s.key n ≡ Some q) (sym dim) (here n q at)) in
            record {
              split = λ x. o.split (sym i ∙ x);
              merge = λ x. o.merge (sym i ∙ x);
              stay = λ x. ⊎_elim
                  (λ same. let f = o.stay (sym i ∙ x) in (λ y. f.0 (sym same ∙ y), λ y. same ∙ f.1 y))
                  (λ new. let f = stays_same q (slot_at s n) has o (sym i ∙ x) in (λ y. f.0 (new.0 y), λ y. new.1 (f.1 y)))
                  (moved c q s.key n (slot_at s n) (slot_at t n) (here n q at) (rel n e) (follows n e));
              splits = λ x. let f = o.splits x in (λ y. f.0 (sym i ∙ y), λ y. i ∙ f.1 y);
              merges = λ x. let f = o.merges x in (λ y. f.0 (sym i ∙ y), λ y. i ∙ f.1 y);
            }

        new_slots : ¬ IsStored old s.key → SaysOfCells (dim_of p.plan) t (IsNewSlot p.plan.new)
        new_slots not n q below at =
            let e = eight_corners (dim_of p.plan) n below in
            let o = had.2 not n q below (here n q at) in
            record {
              stay = (rel n e).0 ∙ o.stay;
              refined = λ x. ⊎_elim (λ same. o.refined (sym same ∙ x)) (λ new. new.0 x) (moved c q s.key n (slot_at s n) (slot_at t n) (here n q at) (rel n e) (follows n e));
            }

  -- a visitor finds the vertices of a view as they are given, and leaves them as they are to be
  corner_kept : (w : VertexKey) (k l : Corner) → SameCorner k l → CornerGiven p w k → ((s t : VertexRecord) → k ≡ Vertex s → l ≡ Vertex t → t.key ≡ s.key → length t.slots ≡ length s.slots → (s.key ≡ w) → VertexFits p s ⊎ IsMade p w s → VertexFits p t) → CornerFits p w l
  corner_kept w (Vertex s) (Vertex t) same given each = (same.0 ∙ given.0, each s t refl refl same.0 same.1 given.0 given.1)
  corner_kept w (Vertex s) (Hanging l) same given each = absurd same
  corner_kept w (Vertex s) Beyond same given each = absurd same
  corner_kept w (Hanging k) (Hanging l) same given each = (same ∙ given.0, given.1, given.2)
  corner_kept w (Hanging k) (Vertex t) same given each = absurd same
  corner_kept w (Hanging k) Beyond same given each = absurd same
  corner_kept w Beyond l same given each = absurd given

  -- a vertex whose statuses and intents stay fits a raising sweep as before
  raising_left : (s t : VertexRecord) → p.serves ≡ Raising → p.plan.old ≡ None → t.key ≡ s.key → length t.slots ≡ length s.slots → ((k : ℕ) → k < 8 → ((slot_at t k).intent ≡ (slot_at s k).intent) × ((slot_at t k).status ≡ (slot_at s k).status)) → VertexFits p s → VertexFits p t
  raising_left s t serves none key len rel fits =
      let had : HasSlots (dim_of p.plan) None p.plan.new (tells_new p.serves) s.key s = subst (λ o. HasSlots (dim_of p.plan) o p.plan.new (tells_new p.serves) s.key s) none fits.slots in
      record {
        eight = len ∙ fits.eight;
        slots = subst (λ o. HasSlots (dim_of p.plan) o p.plan.new (tells_new p.serves) t.key t) (sym none) (
          subst (IsStored p.plan.new) (sym key) had.0,
          λ n q below at.
              let o = had.1 n q below (ap (λ x. adjacent_of (dim_of p.plan) x n) (sym key) ∙ at) in
              let r = rel n (eight_corners (dim_of p.plan) n below) in
              record { stay = r.0 ∙ o.stay; refined = (λ x. o.refined.0 (sym r.1 ∙ x), λ x. r.1 ∙ o.refined.1 x) },
        );
        outside = λ n below out. (rel n (eight_corners (dim_of p.plan) n below)).1 ∙ fits.outside n below (ap (λ x. adjacent_of (dim_of p.plan) x n) (sym key) ∙ out);
        values = subst (λ v. HasValues v p t) (sym serves) tt;
      }

  corner_left : (w : VertexKey) (k l : Corner) → SameCorner k l → CornerFits p w k → ((s t : VertexRecord) → k ≡ Vertex s → l ≡ Vertex t → t.key ≡ s.key → length t.slots ≡ length s.slots → VertexFits p s → VertexFits p t) → CornerFits p w l
  corner_left w (Vertex s) (Vertex t) same fits each = (same.0 ∙ fits.0, each s t refl refl same.0 same.1 fits.1)
  corner_left w (Vertex s) (Hanging l) same fits each = absurd same
  corner_left w (Vertex s) Beyond same fits each = absurd same
  corner_left w (Hanging k) (Hanging l) same fits each = (same ∙ fits.0, fits.1, fits.2)
  corner_left w (Hanging k) (Vertex t) same fits each = absurd same
  corner_left w (Hanging k) Beyond same fits each = absurd same
  corner_left w Beyond l same fits each = absurd fits

module _ (m : Story) (c : CellKey) (plan : IsTreeSweep m.sweep) (cell : IsCell (dim_of m.sweep.plan) c) where
  -- a view with `will` set is one as a visitor finds it
  pub will_set : (v w : CellView) → ViewTaken m c v → w ≡ record v { will = w.will } → w.will ≡ flag_in (Some m.sweep.plan.new) c → ViewGiven m.sweep c w
  will_set v w taken is will = subst (ViewGiven m.sweep c) (sym is) (record {
    view = record { key = taken.key; was = taken.was; will = will; eight = taken.eight; beyond = taken.beyond; field = field_kept m.sweep.serves m.sweep c v (record v { will = w.will }) refl refl taken.field };
    each = λ n below. given m c (corner_of c n) plan (corner_vertex (dim_of m.sweep.plan) c n cell below) (corner_at v n) (taken.each n below);
    task = taken.task;
  })

  kept_view : (v w : CellView) → IsViewOf m.sweep c v → Keeps v w → IsViewOf m.sweep c w
  kept_view v w is keeps = record { key = keeps.key ∙ is.key; was = keeps.was ∙ is.was; will = keeps.will ∙ is.will; eight = keeps.shape ∙ is.eight; beyond = λ n least. beyond_kept (corner_at v n) (corner_at w n) (keeps.corners_stay n) (is.beyond n least); field = field_kept m.sweep.serves m.sweep c v w keeps.sides keeps.carried is.field }

  own_vertex : (n : ℕ) → n < corners (dim_of m.sweep.plan) → IsVertex (dim_of m.sweep.plan) (corner_of c n)
  own_vertex n below = corner_vertex (dim_of m.sweep.plan) c n cell below

  -- a view as it is given knows the step
  pub knows : (old : Spacetree) → m.sweep.plan.old ≡ Some old → (grid : Spacetree) → m.sweep.plan.new ≡ grid → (v : CellView) → m.sweep.serves ≡ Adapting → v.key ≡ c → v.was ≡ flag_in m.sweep.plan.old c → ((n : ℕ) → n < corners (dim_of m.sweep.plan) → CornerGiven m.sweep (corner_of c n) (corner_at v n)) → KnowsStep m.sweep.plan.depth old grid v
  knows old is grid same v serves key was each = subst (λ g. KnowsStep m.sweep.plan.depth old g v) same (record {
    grids = old_grid m.sweep old plan is;
    was = was ∙ (ap (λ o. flag_in o c) is ∙ ap (flag_in (Some old)) (sym key));
    shows = λ n below. subst (λ k. IsShown (dim_of m.sweep.plan) (Some old) m.sweep.plan.new true (corner_of k n) (corner_at v n)) (sym key) (shown (corner_of c n) (corner_at v n) (each n below));
  })
    where
      shown : (w : VertexKey) (k : Corner) → CornerGiven m.sweep w k → IsShown (dim_of m.sweep.plan) (Some old) m.sweep.plan.new true w k
      shown w (Vertex s) (own, inl fits) = (own, subst (λ x. HasSlots (dim_of m.sweep.plan) (Some old) m.sweep.plan.new true x s) own (both m.sweep plan old is serves s.key s fits.slots))
      shown w (Vertex s) (own, inr made) = (own, subst (λ x. HasSlots (dim_of m.sweep.plan) (Some old) m.sweep.plan.new true x s) own (both m.sweep plan old is serves s.key s (made_fits m.sweep plan old is serves w s own made).slots))
      shown w (Hanging k) (own, before, after) = (own, subst (λ o. IsStoredBefore o w → ⊥) is before, after)
      shown w Beyond fits = absurd fits

  enter_by : (serves : Serves) (grid : Spacetree) (v w : CellView) → m.sweep.serves ≡ serves → GridsServe serves m.sweep.plan → (serves ≡ Raising → m.sweep.plan.new ≡ grid) → (serves ≡ Adapting → m.sweep.plan.new ≡ grid) → IsViewOf m.sweep c v → ((n : ℕ) → n < corners (dim_of m.sweep.plan) → CornerGiven m.sweep (corner_of c n) (corner_at v n)) → Keeps v w → MayEnter serves grid v w → (n : ℕ) → n < corners (dim_of m.sweep.plan) → CornerFits m.sweep (corner_of c n) (corner_at w n)
  enter_by Plain grid v w serves one raising adapting view each keeps may n below = corner_kept m.sweep plan (corner_of c n) (corner_at v n) (corner_at w n) (keeps.corners_stay n) (each n below) (λ s t at to key len own fits. ⊎_elim
      (λ f. plain_vertex m.sweep plan s t serves one (subst (IsVertex (dim_of m.sweep.plan)) (sym own) (own_vertex n below)) key len (λ k h. may n k s t at to h) f)
      (λ made. absurd (made.first (subst (λ o. IsStoredBefore o (corner_of c n)) (sym one) made.stored)))
      fits)
  enter_by Raising grid v w serves none raising adapting view each keeps may n below = corner_kept m.sweep plan (corner_of c n) (corner_at v n) (corner_at w n) (keeps.corners_stay n) (each n below) (λ s t at to key len own fits.
      raising_vertex m.sweep plan (corner_of c n) s t serves none own key len (λ k h. subst (λ (x : Spacetree). ((slot_at t k).intent ≡ (slot_at s k).intent) × (k < corners x.dim → StatusIn x (adjacent_of x.dim s.key k) (slot_at t k))) (sym (raising refl)) (may n k s t at to h)) fits)
  enter_by Adapting grid v w serves old raising adapting view each keeps may n below =
      let fits_given : (s : VertexRecord) → s.key ≡ corner_of c n → VertexFits m.sweep s ⊎ IsMade m.sweep (corner_of c n) s → VertexFits m.sweep s = λ s own f. ⊎_elim (λ x. x) (λ made. made_fits m.sweep plan old.0 old.1 serves (corner_of c n) s own made) f in
      corner_kept m.sweep plan (corner_of c n) (corner_at v n) (corner_at w n) (keeps.corners_stay n) (each n below) (λ s t at to key len own fits.
      adapting_vertex m.sweep plan old.0 old.1 serves v.key s t (subst (IsVertex (dim_of m.sweep.plan)) (sym own) (own_vertex n below)) key len
      (λ k h. subst (λ (x : Spacetree). ((slot_at t k).intent ≡ (slot_at s k).intent) × ((adjacent_of x.dim s.key k ≡ Some v.key) ⊎ (((slot_at t k).status ≡ (slot_at s k).status) × ((slot_at t k).value ≡ (slot_at s k).value)))) (sym (adapting refl)) (may.0 n k s t at to h))
      (λ k h. subst (λ (x : Spacetree). adjacent_of x.dim s.key k ≡ Some v.key → ((slot_at t k).status ≡ (slot_at s k).status) ⊎ (((slot_at t k).status ≡ Refined) ↔ (is_refined x v.key ≡ true))) (sym (adapting refl)) (may.1 m.sweep.plan.depth old.0 (knows old.0 old.1 grid (adapting refl) v serves view.key view.was each) n k s t at to h))
      (fits_given s own fits))

  -- what a visitor does when a cell is entered makes its view fit
  pub enter_fits : (meaning : Meaning) (v w : CellView) → IsFor m.sweep meaning → ViewGiven m.sweep c v → Keeps v w → MayEnter meaning.serves meaning.new_grid v w → ViewFits m.sweep c w
  enter_fits meaning v w for_sweep given keeps may = record {
    view = kept_view v w given.view keeps;
    each = enter_by m.sweep.serves meaning.new_grid v w refl plan.serve (λ e. subst (λ x. GridsAgree x m.sweep meaning) e for_sweep.grids) (λ e. subst (λ x. GridsAgree x m.sweep meaning) e for_sweep.grids) given.view given.each keeps (subst (λ x. MayEnter x meaning.new_grid v w) for_sweep.serves may);
  }

  as_given : (w : VertexKey) (k : Corner) → CornerFits m.sweep w k → CornerGiven m.sweep w k
  as_given w (Vertex s) fits = (fits.0, inl fits.1)
  as_given w (Hanging k) fits = fits
  as_given w Beyond fits = fits

  -- and what it does when the cell is left keeps that
  pub leave_fits : (meaning : Meaning) (v w : CellView) → IsFor m.sweep meaning → ViewFits m.sweep c v → Keeps v w → MayLeave meaning.serves meaning.new_grid v w → ViewFits m.sweep c w
  leave_fits meaning v w for_sweep fits keeps may = record {
    view = kept_view v w fits.view keeps;
    each = leave_by m.sweep.serves refl (subst (λ x. MayLeave x meaning.new_grid v w) for_sweep.serves may);
  }
    where
      each_given : (n : ℕ) → n < corners (dim_of m.sweep.plan) → CornerGiven m.sweep (corner_of c n) (corner_at v n)
      each_given n below = as_given (corner_of c n) (corner_at v n) (fits.each n below)

      agree : (s : Serves) → m.sweep.serves ≡ s → GridsAgree s m.sweep meaning
      agree s e = subst (λ x. GridsAgree x m.sweep meaning) e for_sweep.grids

      not_raising : (s : Serves) → (s ≡ Raising → ⊥) → s ≡ Raising → m.sweep.plan.new ≡ meaning.new_grid
      not_raising s no_ e = absurd (no_ e)

      not_adapting : (s : Serves) → (s ≡ Adapting → ⊥) → s ≡ Adapting → m.sweep.plan.new ≡ meaning.new_grid
      not_adapting s no_ e = absurd (no_ e)

      plain_raising : Plain ≡ Raising → ⊥
      plain_raising e = cc

      plain_adapting : Plain ≡ Adapting → ⊥
      plain_adapting e = cc

      adapting_raising : Adapting ≡ Raising → ⊥
      adapting_raising e = cc

      leave_by : (serves : Serves) → m.sweep.serves ≡ serves → MayLeave serves meaning.new_grid v w → (n : ℕ) → n < corners (dim_of m.sweep.plan) → CornerFits m.sweep (corner_of c n) (corner_at w n)
      leave_by Plain e may n below = enter_by Plain meaning.new_grid v w e (subst (λ s. GridsServe s m.sweep.plan) e plan.serve) (not_raising Plain plain_raising) (not_adapting Plain plain_adapting) fits.view each_given keeps may n below
      leave_by Adapting e may n below = enter_by Adapting meaning.new_grid v w e (subst (λ s. GridsServe s m.sweep.plan) e plan.serve) (not_raising Adapting adapting_raising) (λ _. agree Adapting e) fits.view each_given keeps may n below
      leave_by Raising e may n below = corner_left m.sweep plan (corner_of c n) (corner_at v n) (corner_at w n) (keeps.corners_stay n) (fits.each n below) (λ s t at to key len f. raising_left m.sweep plan s t e (subst (λ x. GridsServe x m.sweep.plan) e plan.serve) key len (λ k h. may n k s t at to h) f)

pub not_plain : (s q : Serves) → q ≡ s → (s ≡ Raising) ⊎ (s ≡ Adapting) → q ≡ Plain → ⊥
not_plain s q is (inl a) e = raising (sym a ∙ (sym is ∙ e))
  where
    raising : Raising ≡ Plain → ⊥
    raising e = cc
not_plain s q is (inr a) e = adapting (sym a ∙ (sym is ∙ e))
  where
    adapting : Adapting ≡ Plain → ⊥
    adapting e = cc

-- what a visitor foresees
pub foreseen : (m : Story) (c : CellKey) → IsTreeSweep m.sweep → IsCell (dim_of m.sweep.plan) c → (meaning : Meaning) (v : CellView) (b : Bool) → IsFor m.sweep meaning → (m.sweep.serves ≡ Plain → ⊥) → ViewTaken m c v → Foresees meaning.serves meaning.new_grid v b → has_cell m.sweep.plan.new c ≡ true → Some b ≡ flag_in (Some m.sweep.plan.new) c
foreseen m c plan cell meaning v b for_sweep not taken foresees has = by m.sweep.serves refl (subst (λ s. Foresees s meaning.new_grid v b) for_sweep.serves foresees) for_sweep.grids plan.serve
  where
    flag : (x : CellKey) → x ≡ c → b ≡ is_refined m.sweep.plan.new x → Some b ≡ flag_in (Some m.sweep.plan.new) c
    flag x key e = ap (λ r. Some r) (e ∙ ap (is_refined m.sweep.plan.new) key) ∙ ap (λ h. if h then Some (is_refined m.sweep.plan.new c) else None) (sym has)

    by : (s : Serves) → m.sweep.serves ≡ s → Foresees s meaning.new_grid v b → GridsAgree s m.sweep meaning → GridsServe s m.sweep.plan → Some b ≡ flag_in (Some m.sweep.plan.new) c
    by Plain e f g o = absurd (not e)
    by Raising e f g o = flag v.key taken.key (f ∙ ap (λ (t : Spacetree). is_refined t v.key) (sym g))
    by Adapting e f g o = flag v.key taken.key (f m.sweep.plan.depth o.0 (knows m c plan cell o.0 o.1 meaning.new_grid g v e taken.key taken.was (λ n below. given m c (corner_of c n) plan (corner_vertex (dim_of m.sweep.plan) c n cell below) (corner_at v n) (taken.each n below))) ∙ ap (λ (t : Spacetree). is_refined t v.key) (sym g))

-- what a visitor may do by its own grid, it may do by the sweep's
pub may_enter : (p : TreeSweep) (meaning : Meaning) (v w : CellView) → IsFor p meaning → MayEnter meaning.serves meaning.new_grid v w → MayEnter p.serves p.plan.new v w
may_enter p meaning v w is may = by p.serves is.grids (subst (λ s. MayEnter s meaning.new_grid v w) is.serves may)
  where
    by : (s : Serves) → GridsAgree s p meaning → MayEnter s meaning.new_grid v w → MayEnter s p.plan.new v w
    by Raising agree may = subst (λ g. MayEnter Raising g v w) (sym agree) may
    by Adapting agree may = subst (λ g. MayEnter Adapting g v w) (sym agree) may
    by Plain agree may = may

pub may_leave : (p : TreeSweep) (meaning : Meaning) (v w : CellView) → IsFor p meaning → MayLeave meaning.serves meaning.new_grid v w → MayLeave p.serves p.plan.new v w
may_leave p meaning v w is may = by p.serves is.grids (subst (λ s. MayLeave s meaning.new_grid v w) is.serves may)
  where
    by : (s : Serves) → GridsAgree s p meaning → MayLeave s meaning.new_grid v w → MayLeave s p.plan.new v w
    by Raising agree may = subst (λ g. MayLeave Raising g v w) (sym agree) may
    by Adapting agree may = subst (λ g. MayLeave Adapting g v w) (sym agree) may
    by Plain agree may = may

taken_key : (m : Story) (c : CellKey) (w : VertexKey) (plan : IsTreeSweep m.sweep) → IsVertex (dim_of m.sweep.plan) w → (k : Corner) → CornerTaken m c w k → HasKey w k
taken_key m c w plan vertex (Vertex s) taken = (given m c w plan vertex (Vertex s) taken).0
taken_key m c w plan vertex (Hanging k) taken = taken.1
taken_key m c w plan vertex Beyond taken = absurd taken

fits_key : (p : TreeSweep) (w : VertexKey) (k : Corner) → CornerFits p w k → HasKey w k
fits_key p w (Vertex s) fits = fits.0
fits_key p w (Hanging k) fits = fits.0
fits_key p w Beyond fits = fits

-- a view as it was taken, and one that fits, is one of the visitor's dimension
pub taken_in : (m : Story) (c : CellKey) (v : CellView) (meaning : Meaning) → IsTreeSweep m.sweep → IsCell (dim_of m.sweep.plan) c → IsFor m.sweep meaning → ViewTaken m c v → IsViewIn meaning.dim v
taken_in m c v meaning plan cell for_sweep taken = subst (λ d. IsViewIn d v) (sym for_sweep.dim) (record {
  cell = subst (IsCell (dim_of m.sweep.plan)) (sym taken.key) cell;
  eight = taken.eight;
  keys = λ n below. subst (λ k. HasKey (corner_of k n) (corner_at v n)) (sym taken.key) (taken_key m c (corner_of c n) plan (corner_vertex (dim_of m.sweep.plan) c n cell below) (corner_at v n) (taken.each n below));
  beyond = taken.beyond;
})

pub fits_in : (p : TreeSweep) (c : CellKey) (v : CellView) (meaning : Meaning) → IsCell (dim_of p.plan) c → IsFor p meaning → ViewFits p c v → IsViewIn meaning.dim v
fits_in p c v meaning cell for_sweep fits = subst (λ d. IsViewIn d v) (sym for_sweep.dim) (record {
  cell = subst (IsCell (dim_of p.plan)) (sym fits.view.key) cell;
  eight = fits.view.eight;
  keys = λ n below. subst (λ k. HasKey (corner_of k n) (corner_at v n)) (sym fits.view.key) (fits_key p (corner_of c n) (corner_at v n) (fits.each n below));
  beyond = fits.view.beyond;
})

-- `will` may be set
pub with_will : (meaning : Meaning) (v w : CellView) → w ≡ record v { will = w.will } → IsViewIn meaning.dim v → IsViewIn meaning.dim w
with_will meaning v w is h = subst (IsViewIn meaning.dim) (sym is) (record { cell = h.cell; eight = h.eight; keys = h.keys; beyond = h.beyond })
