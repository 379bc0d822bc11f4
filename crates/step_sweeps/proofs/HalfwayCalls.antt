-- What one call of the secondary visitor does, from what its view shows and what the visitor remembers.
use Rattle.std.proofs.Common.{◌≡◌, ◌↔◌, ℕ, ◌+◌, ◌<◌, ◌≤◌, Bool, true, false, List, Some, None, length, refl, ap, sym, ◌∙◌, subst, inl, inr}
use Rattle.std.specs.Prelude.{IsTrue}
use Rattle.std.proofs.lemmas.Bool.{false≢true}
use Rattle.peano_keys.specs.declared.cell.CellKey.{CellKey}
use Rattle.peano_keys.specs.declared.dim.Dim.{Dim}
use Rattle.peano_keys.specs.declared.state.State.{State}
use Rattle.peano_keys.specs.Dim.{corners}
use Rattle.peano_keys.specs.Cell.{IsCell, parent_of, centre_child}
use Rattle.peano_keys.specs.Vertex.{adjacent_of, corner_of, home_of, slot_from}
use Rattle.peano_keys.specs.Grid.{has_cell, is_leaf, is_refined}
use Rattle.peano_keys.specs.Field.{States}
use Rattle.peano_keys.specs.Next.{Splits, Merges, IsNextGrid}
use Rattle.peano_curve.specs.declared.order.Direction.{Direction}
use Rattle.peano_records.specs.declared.slot.Slot.{Slot}
use Rattle.peano_records.specs.declared.stored.Stored.{Stored}
use Rattle.peano_records.specs.declared.view.CellView.{CellView}
use Rattle.peano_records.specs.declared.view.Corner.{Corner}
use Rattle.peano_records.specs.declared.view.Corner.TheVariants.{Vertex, Hanging, Beyond}
use Rattle.peano_keys.proofs.Positions.{cell_stands_in_slot}
use Rattle.peano_records.specs.Slots.{slot_at}
use Rattle.peano_records.specs.Tells.{corner_at}
use Rattle.curve_cuts.specs.Cuts.{Cuts, IsCutGrid, Owns}
use Rattle.curve_cuts.specs.Keys.{CutPoints, cuts_of}
use Rattle.adapt_marks.specs.Views.{IsCentre}
use Rattle.sweep_visits.specs.Visits.{Visit}
use Rattle.tree_automaton.specs.Sweep.{TreeSweep}
use Rattle.tree_automaton.specs.Promises.{Keeps, SameCorner}
use Rattle.tree_automaton.specs.Views.{CornerFits, ViewFits}
use Rattle.step_phases.specs.Change.{Change, Gives}
use Rattle.step_phases.proofs.Grids.{level_in}
use Rattle.step_phases.proofs.Homes.{home_below, home_stands, slot_below}
use Rattle.step_calls.specs.Visitors.{SecondaryCall}
use Rattle.step_calls.proofs.Visitors.{own_parent}
use Rattle.swept_slots.specs.Changes.{ChangesOneCell}
use Rattle.swept_slots.proofs.Given.{EachVertex}
use Rattle.swept_slots.proofs.Nested.{last_left}
use Rattle.swept_slots.proofs.Views.{keeps_itself, one_record}
use Rattle.step_sweeps.specs.declared.told.Told.{Told}
use Rattle.step_sweeps.specs.Told.{told_slot, told_record, IsTold}
use Rattle.step_sweeps.specs.Kernels.{IsOwnLeaf}
use Rattle.step_sweeps.specs.Secondaries.{SecondaryWork, RefinedLeft, CentreTells, DecidesSplit, IsOwnRefined, HasMeans, merging_at, sums_at, weight_in, refined_intends, next_at_home}
use Rattle.step_sweeps.proofs.OwnSlots.{record_told, told_changes, changes_less, changes_none}
use Rattle.step_sweeps.proofs.Plain.{leaf_shown, leaf_seen, refined_shown, refined_seen}
use Rattle.step_sweeps.proofs.Centres.{is_centre_in}
use Rattle.step_sweeps.proofs.OwnCounts.{IsCounted}
use Rattle.step_sweeps.proofs.HalfwaySlots.{Works, refined_works, passed_works}
use Rattle.step_sweeps.proofs.HalfwayViews.{IsKnown, plain_sweep, shows_marks, works_leave, next_from_home}

-- a call keeps the visitor's keys, its tree, its memory and its solver
abbrev pub KeepsMemory : {S : Type 0} → SecondaryWork S → SecondaryWork S → Type 0
KeepsMemory a b = (b.keys ≡ a.keys) × (b.tree ≡ a.tree) × (b.merging ≡ a.merging) × (b.solver ≡ a.solver)

-- and its sums and partials
abbrev pub KeepsSums : {S : Type 0} → SecondaryWork S → SecondaryWork S → Type 0
KeepsSums a b = (b.sums ≡ a.sums) × (b.partials ≡ a.partials)

pub kept_by : {S : Type 0} (a b c : SecondaryWork S) → b ≡ c → KeepsMemory a c → KeepsMemory a b
kept_by a b c e h = subst (KeepsMemory a) (sym e) h

pub refined_keeps : {S : Type 0} (parts : S → ℕ) (a : SecondaryWork S) (v u : CellView) (b : SecondaryWork S) → RefinedLeft parts a v u b → KeepsMemory a b × KeepsSums a b × (b.failing ≡ a.failing) × (b.tasks ≡ a.tasks)
refined_keeps parts a v u b (inl h) = (kept_by a b _ h.counted (refl, refl, refl, refl), (ap (λ (x : SecondaryWork _). x.sums) h.counted, ap (λ (x : SecondaryWork _). x.partials) h.counted), ap (λ (x : SecondaryWork _). x.failing) h.counted, ap (λ (x : SecondaryWork _). x.tasks) h.counted)
refined_keeps parts a v u b (inr h) = (kept_by a b a h.1.same (refl, refl, refl, refl), (ap (λ (x : SecondaryWork _). x.sums) h.1.same, ap (λ (x : SecondaryWork _). x.partials) h.1.same), ap (λ (x : SecondaryWork _). x.failing) h.1.same, ap (λ (x : SecondaryWork _). x.tasks) h.1.same)

module _ {S : Type 0} (start : SecondaryWork S) (w : Change) (dir : Direction) (f : States) (number : ℕ) (task : CellKey → ℕ) where
  abbrev k : Cuts
  k = cuts_of start.keys

  abbrev t : ℕ
  t = start.tree

  abbrev dim : Dim
  dim = w.old.dim

  abbrev p : TreeSweep
  p = plain_sweep k t dir w.old f number task

  -- the visitor is as it began but for its memory, its counts and what it found
  abbrev pub IsSame : SecondaryWork S → Type 0
  IsSame a = (a.keys ≡ start.keys) × (a.tree ≡ start.tree) × (length a.merging ≡ 14) × (a.solver ≡ start.solver)

  pub same_kept : (a b : SecondaryWork S) → IsSame a → KeepsMemory a b → IsSame b
  same_kept a b same kept = (kept.0 ∙ same.0, kept.1 ∙ same.1, ap (λ (l : List Bool). length l) kept.2 ∙ same.2, kept.3 ∙ same.3)

  -- what a centre child told: whether its parent merges
  abbrev pub Tells : CellKey → Bool → Type 0
  Tells m b = IsTrue b ↔ Merges w.old w.mark (parent_of m)

  -- of each level the memory has what the last centre child of the tree's own told
  abbrev pub HasMemory : List Visit → SecondaryWork S → Type 0
  HasMemory so_far a = (l : ℕ) (m : CellKey) → last_left (is_centre_in dim) l None so_far ≡ Some m → Owns k t m → Tells m (merging_at a l)

  -- where a leaf of the tree's own is at a corner of its view, it has its new value there
  abbrev pub HasLeafNext : CellKey → CellView → Type 0
  HasLeafNext c v = (n : ℕ) (s : Stored) → n < corners dim → corner_at v n ≡ Vertex s → Owns k t c → is_refined w.old c ≡ false → Gives (w.next c) (slot_at s (slot_from dim n)).next

  abbrev pub EachChanges : CellKey → (Slot → Slot → Type 0) → CellView → CellView → Type 0
  EachChanges c E v u = (n : ℕ) (s r : Stored) → n < corners dim → corner_at v n ≡ Vertex s → corner_at u n ≡ Vertex r → ChangesOneCell dim c E s r

  module _ (fits : IsCutGrid k w.old) (next : IsNextGrid w.old w.mark w.new) where
    pub dim_is : (a : SecondaryWork S) → a.keys ≡ start.keys → a.keys.dim ≡ dim
    dim_is a same = ap (λ (x : CutPoints). x.dim) same ∙ sym fits.dim

    module _ (c : CellKey) (v u : CellView) (view : ViewFits p c v) (keeps : Keeps v u) (cell : IsCell dim c) (there : has_cell w.old c ≡ true) (known : EachVertex p (IsKnown k w) v) where
      pub told_works : (leaving : Bool) (what : Told) → IsTold dim what v u → ((x y : Slot) → y ≡ told_slot what x → Works k w t leaving c x y) → EachChanges c (Works k w t leaving c) v u
      told_works leaving what told each n s r below at to =
          let corner : CornerFits p (corner_of c n) (Vertex s) = subst (CornerFits p (corner_of c n)) at (view.each n below) in
          subst (ChangesOneCell dim c (Works k w t leaving c) s) (sym (record_told dim what v u told n s r below at to))
          (changes_less dim c (λ x y. y ≡ told_slot what x) (Works k w t leaving c) s (told_record dim what n s) each (told_changes dim what c n s cell below corner.0 corner.1.eight))

      pub passed_by : (leaving : Bool) → u ≡ v → (Owns k t c → is_refined w.old c ≡ leaving → ⊥) → EachChanges c (Works k w t leaving c) v u
      passed_by leaving same none n s r below at to = changes_none dim c (Works k w t leaving c) s r (one_record (corner_at u n) s r (ap (λ (x : CellView). corner_at x n) same ∙ at) to) (passed_works k w t next c leaving none)

      -- the view of a leaf of the tree's own, as the visitor tells it
      pub own_leaf : (a : SecondaryWork S) → IsSame a → Owns k t c → is_leaf w.old c ≡ true → IsOwnLeaf (cuts_of a.keys) a.tree v
      own_leaf a same owns leaf =
          let own : IsOwnLeaf k t v = record { leaf = leaf_seen p refl refl c v view leaf; level = subst (λ (q : CellKey). q.level ≤ k.depth) (sym view.view.key) (level_in k w.old c fits there); owns = subst (Owns k t) (sym view.view.key) owns } in
          subst (λ (x : CutPoints). IsOwnLeaf (cuts_of x) a.tree v) (sym same.0) (subst (λ n. IsOwnLeaf k n v) (sym same.1) own)

      pub leaf_own : (a : SecondaryWork S) → IsSame a → IsOwnLeaf (cuts_of a.keys) a.tree v → Owns k t c × (is_leaf w.old c ≡ true)
      leaf_own a same h =
          let own : IsOwnLeaf k t v = subst (λ n. IsOwnLeaf k n v) same.1 (subst (λ (x : CutPoints). IsOwnLeaf (cuts_of x) a.tree v) same.0 h) in
          (subst (Owns k t) view.view.key own.owns, leaf_shown p refl refl c v view own.leaf)

      -- and that of a refined cell
      pub own_refined : (a : SecondaryWork S) → IsSame a → Owns k t c → is_refined w.old c ≡ true → IsOwnRefined (cuts_of a.keys) a.tree v
      own_refined a same owns refined =
          let own : IsOwnRefined k t v = record { refined = refined_seen p refl refl c v view there refined; level = subst (λ (q : CellKey). q.level < k.depth) (sym view.view.key) (fits.grid.levels c refined); owns = subst (Owns k t) (sym view.view.key) owns } in
          subst (λ (x : CutPoints). IsOwnRefined (cuts_of x) a.tree v) (sym same.0) (subst (λ n. IsOwnRefined k n v) (sym same.1) own)

      pub refined_own : (a : SecondaryWork S) → IsSame a → IsOwnRefined (cuts_of a.keys) a.tree v → Owns k t c × (is_refined w.old c ≡ true)
      refined_own a same h =
          let own : IsOwnRefined k t v = subst (λ n. IsOwnRefined k n v) same.1 (subst (λ (x : CutPoints). IsOwnRefined (cuts_of x) a.tree v) same.0 h) in
          (subst (Owns k t) view.view.key own.owns, refined_shown p refl refl c v view own.refined)

      -- a leaf's view decides whether it splits
      pub split_is : (b : Bool) → DecidesSplit v b → IsTrue b ↔ Splits w.old w.mark c
      split_is b decides = subst (λ q. IsTrue b ↔ Splits w.old w.mark q) view.view.key (decides w.old w.mark (shows_marks k w t dir f number task c v v view (keeps_itself v) cell known))

      -- what the memory has for a refined cell
      abbrev pub Found : SecondaryWork S → Type 0
      Found a = is_refined w.old c ≡ true → Owns k t c → Tells (centre_child dim c) (merging_at a (c.level + 1))

      pub merge_is : (x : Bool) → Tells (centre_child dim c) x → IsTrue x ↔ Merges w.old w.mark c
      merge_is x tells = subst (λ q. IsTrue x ↔ Merges w.old w.mark q) (own_parent dim c cell) tells

      found_at : (a : SecondaryWork S) → Found a → is_refined w.old c ≡ true → Owns k t c → IsTrue (merging_at a (v.key.level + 1)) ↔ Merges w.old w.mark c
      found_at a found refined owns = subst (λ (q : CellKey). IsTrue (merging_at a (q.level + 1)) ↔ Merges w.old w.mark c) (sym view.view.key) (merge_is (merging_at a (c.level + 1)) (found refined owns))

      -- the means of its sums are its new value
      abbrev pub MeansGive : (S → ℕ) → SecondaryWork S → Type 0
      MeansGive parts a = (s : State) → is_refined w.old c ≡ true → Owns k t c → HasMeans (parts a.solver) (weight_in a.keys v) (sums_at a (v.key.level + 1)) s → Gives (w.next c) s

      -- a leaf that was told its new value has it at each corner
      pub leaf_has : EachChanges c (SecondaryCall k w t false c) v u → HasLeafNext c u
      leaf_has changes n r below to owns plain = by (corner_at v n) refl (subst (SameCorner (corner_at v n)) to (keeps.corners_stay n))
        where
          own : ℕ
          own = slot_from dim n

          by : (x : Corner) → corner_at v n ≡ x → SameCorner x (Vertex r) → Gives (w.next c) (slot_at r own).next
          by (Vertex s) at same =
              let corner : CornerFits p (corner_of c n) (Vertex s) = subst (CornerFits p (corner_of c n)) at (view.each n below) in
              let stands : adjacent_of dim s.key own ≡ Some c = subst (λ q. adjacent_of dim q own ≡ Some c) (sym corner.0) (cell_stands_in_slot dim c n cell below) in
              ((changes n s r below at to).own own (slot_below dim n) stands).next owns plain
          by (Hanging q) at same = absurd same
          by Beyond at same = absurd same

      -- as it is left, where the memory has what its centre child told
      pub leave_works : (parts : S → ℕ) (a m : SecondaryWork S) → IsSame a → Found a → MeansGive parts a → RefinedLeft parts a v u m → EachChanges c (Works k w t true c) v u
      leave_works parts a m same found means (inl h) =
          let own = refined_own a same h.own in
          let x : Bool = merging_at a (v.key.level + 1) in
          told_works true (refined_intends h.next x) (subst (λ d. IsTold d (refined_intends h.next x) v u) (dim_is a same.0) h.told) (refined_works k w t next c h.next x (means h.next own.1 own.0 h.means) (found_at a found own.1 own.0) own.1)
      leave_works parts a m same found means (inr h) = passed_by true h.1.view (λ owns refined. h.0 (own_refined a same owns refined))

      -- a refined cell of the tree's own that merges is counted as it is left
      pub leave_counts : (parts : S → ℕ) (a m : SecondaryWork S) → IsSame a → Found a → RefinedLeft parts a v u m → IsCounted (Owns k t c × Merges w.old w.mark c) a.merges m.merges × (m.splits ≡ a.splits)
      leave_counts parts a m same found (inl h) =
          let own = refined_own a same h.own in
          let x : Bool = merging_at a (v.key.level + 1) in
          let is = found_at a found own.1 own.0 in (
            record { passes = x; is = ((λ e. (own.0, is.0 e)), (λ s. is.1 s.1)); count = ap (λ (y : SecondaryWork S). y.merges) h.counted },
            ap (λ (y : SecondaryWork S). y.splits) h.counted,
          )
      leave_counts parts a m same found (inr h) = (
        record { passes = false; is = ((λ e. absurd (false≢true e)), (λ s. absurd (h.0 (own_refined a same s.0 s.1.refined)))); count = ap (λ (x : SecondaryWork S). x.merges) h.1.same },
        ap (λ (x : SecondaryWork S). x.splits) h.1.same,
      )

      -- what the cell tells as a centre child is so
      pub centre_is : EachChanges c (Works k w t true c) v u → (m b : SecondaryWork S) → m.keys ≡ start.keys → (h : CentreTells m u b) → Tells c h.merges
      centre_is works m b same h = subst (λ q. IsTrue h.merges ↔ Merges w.old w.mark (parent_of q)) (keeps.key ∙ view.view.key)
          (h.decides w.old w.mark (subst (λ d. IsCentre d u.key) (dim_is m same) h.centre) (shows_marks k w t dir f number task c v u view keeps cell (works_leave k w t dir f number task c v u view keeps cell true known works)))

      -- a leaf of the tree's own has its new value at the home corner as it is left
      pub leaf_at_home : HasLeafNext c v → EachChanges c (Works k w t true c) v u → Owns k t c → is_refined w.old c ≡ false → Gives (w.next c) (next_at_home dim u)
      leaf_at_home has works owns plain = next_from_home k w t dir f number task c v u view keeps cell there (λ s. Gives (w.next c) s) at_home
        where
          home : ℕ
          home = home_of dim c

          own : ℕ
          own = slot_from dim home

          at_home : (s r : Stored) → corner_at v home ≡ Vertex s → corner_at u home ≡ Vertex r → Gives (w.next c) (slot_at r own).next
          at_home s r at to =
              let corner : CornerFits p (corner_of c home) (Vertex s) = subst (CornerFits p (corner_of c home)) at (view.each home (home_below dim c)) in
              let stands : adjacent_of dim s.key own ≡ Some c = subst (λ q. adjacent_of dim q own ≡ Some c) (sym corner.0) (home_stands dim c cell) in
              let done = (works home s r (home_below dim c) at to).own own (slot_below dim home) stands ((known home s (home_below dim c) at).says own c (slot_below dim home) stands) in
              subst (λ (x : Slot). Gives (w.next c) x.next) (sym (done.1.kept (λ refined. false≢true (sym plain ∙ refined)))) (has home s (home_below dim c) at owns plain)
