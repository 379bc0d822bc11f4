-- What the sums of all trees change in the slots of a tree.
use Rattle.std.proofs.Common.{◌≡◌, ⊎_elim, ℕ, suc, ◌-◌, ◌<◌, ◌≤◌, ◌&&◌, true, false, List, [], ◌∷◌, Option, Some, None, length, map, get_or, refl, sym, ap, ap₂, subst, ◌∙◌, arith}
use Rattle.std.specs.Prelude.{IsSome}
use Rattle.std.proofs.lemmas.Bool.{false≢true}
use Rattle.peano_keys.specs.declared.cell.CellKey.{CellKey}
use Rattle.peano_keys.specs.declared.dim.Dim.{Dim}
use Rattle.peano_keys.specs.declared.dim.Dim.TheVariants.{Two, Three}
use Rattle.peano_keys.specs.declared.state.State.{State}
use Rattle.peano_keys.specs.declared.state.State.TheVariants.{Single, Pair, Triple, Quadruple}
use Rattle.peano_keys.specs.declared.vertex.VertexKey.{VertexKey}
use Rattle.peano_keys.specs.declared.side.Mark.{Mark}
use Rattle.peano_keys.specs.Dim.{corners}
use Rattle.peano_keys.specs.State.{count_of}
use Rattle.peano_keys.specs.Vertex.{adjacent_of}
use Rattle.peano_keys.specs.Grid.{is_refined}
use Rattle.peano_records.specs.declared.slot.Slot.{Slot}
use Rattle.peano_records.specs.declared.stored.Stored.{Stored}
use Rattle.peano_records.specs.Slots.{VertexRecord, slot_at}
use Rattle.curve_cuts.specs.Cuts.{Cuts, Owns, HasVertex}
use Rattle.curve_cuts.proofs.Cuts.{owner_holds}
use Rattle.sweep_streams.proofs.Once.{from_map}
use Rattle.step_phases.specs.Sweeps.{IsSweptRecord}
use Rattle.swept_slots.specs.Copies.{copies}
use Rattle.swept_slots.proofs.Copies.{copy_of}
use Rattle.vertex_stacks.specs.Tales.{capped}
use Rattle.tree_automaton.specs.TreeLists.{TreeLists}
use Rattle.tree_automaton.specs.Moments.{flag_of}
use Rattle.tree_automaton.specs.Sweeps.{key_of}
use Rattle.boundary_streams.specs.Trees.{HoldsVertices}
use Rattle.boundary_streams.proofs.Found.{related_copies}
use Rattle.peano_keys.specs.Sums.{floor_of, weight}
use Rattle.peano_keys.specs.Field.{state_like}
use Rattle.cell_sums.proofs.Means.{count_of_like, like_at}
use Rattle.tree_sums.specs.Trees.{owned_by, shared_by, shared_cell}
use Rattle.tree_sums.specs.Changes.{MeanStep, AddedChanges, HasFloorsOf, totals_of}
use Rattle.tree_sums.proofs.Trees.{owned_is_told}
use Rattle.peano_records.specs.declared.partials.Partial.{Partial}
use Rattle.shared_sums.specs.Totals.{partial_of, mean_in, merging_in}
use Rattle.shared_sums.specs.Adding.{partials_in, IsOwnShared, RecordTakesMeans, TakesMeans, with_means}
use Rattle.step_sums.specs.Laws.{AreAllPartials, HaveValues, SumsAreAdded, SumsKeepLists}
use Rattle.step_sums.proofs.Found.{both, and_true, Found, found_or, own_is_shared}
use Rattle.step_sums.proofs.Totals.{corrected_is}

at_most_four : (s : State) → count_of s ≤ 4
at_most_four (Single a) = omega arith
at_most_four (Pair a b) = omega arith
at_most_four (Triple a b c) = omega arith
at_most_four (Quadruple a b c d) = omega arith

within : (dim : Dim) (n : ℕ) → n < corners dim → n < 8
within Two n h = omega (arith, h)
within Three n h = omega (arith, h)

one_cell : (o : Option CellKey) (a b : CellKey) → o ≡ Some a → o ≡ Some b → a ≡ b
one_cell o a b e h = cc

none_there : (o : Option CellKey) (c : CellKey) → o ≡ None → o ≡ Some c → ⊥
none_there o c e h = cc

some_is : (o : Option Partial) (p : Partial) → o ≡ Some p → IsSome o
some_is o p e = subst (λ q. IsSome q) (sym e) refl

module _ (k : Cuts) (s : MeanStep) (marks : CellKey → Mark) (all : List (List Partial)) (t : ℕ) (before after : TreeLists) (are : AreAllPartials k s.old marks s.merging s.states all) (cells : s.cells ≡ merging_in all)
    (holds : HoldsVertices k s.old t before) (have : HaveValues k s.old s.parts t (copies before.lanes.input)) (added : TakesMeans k all before after) where
  record_is : (v : VertexKey) → HasVertex k s.old t v → RecordTakesMeans k all t (copies before.lanes.input v) (copies after.lanes.input v)
  record_is v has = subst (λ n. RecordTakesMeans k all n (copies before.lanes.input v) (copies after.lanes.input v)) holds.tree
      (related_copies (RecordTakesMeans k all before.tree) (λ x y r. r.key) v before.lanes.input after.lanes.input added.count added.records ((holds.members v).1 has))

  copy_key : (v : VertexKey) → HasVertex k s.old t v → (copies before.lanes.input v).key ≡ v
  copy_key v has =
      let r = from_map key_of v before.lanes.input ((holds.members v).1 has) in
      ap (λ (x : VertexRecord). x.key) (copy_of before.lanes.input holds.distinct v r.0 (sym r.2) r.1) ∙ sym r.2

  -- the tree has a partial of each shared cell that it owns
  own_shared : (c : CellKey) → Owns k t c → shared_cell k s.old c ≡ true → IsOwnShared k all t c
  own_shared c owns h =
      let two = both (is_refined s.old c) (shared_by k c) h in
      let ps = are.each t owns.tree in
      let among = (ps.cells c).1 (record { refined = two.0; held = owner_holds k t c owns; shared = two.1 }) in
      record {
        owns = owns;
        partial = ⊎_elim
            (λ (f : Found (λ p. is_in p.key) (partials_in all t) c). some_is (partial_of c (partials_in all t)) f.one f.found)
            (λ n. absurd (false≢true (sym n.1 ∙ among)))
            (found_or (λ p. is_in p.key) (partials_in all t) c (λ i d below. tt));
      }
    where
      is_in : CellKey → Type 0
      is_in q = Unit {0}

  -- and none of another cell
  shared_own : (c : CellKey) → IsOwnShared k all t c → shared_cell k s.old c ≡ true
  shared_own c own = (let is = own_is_shared k s.old marks s.merging s.states all are t c own in and_true (is_refined s.old c) (shared_by k c) is.refined is.shared)

  floors : (c : CellKey) (v : State) → shared_cell k s.old c ≡ true → count_of v ≡ s.parts → HasFloorsOf k s c (totals_of k s c) (state_like v (λ i. mean_in k.depth k.dim all i c))
  floors c v h count = record {
    count = count_of_like v (λ i. mean_in k.depth k.dim all i c) ∙ count;
    each = λ i low.
        let two = both (is_refined s.old c) (shared_by k c) h in
        let four = at_most_four v in
        let inside : i < count_of (state_like v (λ j. mean_in k.depth k.dim all j c)) = omega (arith, low, count, count_of_like v (λ j. mean_in k.depth k.dim all j c)) in
        like_at v (λ j. mean_in k.depth k.dim all j c) i inside
        ∙ ap (λ z. floor_of z (weight k.dim (k.depth - c.level))) (corrected_is k s.old marks s.merging s.states all are i c (omega (arith, low, count, four)) two.0 two.1)
        ∙ ap (λ cs. floor_of (totals_of k (with_cells cs) c i) (weight k.dim (k.depth - c.level))) (sym cells)
        ∙ ap (λ d. floor_of (totals_of k s c i) (weight d (k.depth - c.level))) (sym are.grid.dim);
  }
    where
      with_cells : List CellKey → MeanStep
      with_cells cs = record { parts = s.parts; updated = s.updated; marked = s.marked; old = s.old; before = s.before; states = s.states; new = s.new; after = s.after; merging = s.merging; cells = cs }

  -- a slot that takes the means
  taken : (c : CellKey) (old new : Slot) → new ≡ with_means k all c old → shared_cell k s.old c ≡ true → (Owns k t c → is_refined s.old c ≡ true → count_of old.next ≡ s.parts) → AddedChanges k s t c old new
  taken c old new e h count = record {
    status = ap (λ (x : Slot). x.status) e;
    value = ap (λ (x : Slot). x.value) e;
    mark = ap (λ (x : Slot). x.mark) e;
    intent = ap (λ (x : Slot). x.intent) e;
    kept = λ other. absurd (false≢true (sym other ∙ h));
    added = λ owns y. subst (HasFloorsOf k s c (totals_of k s c)) (sym (ap (λ (x : Slot). x.next) e)) (floors c old.next h (count owns (both (is_refined s.old c) (shared_by k c) h).0));
  }

  -- and one that stays
  stays : (c : CellKey) (old new : Slot) → new ≡ old → (Owns k t c → shared_cell k s.old c ≡ true → ⊥) → AddedChanges k s t c old new
  stays c old new e apart = record {
    status = ap (λ (x : Slot). x.status) e;
    value = ap (λ (x : Slot). x.value) e;
    mark = ap (λ (x : Slot). x.mark) e;
    intent = ap (λ (x : Slot). x.intent) e;
    kept = λ h. ap (λ (x : Slot). x.next) e;
    added = λ owns h. absurd (apart owns h);
  }

  swept : (v : VertexKey) → HasVertex k s.old t v → IsSweptRecord k (AddedChanges k s t) v (copies before.lanes.input v) (copies after.lanes.input v)
  swept v has =
      let r = record_is v has in
      let key = copy_key v has in
      let there : (n : ℕ) (c : CellKey) → adjacent_of k.dim v n ≡ Some c → adjacent_of k.dim (copies before.lanes.input v).key n ≡ Some c = λ n c at. ap (λ (u : VertexKey). adjacent_of k.dim u n) key ∙ at in
      let here : (n : ℕ) (c : CellKey) → adjacent_of k.dim (copies before.lanes.input v).key n ≡ Some c → adjacent_of k.dim v n ≡ Some c = λ n c at. ap (λ (u : VertexKey). adjacent_of k.dim u n) (sym key) ∙ at in
      record {
        key = r.key;
        size = r.size;
        inside = λ n c below at. elim (owned_by k t c && shared_cell k s.old c) as (λ b. (owned_by k t c && shared_cell k s.old c) ≡ b → AddedChanges k s t c (slot_at (copies before.lanes.input v) n) (slot_at (copies after.lanes.input v) n)) [
          | true ↦ λ e.
              let two = both (owned_by k t c) (shared_cell k s.old c) e in
              taken c (slot_at (copies before.lanes.input v) n) (slot_at (copies after.lanes.input v) n) (r.own n c below (there n c at) (own_shared c ((owned_is_told k t c).0 two.0) two.1)) two.1 (have v n c has below at)
          | false ↦ λ e. stays c (slot_at (copies before.lanes.input v) n) (slot_at (copies after.lanes.input v) n)
              (r.others n (within k.dim n below) (λ q low at' own.
              let same : q ≡ c = one_cell (adjacent_of k.dim v n) q c (here n q at') at in
              let mine : IsOwnShared k all t c = subst (IsOwnShared k all t) same own in
              false≢true (sym e ∙ and_true (owned_by k t c) (shared_cell k s.old c) ((owned_is_told k t c).1 mine.owns) (shared_own c mine))))
              (λ owns h. false≢true (sym e ∙ and_true (owned_by k t c) (shared_cell k s.old c) ((owned_is_told k t c).1 owns) h))
        ] refl;
        outside = λ n below at. r.others n (within k.dim n below) (λ q low at' own. none_there (adjacent_of k.dim v n) q at (here n q at'));
        unused = λ n high low. r.others n low (λ q below at own. absurd (omega (arith, high, below)));
      }

pub sums_are_added : SumsAreAdded
sums_are_added k s marks all t before after are cells holds have added v has = swept k s marks all t before after are cells holds have added v has

-- the keys stay
same_keys : (xs ys : List Stored) → length ys ≡ length xs → ((i : ℕ) (d : VertexRecord) → i < length xs → (get_or ys i d).key ≡ (get_or xs i d).key) → map key_of ys ≡ map key_of xs
same_keys [] [] e same = refl
same_keys [] (y ∷ ys) e same = absurd (omega (arith, e))
same_keys (x ∷ xs) [] e same = absurd (omega (arith, e))
same_keys (x ∷ xs) (y ∷ ys) e same = ap₂ (λ v vs. v ∷ vs) (same 0 x (omega arith)) (same_keys xs ys (omega (arith, e)) (λ i d below. same (suc i) d (omega (arith, below))))

pub sums_keep_lists : SumsKeepLists
sums_keep_lists k all p number old new h l = record {
  dim = ap (λ (s : TreeLists). s.lanes.dim) h.rest ∙ l.dim;
  depth = ap (λ (s : TreeLists). s.depth) h.rest ∙ l.depth;
  range = ap (λ (s : TreeLists). s.range) h.rest ∙ l.range;
  dir = ap (λ (s : TreeLists). s.dir) h.rest ∙ l.dir;
  tree = ap (λ (s : TreeLists). s.tree) h.rest ∙ l.tree;
  live = ap (λ (s : TreeLists). s.live) h.rest ∙ l.live;
  cells = ap (λ (s : TreeLists). map flag_of s.cells) h.rest ∙ l.cells;
  written = ap (λ (s : TreeLists). s.written) h.rest ∙ l.written;
  input = same_keys old.lanes.input new.lanes.input h.count (λ i d below. (h.records i d below).key) ∙ l.input;
  output = ap (λ (s : TreeLists). s.lanes.output) h.rest ∙ l.output;
  lanes = ap (λ (s : TreeLists). s.lanes.lanes) h.rest ∙ l.lanes;
  taken = ap (λ (s : TreeLists). s.lanes.taken) h.rest ∙ l.taken;
  put = ap (λ (s : TreeLists). s.lanes.put) h.rest ∙ l.put;
  pushed = ap (λ (s : TreeLists). s.lanes.pushed) h.rest ∙ l.pushed;
  counted = ap (λ (s : TreeLists). s.counted) h.rest ∙ l.counted;
  stored = ap (λ (s : TreeLists). s.stored) h.rest ∙ l.stored ∙ ap capped (sym h.count);
  leaves = ap (λ (s : TreeLists). s.leaves) h.rest ∙ l.leaves;
}
