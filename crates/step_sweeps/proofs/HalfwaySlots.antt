-- What is told in a secondary sweep, slot by slot.
use Rattle.std.proofs.Common.{◌≡◌, ◌↔◌, ℕ, Bool, true, false, if◌then◌else◌, Option, Some, refl, ap, sym, ◌∙◌, subst, inr}
use Rattle.std.specs.Prelude.{IsTrue, unwrap_or}
use Rattle.std.proofs.lemmas.Bool.{false≢true}
use Rattle.peano_keys.specs.declared.cell.CellKey.{CellKey}
use Rattle.peano_keys.specs.declared.dim.Dim.{Dim}
use Rattle.peano_keys.specs.declared.state.State.{State}
use Rattle.peano_keys.specs.declared.vertex.VertexKey.{VertexKey}
use Rattle.peano_keys.specs.declared.side.Mark.{Mark}
use Rattle.peano_keys.specs.Vertex.{adjacent_of}
use Rattle.peano_keys.specs.Grid.{Spacetree, is_leaf, is_refined}
use Rattle.peano_keys.specs.Next.{Splits, Merges, IsNextGrid}
use Rattle.peano_records.specs.declared.slot.Slot.{Slot}
use Rattle.peano_records.specs.declared.slot.Status.{Status}
use Rattle.peano_records.specs.declared.slot.Status.TheVariants.{Leaf, Refined}
use Rattle.peano_records.specs.declared.slot.Intent.{Intent}
use Rattle.peano_records.specs.declared.slot.Intent.TheVariants.{Stay, Split, Merge}
use Rattle.peano_records.specs.Slots.{VertexRecord, slot_at}
use Rattle.peano_records.specs.AtRest.{SaysOfCells, status_of}
use Rattle.hanging_nodes.proofs.TwoGrids.{leaf_not}
use Rattle.curve_cuts.specs.Cuts.{Cuts, Owns}
use Rattle.curve_cuts.specs.Enclave.{IsSkeleton}
use Rattle.sweep_visits.specs.Moves.{same_cell}
use Rattle.sweep_visits.proofs.Same.{cells_decided}
use Rattle.step_phases.specs.Change.{Change, Gives}
use Rattle.step_phases.specs.Phases.{AfterFirst, HasNext}
use Rattle.step_phases.specs.Moments.{InSecondary}
use Rattle.step_phases.specs.Sweeps.{IsIntentOf}
use Rattle.step_phases.proofs.Moments.{secondary_begins}
use Rattle.step_phases.proofs.Sweeps.{intent_between_grids}
use Rattle.step_calls.specs.Visitors.{SecondaryCall}
use Rattle.swept_slots.specs.Changes.{ChangesOneCell}
use Rattle.step_sweeps.specs.Told.{intent_told, told_slot}
use Rattle.step_sweeps.specs.Secondaries.{leaf_intends, refined_intends}
use Rattle.step_sweeps.proofs.OwnSlots.{some_same}

-- at each moment of a secondary sweep a slot shows the grid and the marks, and that of a skeleton leaf has its new value
pub record Halfway (k : Cuts) (w : Change) (c : CellKey) (s : Slot) : Type 0 where
  pub shows : InSecondary w c s
  pub next : (t : ℕ) → IsSkeleton k w.old t c → HasNext w c s

pub first_is_halfway : (k : Cuts) (w : Change) (c : CellKey) (s : Slot) → AfterFirst k w c s → Halfway k w c s
first_is_halfway k w c s h = record { shows = secondary_begins k w c s h; next = h.next }

-- no cell is both a leaf and refined
not_both : (g : Spacetree) (c : CellKey) → is_leaf g c ≡ true → is_refined g c ≡ true → ⊥
not_both g c leaf refined = false≢true (sym (leaf_not g c leaf) ∙ refined)

leaf_takes : (b : Bool) (st : Status) (i : Intent) → st ≡ Leaf → intent_told (Some (if b then Split else Stay)) st i ≡ (if b then Split else Stay)
leaf_takes true st i e = ap (λ x. intent_told (Some Split) x i) e
leaf_takes false st i e = refl

refined_takes : (b : Bool) (st : Status) (i : Intent) → st ≡ Refined → intent_told (Some (if b then Merge else Stay)) st i ≡ (if b then Merge else Stay)
refined_takes true st i e = ap (λ x. intent_told (Some Merge) x i) e
refined_takes false st i e = refl

-- what is told follows the marks
split_is_intent : (g : Spacetree) (marks : CellKey → Mark) (c : CellKey) → is_leaf g c ≡ true → (b : Bool) → (IsTrue b ↔ Splits g marks c) → IsIntentOf g marks c (if b then Split else Stay)
split_is_intent g marks c leaf true is = record { split = λ s. refl; merge = λ m. absurd (not_both g c leaf m.refined); stay = λ none other. absurd (none (is.0 refl)) }
split_is_intent g marks c leaf false is = record { split = λ s. absurd (false≢true (is.1 s)); merge = λ m. absurd (not_both g c leaf m.refined); stay = λ none other. refl }

merge_is_intent : (g : Spacetree) (marks : CellKey → Mark) (c : CellKey) → is_refined g c ≡ true → (b : Bool) → (IsTrue b ↔ Merges g marks c) → IsIntentOf g marks c (if b then Merge else Stay)
merge_is_intent g marks c refined true is = record { split = λ s. absurd (not_both g c s.leaf refined); merge = λ m. refl; stay = λ other none. absurd (none (is.0 refl)) }
merge_is_intent g marks c refined false is = record { split = λ s. absurd (not_both g c s.leaf refined); merge = λ m. absurd (false≢true (is.1 m)); stay = λ other none. refl }

-- a call keeps a slot halfway, and does what is asked of it
abbrev pub Works : Cuts → Change → ℕ → Bool → CellKey → Slot → Slot → Type 0
Works k w t leaving c x y = Halfway k w c x → Halfway k w c y × SecondaryCall k w t leaving c x y

module _ (k : Cuts) (w : Change) (t : ℕ) (next : IsNextGrid w.old w.mark w.new) (c : CellKey) where
  -- a leaf that is told whether it splits, and its new value where its slots do not have it
  pub leaf_works : (o : Option State) (b : Bool) → ((x : Slot) → Halfway k w c x → Gives (w.next c) (unwrap_or o x.next)) → (IsTrue b ↔ Splits w.old w.mark c) → is_leaf w.old c ≡ true → (x y : Slot) → y ≡ told_slot (leaf_intends o b) x → Works k w t false c x y
  leaf_works o b gives is leaf x y e half =
      let takes : intent_told (Some (if b then Split else Stay)) x.status x.intent ≡ (if b then Split else Stay) = leaf_takes b x.status x.intent (half.shows.status ∙ ap status_of (leaf_not w.old c leaf)) in
      let intent : IsIntentOf w.old w.mark c (intent_told (Some (if b then Split else Stay)) x.status x.intent) = subst (IsIntentOf w.old w.mark c) (sym takes) (split_is_intent w.old w.mark c leaf b is) in
      subst (λ z. Halfway k w c z × SecondaryCall k w t false c x z) (sym e) (
        record { shows = record { status = half.shows.status; mark = half.shows.mark; intent = inr (intent_between_grids w.old w.new w.mark c (intent_told (Some (if b then Split else Stay)) x.status x.intent) next intent) }; next = λ s skeleton. gives x half },
        record { status = refl; value = refl; mark = refl; next = λ owns plain. gives x half; intent = λ owns plain. intent; kept = λ apart. absurd (apart (leaf_not w.old c leaf)) },
      )

  -- a refined cell that is told its new value and whether it merges
  pub refined_works : (s : State) (b : Bool) → Gives (w.next c) s → (IsTrue b ↔ Merges w.old w.mark c) → is_refined w.old c ≡ true → (x y : Slot) → y ≡ told_slot (refined_intends s b) x → Works k w t true c x y
  refined_works s b gives is refined x y e half =
      let takes : intent_told (Some (if b then Merge else Stay)) x.status x.intent ≡ (if b then Merge else Stay) = refined_takes b x.status x.intent (half.shows.status ∙ ap status_of refined) in
      let intent : IsIntentOf w.old w.mark c (intent_told (Some (if b then Merge else Stay)) x.status x.intent) = subst (IsIntentOf w.old w.mark c) (sym takes) (merge_is_intent w.old w.mark c refined b is) in
      subst (λ z. Halfway k w c z × SecondaryCall k w t true c x z) (sym e) (
        record { shows = record { status = half.shows.status; mark = half.shows.mark; intent = inr (intent_between_grids w.old w.new w.mark c (intent_told (Some (if b then Merge else Stay)) x.status x.intent) next intent) }; next = λ s skeleton. absurd (not_both w.old c skeleton.0.leaf refined) },
        record { status = refl; value = refl; mark = refl; next = λ owns deep. gives; intent = λ owns deep. intent; kept = λ apart. absurd (apart refined) },
      )

  -- and a cell that is passed by, since the tree does not own it or its turn is at the other call
  pub passed_works : (leaving : Bool) → (Owns k t c → is_refined w.old c ≡ leaving → ⊥) → (x : Slot) → Works k w t leaving c x x
  passed_works leaving none x half = (half, record { status = refl; value = refl; mark = refl; next = λ owns turn. absurd (none owns turn); intent = λ owns turn. absurd (none owns turn); kept = λ apart. refl })

-- where one cell's slot was changed, what all slots say they go on saying, if that one does
pub changed_says : (dim : Dim) (c : CellKey) (P : CellKey → Slot → Type 0) (E : Slot → Slot → Type 0) (s u : VertexRecord) → ChangesOneCell dim c E s u → u.key ≡ s.key → SaysOfCells dim s P → ((x y : Slot) → P c x → E x y → P c y) → SaysOfCells dim u P
changed_says dim c P E s u change key says step j q inside at = by (same_cell q c) refl
  where
    here : adjacent_of dim s.key j ≡ Some q
    here = subst (λ (v : VertexKey). adjacent_of dim v j ≡ Some q) key at

    by : (b : Bool) → same_cell q c ≡ b → P q (slot_at u j)
    by true e =
        let is : q ≡ c = cells_decided.exact q c e in
        subst (λ x. P x (slot_at u j)) (sym is) (step (slot_at s j) (slot_at u j) (subst (λ x. P x (slot_at s j)) is (says j q inside here)) (change.own j inside (here ∙ ap Some is)))
    by false e = subst (P q) (sym (change.others j inside (λ a. false≢true (sym e ∙ subst (λ x. same_cell q x ≡ true) (some_same q c (sym here ∙ a)) (cells_decided.reflexive q))))) (says j q inside here)

-- less may be asked of one cell's slot that says something before
pub changed_said : (dim : Dim) (c : CellKey) (P : CellKey → Slot → Type 0) (E F : Slot → Slot → Type 0) (s u : VertexRecord) → ChangesOneCell dim c E s u → SaysOfCells dim s P → ((x y : Slot) → P c x → E x y → F x y) → ChangesOneCell dim c F s u
changed_said dim c P E F s u change says step = record { own = λ n below at. step (slot_at s n) (slot_at u n) (says n c below at) (change.own n below at); others = change.others; unused = change.unused }

-- two changes of one cell's slot, one after the other
pub changed_twice : (dim : Dim) (c : CellKey) (E F G : Slot → Slot → Type 0) (s b u : VertexRecord) → b.key ≡ s.key → ChangesOneCell dim c E s b → ChangesOneCell dim c F b u → ((x y z : Slot) → E x y → F y z → G x z) → ChangesOneCell dim c G s u
changed_twice dim c E F G s b u key first second both =
    let moved : (n : ℕ) (o : Option CellKey) → adjacent_of dim b.key n ≡ o → adjacent_of dim s.key n ≡ o = λ n o e. subst (λ (v : VertexKey). adjacent_of dim v n ≡ o) key e in
    let back : (n : ℕ) (o : Option CellKey) → adjacent_of dim s.key n ≡ o → adjacent_of dim b.key n ≡ o = λ n o e. subst (λ (v : VertexKey). adjacent_of dim v n ≡ o) (sym key) e in
    record {
      own = λ n below at. both (slot_at s n) (slot_at b n) (slot_at u n) (first.own n below at) (second.own n below (back n (Some c) at));
      others = λ n below apart. second.others n below (λ at. apart (moved n (Some c) at)) ∙ first.others n below apart;
      unused = λ n past high. second.unused n past high ∙ first.unused n past high;
    }
