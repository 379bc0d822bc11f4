-- Stores that take every move of a step: all trees have the same slots.
use Rattle.std.proofs.Common.{◌≡◌, ⊎_elim, ◌&&◌, ℕ, zero, suc, pos, ◌<◌, ◌≤◌, Bool, true, false, nat_lt, lt-ltb, if◌then◌else◌, refl, sym, ap, subst, ◌∙◌, arith, List, [], ◌∷◌, map, Option, Some, None, unwrap_or}
use Rattle.std.specs.Prelude.{slice_index_or}
use Rattle.std.proofs.lemmas.Bool.{false≢true, cases_eq}
use Rattle.std.proofs.lemmas.Bool.Decides.{nat_tests}
use Rattle.peano_keys.specs.declared.cell.CellKey.{CellKey}
use Rattle.peano_keys.specs.declared.dim.Dim.{Dim}
use Rattle.peano_keys.specs.declared.state.State.{State}
use Rattle.peano_keys.specs.declared.state.State.TheVariants.{Single}
use Rattle.peano_keys.specs.declared.vertex.VertexKey.{VertexKey}
use Rattle.peano_keys.specs.declared.side.Mark.TheVariants.{Keep}
use Rattle.peano_keys.specs.Dim.{corners}
use Rattle.peano_keys.specs.Cell.{IsCell}
use Rattle.peano_keys.specs.Vertex.{IsVertex, adjacent_of}
use Rattle.peano_keys.specs.Grid.{Spacetree, IsStored, is_refined}
use Rattle.peano_keys.proofs.Positions.{position, position_below, at_position}
use Rattle.peano_records.specs.declared.slot.Slot.{Slot}
use Rattle.peano_records.specs.declared.slot.Status.TheVariants.{Unset, Outside}
use Rattle.peano_records.specs.declared.slot.Intent.{Intent}
use Rattle.peano_records.specs.declared.slot.Intent.TheVariants.{Stay}
use Rattle.peano_records.specs.Slots.{VertexRecord, blank, slot_at, fresh_slot, first_status}
use Rattle.peano_records.specs.AtRest.{status_of, intent_between}
use Rattle.peano_records.proofs.Fresh.{fresh_slot_at}
use Rattle.peano_records.proofs.Intents.{below_eight}
use Rattle.step_phases.specs.declared.phase.Phase.{Phase}
use Rattle.step_phases.specs.declared.phase.Phase.TheVariants.{First, Second, Third, Opening}
use Rattle.curve_cuts.specs.Cuts.{Cuts, IsCutGrid}
use Rattle.step_phases.specs.Stores.{Stores, AllSay, home_slot}
use Rattle.step_phases.specs.Change.{Change, IsChange, Gives, carrier}
use Rattle.step_phases.specs.Phases.{AtRest}
use Rattle.step_phases.specs.Exchange.{exchanged, finished, IsExchanged}
use Rattle.step_phases.specs.Sweeps.{IsSweptRecord, IsSwept, PrimaryChanges, SecondaryChanges, AdaptChanges, IsAdapted, refined_in}
use Rattle.step_phases.specs.SweepLaws.{StepStores, ChainExists}
use Rattle.step_phases.proofs.Grids.{there, at_position_is}
use Rattle.step_phases.proofs.Sweeps.{between_is_intent}

abbrev eight : {A : Type 0} → (ℕ → A) → List A
eight f = map f (0 ∷ 1 ∷ 2 ∷ 3 ∷ 4 ∷ 5 ∷ 6 ∷ 7 ∷ [])

eight_at : {A : Type 0} (f : ℕ → A) (d : A) (n : ℕ) → n < 8 → slice_index_or (eight f) n d ≡ f n
eight_at f d zero h = refl
eight_at f d (suc zero) h = refl
eight_at f d (suc (suc zero)) h = refl
eight_at f d (suc (suc (suc zero))) h = refl
eight_at f d (suc (suc (suc (suc zero)))) h = refl
eight_at f d (suc (suc (suc (suc (suc zero))))) h = refl
eight_at f d (suc (suc (suc (suc (suc (suc zero)))))) h = refl
eight_at f d (suc (suc (suc (suc (suc (suc (suc zero))))))) h = refl
eight_at f d (suc (suc (suc (suc (suc (suc (suc (suc n)))))))) h = absurd (omega (arith, h))

-- a vertex's record with a slot for each cell
module _ (dim : Dim) (v : VertexKey) (q : CellKey → Slot) where
  abbrev said : Option CellKey → Slot
  said None = blank Outside
  said (Some c) = q c

  abbrev placed : Bool → ℕ → Slot
  placed true n = said (adjacent_of dim v n)
  placed false n = blank Unset

  abbrev filled : VertexRecord
  filled = record { key = v; slots = eight (λ n. placed (nat_lt n (corners dim)) n) }

  at_cell : (n : ℕ) (o : Option CellKey) → n < corners dim → adjacent_of dim v n ≡ o → slot_at filled n ≡ said o
  at_cell n o below at = eight_at (λ i. placed (nat_lt i (corners dim)) i) _ n (below_eight dim n below) ∙ ap (λ b. placed b n) (lt-ltb n (corners dim) below) ∙ ap said at

  at_unused : (n : ℕ) → corners dim ≤ n → n < 8 → slot_at filled n ≡ blank Unset
  at_unused n low high = eight_at (λ i. placed (nat_lt i (corners dim)) i) _ n high ∙ ap (λ b. placed b n) (not_below n (corners dim) low)
    where
      not_below : (n m : ℕ) → m ≤ n → nat_lt n m ≡ false
      not_below n m h = grind (arith, nat_tests)

-- two such records
module _ (k : Cuts) (v : VertexKey) (q p : CellKey → Slot) where
  swept_by : (E : CellKey → Slot → Slot → Type 0) → ((c : CellKey) (n : ℕ) → n < corners k.dim → adjacent_of k.dim v n ≡ Some c → E c (q c) (p c)) → IsSweptRecord k E v (filled k.dim v q) (filled k.dim v p)
  swept_by E each = record {
    key = refl;
    size = refl;
    inside = λ n c below at. subst (λ s. E c s (slot_at (filled k.dim v p) n)) (sym (at_cell k.dim v q n (Some c) below at)) (subst (λ s. E c (q c) s) (sym (at_cell k.dim v p n (Some c) below at)) (each c n below at));
    outside = λ n below at. at_cell k.dim v p n None below at ∙ sym (at_cell k.dim v q n None below at);
    unused = λ n low high. at_unused k.dim v p n low high ∙ sym (at_unused k.dim v q n low high);
  }

-- an exchange between trees with the same slots
itself : (phase : Phase) (s : Slot) → exchanged phase s s ≡ finished phase s
itself First s = refl
itself Second s = refl
itself Third s = refl
itself Opening s = refl

blank_stays : (phase : Phase) (b : Bool) → finished phase (blank (if b then Outside else Unset)) ≡ blank (if b then Outside else Unset)
blank_stays First b = refl
blank_stays Second b = refl
blank_stays Third b = refl
blank_stays Opening b = refl

exchanged_by : (phase : Phase) (k : Cuts) (g : Spacetree) (q : VertexKey → CellKey → Slot) → IsExchanged phase k g (λ t v. filled k.dim v (q v)) (λ t v. filled k.dim v (λ c. finished phase (q v c)))
exchanged_by phase k g q t v has = record {
  key = refl;
  size = refl;
  inside = λ n o c below at owns. at_cell k.dim v (λ c. finished phase (q v c)) n (Some c) below at ∙ sym (ap (λ s. exchanged phase s s) (at_cell k.dim v (q v) n (Some c) below at) ∙ itself phase (q v c));
  outside = λ n below at. at_cell k.dim v (λ c. finished phase (q v c)) n None below at ∙ sym (ap (finished phase) (at_cell k.dim v (q v) n None below at) ∙ blank_stays phase true);
  unused = λ n low high. at_unused k.dim v (λ c. finished phase (q v c)) n low high ∙ sym (ap (finished phase) (at_unused k.dim v (q v) n low high) ∙ blank_stays phase false);
}

gives_own : (o : Option State) (d : State) → Gives o (unwrap_or o d)
gives_own None d v h = absurd (false≢true (ap (λ (x : Option State). elim x as (λ _. Bool) [ Some y ↦ true | None ↦ false ]) h))
gives_own (Some s) d v h = ap (λ (x : Option State). unwrap_or x d) h

-- a test holds of each number below another
abbrev all_below : ℕ → (ℕ → Bool) → Bool
all_below zero p = true
all_below (suc n) p = p n && all_below n p

first_of : (a b : Bool) → (a && b) ≡ true → a ≡ true
first_of true b h = refl
first_of false b h = h

second_of : (a b : Bool) → (a && b) ≡ true → b ≡ true
second_of true b h = h
second_of false b h = absurd (false≢true h)

all_of : (n : ℕ) (p : ℕ → Bool) → all_below n p ≡ true → (k : ℕ) → k < n → p k ≡ true
all_of zero p h k below = absurd (omega (arith, below))
all_of (suc n) p h k below = ⊎_elim
    (λ e. ap p e ∙ first_of (p n) (all_below n p) h)
    (λ apart. all_of n p (second_of (p n) (all_below n p) h) k (omega (arith, below, apart)))
    (cases_eq k n)

all_from : (n : ℕ) (p : ℕ → Bool) → ((k : ℕ) → k < n → p k ≡ true) → all_below n p ≡ true
all_from zero p f = refl
all_from (suc n) p f = ap (λ b. b && all_below n p) (f n (omega arith)) ∙ all_from n p (λ k below. f k (omega (arith, below)))

-- whether a vertex is stored, as a test
abbrev stored_test : Dim → Spacetree → VertexKey → Bool
stored_test dim g v = all_below (corners dim) (λ n. there g (adjacent_of dim v n))

module _ (k : Cuts) (g : Spacetree) (v : VertexKey) (fits : IsCutGrid k g) (vertex : IsVertex k.dim v) where
  test_stored : IsStored g v → stored_test k.dim g v ≡ true
  test_stored stored = all_from (corners k.dim) _ (λ n below. by_case n (adjacent_of k.dim v n) refl)
    where
      by_case : (n : ℕ) (o : Option CellKey) → adjacent_of k.dim v n ≡ o → there g o ≡ true
      by_case n None at = refl
      by_case n (Some q) at = let near = at_position_is k.dim v n q vertex at in stored q (subst (λ d. IsCell d q) (sym fits.dim) near.0) near.1

  stored_by_test : stored_test k.dim g v ≡ true → IsStored g v
  stored_by_test e = λ q cell touches. ap (there g) (sym (at_position k.dim v q (subst (λ d. IsCell d q) fits.dim cell) touches)) ∙ all_of (corners k.dim) (λ n. there g (adjacent_of k.dim v n)) e (position k.dim v q) (position_below k.dim v q touches)

  test_hung : ¬ IsStored g v → stored_test k.dim g v ≡ false
  test_hung hung = by_case (stored_test k.dim g v) refl
    where
      by_case : (b : Bool) → stored_test k.dim g v ≡ b → stored_test k.dim g v ≡ false
      by_case false e = e
      by_case true e = absurd (hung (stored_by_test e))

module _ (k : Cuts) (w : Change) (fits : IsCutGrid k w.old) (new_fits : IsCutGrid k w.new) (change : IsChange w) where
  abbrev q0 : CellKey → Slot
  q0 c = record { status = status_of (is_refined w.old c); value = w.value c; next = w.value c; mark = Keep; intent = Stay }

  abbrev q1 : CellKey → Slot
  q1 c = record { status = status_of (is_refined w.old c); value = w.value c; next = unwrap_or (w.next c) (w.value c); mark = w.mark c; intent = Stay }

  abbrev q3 : CellKey → Slot
  q3 c = record { status = status_of (is_refined w.old c); value = w.value c; next = unwrap_or (w.next c) (w.value c); mark = w.mark c; intent = intent_between (is_refined w.old c) (is_refined w.new c) }

  abbrev q4 : CellKey → Slot
  q4 c = finished Second (q3 c)

  abbrev all_same : (CellKey → Slot) → Stores
  all_same q t v = filled k.dim v q

  rests : AllSay k w.old (λ t. AtRest w.old w.value) (all_same q0)
  rests t v has = record {
    key = refl;
    eight = refl;
    outside = λ n below at. ap (λ (s : Slot). s.status) (at_cell k.dim v q0 n None below at);
    inside = λ n c below at. subst (AtRest w.old w.value c) (sym (at_cell k.dim v q0 n (Some c) below at)) (record { status = refl; value = refl; stay = refl });
    idle = λ n below at. ap (λ (s : Slot). s.intent) (at_cell k.dim v q0 n None below at);
    unused = λ n low high. ap (λ (s : Slot). s.intent) (at_unused k.dim v q0 n low high);
  }

  primary : (t : ℕ) → IsSwept k w.old t (PrimaryChanges k w t) (all_same q0 t) (all_same q1 t)
  primary t v has = swept_by k v q0 q1 (PrimaryChanges k w t) (λ c n below at. record { status = refl; value = refl; intent = refl; mark = λ owns leaf. refl; next = λ skeleton. gives_own (w.next c) (w.value c) })

  first : IsExchanged First k w.old (all_same q1) (all_same q1)
  first = exchanged_by First k w.old (λ v. q1)

  secondary : (t : ℕ) → IsSwept k w.old t (SecondaryChanges k w t) (all_same q1 t) (all_same q3 t)
  secondary t v has = swept_by k v q1 q3 (SecondaryChanges k w t) (λ c n below at. record {
    status = refl;
    value = refl;
    mark = refl;
    next = λ owns. gives_own (w.next c) (w.value c);
    intent = λ owns. between_is_intent w.old w.new w.mark c change.grid;
  })

  -- after the adaptation: what is intended stands in the vertices of the old grid
  abbrev intent5 : Bool → CellKey → Intent
  intent5 true c = (q4 c).intent
  intent5 false c = Stay

  abbrev q5 : VertexKey → CellKey → Slot
  q5 v c = record { status = status_of (refined_in k w (all_same q4 0) c); value = (home_slot k.dim (all_same q4 0) (carrier w.old c)).value; next = Single (pos 0); mark = Keep; intent = intent5 (stored_test k.dim w.old v) c }

  adapted : (t : ℕ) → IsAdapted k w t (all_same q4 t) (λ v. filled k.dim v (q5 v))
  adapted t v has = record {
    kept = λ stored. swept_by k v q4 (q5 v) (AdaptChanges k w (all_same q4 t) t) (λ c n below at. record { intent = ap (λ b. intent5 b c) (test_stored k w.old v fits has.vertex stored); status = λ owns. refl; value = λ owns. refl });
    made = λ hung. record {
      key = refl;
      size = refl;
      inside = λ n c below at.
          subst (λ s. AdaptChanges k w (all_same q4 t) t c s (slot_at (filled k.dim v (q5 v)) n)) (sym (fresh_slot_at k.dim v n (below_eight k.dim n below)))
          (subst (λ s. AdaptChanges k w (all_same q4 t) t c (fresh_slot k.dim v n) s) (sym (at_cell k.dim v (q5 v) n (Some c) below at))
          (record { intent = ap (λ b. intent5 b c) (test_hung k w.old v fits has.vertex hung); status = λ owns. refl; value = λ owns. refl }));
      outside = λ n below at. at_cell k.dim v (q5 v) n None below at ∙ sym (fresh_slot_at k.dim v n (below_eight k.dim n below) ∙ ap (λ b. blank (if b then first_status (adjacent_of k.dim v n) else Unset)) (lt-ltb n (corners k.dim) below) ∙ ap (λ o. blank (first_status o)) at);
      unused = λ n low high. at_unused k.dim v (q5 v) n low high ∙ sym (fresh_slot_at k.dim v n high ∙ ap (λ b. blank (if b then first_status (adjacent_of k.dim v n) else Unset)) (past n (corners k.dim) low));
    };
  }
    where
      past : (n m : ℕ) → m ≤ n → nat_lt n m ≡ false
      past n m h = grind (arith, nat_tests)

  chain : StepStores k w
  chain = record {
    s0 = all_same q0;
    s1 = all_same q1;
    s2 = all_same q1;
    s3 = all_same q3;
    s4 = all_same q4;
    s5 = λ t v. filled k.dim v (q5 v);
    s6 = λ t v. filled k.dim v (λ c. finished Third (q5 v c));
    rest = rests;
    moves = record { primary = primary; first = first; secondary = secondary; second = exchanged_by Second k w.old (λ v. q3) };
    adapted = adapted;
    third = exchanged_by Third k w.new q5;
  }

pub chain_exists : ChainExists
chain_exists k w fits new_fits change = chain k w fits new_fits change
