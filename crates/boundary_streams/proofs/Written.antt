-- Records of which slots are written one after another.
use Rattle.std.proofs.Common.{◌≡◌, ◌≢◌, ⊎_elim, ℕ, zero, suc, ◌<◌, ◌≤◌, length, get_or, arith, refl, sym, ap, subst, ◌∙◌}
use Rattle.std.specs.Prelude.{Bool, true, not, is_some, List, [], ◌∷◌, Option, Some, None, slice_get, IsSomeAnd}
use Rattle.std.proofs.lemmas.List.{set-get_or, set-set, get_or-set_same, get_or-set_other, length-set}
use Rattle.std.proofs.lemmas.Bool.{cases_eq, false≢true}
use Rattle.peano_records.specs.declared.slot.Slot.{Slot}
use Rattle.peano_records.specs.declared.slot.Status.TheVariants.{Unset}
use Rattle.peano_records.specs.declared.stored.Parcel.{Parcel}
use Rattle.peano_records.specs.Slots.{VertexRecord, slot_at, with_slot, blank, untold}
use Rattle.step_phases.specs.declared.phase.Phase.{Phase}
use Rattle.step_phases.specs.declared.phase.Phase.TheVariants.{First}
use Rattle.step_phases.specs.Exchange.{finished}
use Rattle.tree_automaton.specs.TreeLists.{TreeLists}
use Rattle.boundary_streams.specs.Merges.{taken}
use Rattle.boundary_streams.specs.Records.{record_at, with_record, new_slot, IsSlotExchanged, IsRecordExchanged}

-- a record with its first `m` slots written anew
abbrev pub written : (ℕ → Slot) → VertexRecord → ℕ → VertexRecord
written f v zero = v
written f v (suc m) = with_slot (written f v m) m (f m)

written_key : (f : ℕ → Slot) (v : VertexRecord) (m : ℕ) → (written f v m).key ≡ v.key
written_key f v zero = refl
written_key f v (suc m) = written_key f v m

written_size : (f : ℕ → Slot) (v : VertexRecord) (m : ℕ) → length (written f v m).slots ≡ length v.slots
written_size f v zero = refl
written_size f v (suc m) = length-set (written f v m).slots m (f m) ∙ written_size f v m

written_slot : (f : ℕ → Slot) (v : VertexRecord) (m n : ℕ) → n < m → m ≤ length v.slots → slot_at (written f v m) n ≡ f n
written_slot f v zero n below within = absurd (omega arith)
written_slot f v (suc m) n below within = ⊎_elim
    (λ e.
    ap (λ i. get_or (written f v (suc m)).slots i (blank Unset)) e
    ∙ get_or-set_same (written f v m).slots m (f m) (blank Unset) (omega (arith, written_size f v m))
    ∙ ap f (sym e))
    (λ apart.
    get_or-set_other (written f v m).slots m n (f m) (blank Unset) apart
    ∙ written_slot f v m n (omega arith) (omega arith))
    (cases_eq n m)

written_rest : (f : ℕ → Slot) (v : VertexRecord) (m n : ℕ) → m ≤ n → slot_at (written f v m) n ≡ slot_at v n
written_rest f v zero n above = refl
written_rest f v (suc m) n above =
    let apart : n ≢ m = omega arith in
    get_or-set_other (written f v m).slots m n (f m) (blank Unset) apart ∙ written_rest f v m n (omega arith)

-- what is at a place, whatever stands where there is none
pub some_at : {A : Type 0} (o : Option A) (P : A → Type 0) → IsSomeAnd o P → (v : A) × (o ≡ Some v) × P v
some_at None P h = absurd h
some_at (Some v) P h = (v, refl, h)

pub same_record : (xs : List VertexRecord) (i : ℕ) (d e : VertexRecord) → i < length xs → get_or xs i d ≡ get_or xs i e
same_record [] i d e h = absurd (omega (arith, h))
same_record (x ∷ xs) zero d e h = refl
same_record (x ∷ xs) (suc i) d e h = same_record xs i d e (omega (arith, h))

pub read_at : (xs : List VertexRecord) (i : ℕ) (P : VertexRecord → Type 0) → IsSomeAnd (slice_get xs i) P → (d : VertexRecord) → P (get_or xs i d)
read_at [] i P h d = absurd h
read_at (x ∷ xs) zero P h d = h
read_at (x ∷ xs) (suc i) P h d = read_at xs i P h d

-- a record that is put back
pub put_back : (s : TreeLists) (i : ℕ) (d : VertexRecord) → with_record s i (record_at s i d) ≡ s
put_back s i d = ap (λ xs. record s { lanes = record s.lanes { input = xs } }) (set-get_or s.lanes.input i d)

-- a slot that stays
pub left_slot : (phase : Phase) (i n : ℕ) (ours : Slot) (s : TreeLists) → ((d : VertexRecord) → ours ≡ slot_at (record_at s i d) n) → finished phase ours ≡ ours → (d : VertexRecord) → s ≡ with_record s i (with_slot (record_at s i d) n (new_slot phase n None (record_at s i d)))
left_slot phase i n ours s is stays d =
    let v : VertexRecord = record_at s i d in
    let same : finished phase (slot_at v n) ≡ slot_at v n = ap (finished phase) (sym (is d)) ∙ stays ∙ is d in
    sym (ap (λ x. with_record s i (with_slot v n x)) same ∙ ap (λ xs. with_record s i (record v { slots = xs })) (set-get_or v.slots n (blank Unset)) ∙ put_back s i d)

-- what the slots of the record at a place become, and the store with the first `m` of them written
abbrev pub slot_of : Phase → ℕ → (ℕ → Option Parcel) → TreeLists → ℕ → Slot
slot_of phase i found old n = new_slot phase n (found n) (record_at old i untold)

abbrev pub after : Phase → ℕ → (ℕ → Option Parcel) → TreeLists → ℕ → TreeLists
after phase i found old m = with_record old i (written (slot_of phase i found old) (record_at old i untold) m)

-- a store in mid-record: the first `m` slots are written, of a record of eight
pub record IsWrittenUpTo (phase : Phase) (i : ℕ) (found : ℕ → Option Parcel) (old mid : TreeLists) (m : ℕ) : Type 0 where
  pub store : mid ≡ after phase i found old m
  pub eight : 0 < m → length (record_at old i untold).slots ≡ 8

-- one more slot of the record at a place
module _ (phase : Phase) (i : ℕ) (found : ℕ → Option Parcel) (old : TreeLists) (inside : i < length old.lanes.input) where
  abbrev first : VertexRecord
  first = record_at old i untold

  abbrev slots : ℕ → Slot
  slots = slot_of phase i found old

  pub begun : IsWrittenUpTo phase i found old old 0
  begun = record { store = sym (put_back old i untold); eight = λ h. absurd (omega (arith, h)) }

  read_back : (m : ℕ) (d : VertexRecord) → record_at (after phase i found old m) i d ≡ written slots first m
  read_back m d = get_or-set_same old.lanes.input i (written slots first m) d inside

  eight_is : (m : ℕ) (mid new : TreeLists) → mid ≡ after phase i found old m → IsSlotExchanged phase i m (found m) mid new → length first.slots ≡ 8
  eight_is m mid new e h = sym (written_size slots first m) ∙ ap (λ (v : VertexRecord). length v.slots) (sym (read_back m untold)) ∙ ap (λ (s : TreeLists). length (record_at s i untold).slots) (sym e) ∙ h.eight untold

  slot_is : (m : ℕ) (mid new : TreeLists) → mid ≡ after phase i found old m → IsSlotExchanged phase i m (found m) mid new → new ≡ after phase i found old (suc m)
  slot_is m mid new e h =
      let v : VertexRecord = written slots first m in
      let at : record_at mid i untold ≡ v = ap (λ s. record_at s i untold) e ∙ read_back m untold in
      let slot : new_slot phase m (found m) v ≡ slots m = ap (λ x. finished phase (taken phase m (found m) x)) (written_rest slots first m m (omega arith)) in
      h.slot untold
      ∙ ap (λ x. with_record mid i (with_slot x m (new_slot phase m (found m) x))) at
      ∙ ap (λ x. with_record mid i (with_slot v m x)) slot
      ∙ ap (λ s. with_record s i (with_slot v m (slots m))) e
      ∙ ap (λ xs. record old { lanes = record old.lanes { input = xs } }) (set-set old.lanes.input i v (with_slot v m (slots m)))

  pub one_more : (m next : ℕ) (mid new : TreeLists) → next ≡ suc m → IsWrittenUpTo phase i found old mid m → IsSlotExchanged phase i m (found m) mid new → IsWrittenUpTo phase i found old new next
  one_more m next mid new e w h = subst (IsWrittenUpTo phase i found old new) (sym e) (record { store = slot_is m mid new w.store h; eight = λ pos. eight_is m mid new w.store h })

  pub all_written : (new : TreeLists) (m : ℕ) → m ≡ 8 → IsWrittenUpTo phase i found old new m → IsRecordExchanged phase i found old new
  all_written new m e w =
      let eight : length first.slots ≡ 8 = w.eight (omega (arith, e)) in
      record {
        next = written slots first 8;
        rest = w.store ∙ ap (after phase i found old) e;
        key = λ d. written_key slots first 8 ∙ ap (λ (v : VertexRecord). v.key) (same_record old.lanes.input i untold d inside);
        size = λ d. written_size slots first 8 ∙ ap (λ (v : VertexRecord). length v.slots) (same_record old.lanes.input i untold d inside);
        slots = λ d n below. written_slot slots first 8 n below (omega (arith, eight)) ∙ ap (λ v. new_slot phase n (found n) v) (same_record old.lanes.input i untold d inside);
      }

-- in the first phase a record of which nothing is known stays
pub first_stays : (i : ℕ) (s : TreeLists) → i < length s.lanes.input → IsRecordExchanged First i (λ n. None) s s
first_stays i s inside = record {
  next = record_at s i untold;
  rest = sym (put_back s i untold);
  key = λ d. ap (λ (v : VertexRecord). v.key) (same_record s.lanes.input i untold d inside);
  size = λ d. ap (λ (v : VertexRecord). length v.slots) (same_record s.lanes.input i untold d inside);
  slots = λ d n below. ap (λ v. slot_at v n) (same_record s.lanes.input i untold d inside);
}

-- where a parcel is not there, it is none
pub found_none : (o : Option Parcel) (P : Option Parcel → Type 0) {b : Bool} → is_some o ≡ not b → b ≡ true → P None → P o
found_none None P e f p = p
found_none (Some x) P e f p = absurd (false≢true (sym (e ∙ ap not f)))
