-- Records of which slots are changed one after another.
use Rattle.std.proofs.Common.{◌≡◌, ◌≢◌, ⊎_elim, ℕ, zero, suc, ◌<◌, ◌≤◌, length, get_or, arith, refl, sym, ap, subst, ◌∙◌}
use Rattle.std.proofs.lemmas.List.{set-get_or, set-set, get_or-set_same, get_or-set_other, length-set}
use Rattle.std.proofs.lemmas.Bool.{cases_eq}
use Rattle.peano_keys.specs.declared.dim.Dim.{Dim}
use Rattle.peano_keys.specs.declared.vertex.VertexKey.{VertexKey}
use Rattle.peano_records.specs.declared.slot.Slot.{Slot}
use Rattle.peano_records.specs.declared.slot.Status.TheVariants.{Unset}
use Rattle.peano_records.specs.Slots.{VertexRecord, slot_at, with_slot, blank, untold}
use Rattle.tree_automaton.specs.TreeLists.{TreeLists}
use Rattle.boundary_streams.specs.Records.{record_at, with_record}
use Rattle.boundary_streams.proofs.Written.{put_back, same_record}
use Rattle.std.specs.Prelude.{List}
use Rattle.shared_sums.specs.declared.adding.Means.{Means}
use Rattle.shared_sums.specs.Records.{changed_slot, IsSlotBy, IsPlaceBy}

-- a record with its first `m` slots written anew
abbrev pub written : (ℕ → Slot) → VertexRecord → ℕ → VertexRecord
written f v zero = v
written f v (suc m) = with_slot (written f v m) m (f m)

written_key : (f : ℕ → Slot) (v : VertexRecord) (m : ℕ) → (written f v m).key ≡ v.key
written_key f v zero = refl
written_key f v (suc m) = written_key f v m

written_size : (f : ℕ → Slot) (v : VertexRecord) (m : ℕ) → length (written f v m).slots ≡ length v.slots
written_size f v zero = refl
written_size f v (suc m) = length-set (written f v m).slots m (f m) ∙ written_size f v m

written_slot : (f : ℕ → Slot) (v : VertexRecord) (m n : ℕ) → n < m → m ≤ length v.slots → slot_at (written f v m) n ≡ f n
written_slot f v zero n below within = absurd (omega arith)
written_slot f v (suc m) n below within = ⊎_elim
    (λ e.
    ap (λ i. get_or (written f v (suc m)).slots i (blank Unset)) e
    ∙ get_or-set_same (written f v m).slots m (f m) (blank Unset) (omega (arith, written_size f v m))
    ∙ ap f (sym e))
    (λ apart.
    get_or-set_other (written f v m).slots m n (f m) (blank Unset) apart
    ∙ written_slot f v m n (omega arith) (omega arith))
    (cases_eq n m)

written_rest : (f : ℕ → Slot) (v : VertexRecord) (m n : ℕ) → m ≤ n → slot_at (written f v m) n ≡ slot_at v n
written_rest f v zero n above = refl
written_rest f v (suc m) n above =
    let apart : n ≢ m = omega arith in
    get_or-set_other (written f v m).slots m n (f m) (blank Unset) apart ∙ written_rest f v m n (omega arith)

-- what the slots of the record at a place become, and the store with the first `m` of them written
abbrev pub slot_of : (ℕ → Slot → Slot) → ℕ → TreeLists → ℕ → Slot
slot_of f i old n = f n (slot_at (record_at old i untold) n)

abbrev pub after : (ℕ → Slot → Slot) → ℕ → TreeLists → ℕ → TreeLists
after f i old m = with_record old i (written (slot_of f i old) (record_at old i untold) m)

-- a store in mid-record: the first `m` slots are written, of a record of eight
pub record IsWrittenUpTo (f : ℕ → Slot → Slot) (i : ℕ) (old mid : TreeLists) (m : ℕ) : Type 0 where
  pub store : mid ≡ after f i old m
  pub eight : 0 < m → length (record_at old i untold).slots ≡ 8

-- a slot that stays
pub left_slot : (f : ℕ → Slot → Slot) (i n : ℕ) (s : TreeLists) → ((x : Slot) → f n x ≡ x) → ((d : VertexRecord) → length (record_at s i d).slots ≡ 8) → IsSlotBy f i n s s
left_slot f i n s stays eight = record {
  eight = eight;
  slot = λ d.
      let v : VertexRecord = record_at s i d in
      sym (ap (λ x. with_record s i (with_slot v n x)) (stays (slot_at v n)) ∙ ap (λ xs. with_record s i (record v { slots = xs })) (set-get_or v.slots n (blank Unset)) ∙ put_back s i d);
}

-- one more slot of the record at a place
module _ (f : ℕ → Slot → Slot) (i : ℕ) (old : TreeLists) (inside : i < length old.lanes.input) where
  abbrev first : VertexRecord
  first = record_at old i untold

  abbrev slots : ℕ → Slot
  slots = slot_of f i old

  pub begun : IsWrittenUpTo f i old old 0
  begun = record { store = sym (put_back old i untold); eight = λ h. absurd (omega (arith, h)) }

  read_back : (m : ℕ) (d : VertexRecord) → record_at (after f i old m) i d ≡ written slots first m
  read_back m d = get_or-set_same old.lanes.input i (written slots first m) d inside

  eight_is : (m : ℕ) (mid new : TreeLists) → mid ≡ after f i old m → IsSlotBy f i m mid new → length first.slots ≡ 8
  eight_is m mid new e h = sym (written_size slots first m) ∙ ap (λ (v : VertexRecord). length v.slots) (sym (read_back m untold)) ∙ ap (λ (s : TreeLists). length (record_at s i untold).slots) (sym e) ∙ h.eight untold

  slot_is : (m : ℕ) (mid new : TreeLists) → mid ≡ after f i old m → IsSlotBy f i m mid new → new ≡ after f i old (suc m)
  slot_is m mid new e h =
      let v : VertexRecord = written slots first m in
      let at : record_at mid i untold ≡ v = ap (λ s. record_at s i untold) e ∙ read_back m untold in
      let slot : f m (slot_at v m) ≡ slots m = ap (f m) (written_rest slots first m m (omega arith)) in
      h.slot untold
      ∙ ap (λ (x : VertexRecord). with_record mid i (with_slot x m (f m (slot_at x m)))) at
      ∙ ap (λ x. with_record mid i (with_slot v m x)) slot
      ∙ ap (λ s. with_record s i (with_slot v m (slots m))) e
      ∙ ap (λ xs. record old { lanes = record old.lanes { input = xs } }) (set-set old.lanes.input i v (with_slot v m (slots m)))

  pub one_more_slot : (m next : ℕ) (mid new : TreeLists) → next ≡ suc m → IsWrittenUpTo f i old mid m → IsSlotBy f i m mid new → IsWrittenUpTo f i old new next
  one_more_slot m next mid new e w h = subst (IsWrittenUpTo f i old new) (sym e) (record { store = slot_is m mid new w.store h; eight = λ pos. eight_is m mid new w.store h })

-- all eight slots
pub all_written : (dim : Dim) (ms : List Means) (i : ℕ) (v : VertexKey) (old new : TreeLists) (m : ℕ) → i < length old.lanes.input → ((d : VertexRecord) → v ≡ (record_at old i d).key) → m ≡ 8 → IsWrittenUpTo (changed_slot dim ms v) i old new m → IsPlaceBy dim ms i old new
all_written dim ms i v old new m inside key e w =
    let f = changed_slot dim ms v in
    let first : VertexRecord = record_at old i untold in
    let slots : ℕ → Slot = slot_of f i old in
    let eight : length first.slots ≡ 8 = w.eight (omega (arith, e)) in
    record {
      next = written slots first 8;
      rest = w.store ∙ ap (after f i old) e;
      record_by = λ d. record {
        key = written_key slots first 8 ∙ ap (λ (x : VertexRecord). x.key) (same_record old.lanes.input i untold d inside);
        size = written_size slots first 8 ∙ ap (λ (x : VertexRecord). length x.slots) (same_record old.lanes.input i untold d inside);
        slots = λ n below. written_slot slots first 8 n below (omega (arith, eight)) ∙ ap (λ (x : VertexRecord). f n (slot_at x n)) (same_record old.lanes.input i untold d inside) ∙ ap (λ (w : VertexKey). changed_slot dim ms w n (slot_at (record_at old i d) n)) (key d);
      };
    }

-- a record whose slots all stay
pub all_stay : (dim : Dim) (ms : List Means) (i : ℕ) (s : TreeLists) → i < length s.lanes.input → ((d : VertexRecord) (n : ℕ) (x : Slot) → changed_slot dim ms (record_at s i d).key n x ≡ x) → IsPlaceBy dim ms i s s
all_stay dim ms i s inside stays = record {
  next = record_at s i untold;
  rest = sym (put_back s i untold);
  record_by = λ d. record {
    key = ap (λ (x : VertexRecord). x.key) (same_record s.lanes.input i untold d inside);
    size = ap (λ (x : VertexRecord). length x.slots) (same_record s.lanes.input i untold d inside);
    slots = λ n below. ap (λ (x : VertexRecord). slot_at x n) (same_record s.lanes.input i untold d inside) ∙ sym (stays d n (slot_at (record_at s i d) n));
  };
}
