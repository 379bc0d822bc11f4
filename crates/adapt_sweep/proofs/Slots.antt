-- A record whose slots are raised one after another.
use Rattle.std.proofs.Common.{◌≡◌, ℕ, ◌+◌, ◌<◌, ◌≤◌, length, refl, ap, sym, ◌∙◌, subst, ⊎_elim, arith, length-set}
use Rattle.std.proofs.lemmas.List.{get_or-set_same, get_or-set_other}
use Rattle.peano_keys.specs.declared.dim.Dim.{Dim}
use Rattle.peano_keys.specs.declared.vertex.VertexKey.{VertexKey}
use Rattle.peano_keys.specs.Dim.{corners}
use Rattle.peano_keys.specs.Vertex.{adjacent_of}
use Rattle.peano_records.specs.declared.slot.Slot.{Slot}
use Rattle.peano_records.specs.declared.slot.Status.TheVariants.{Unset}
use Rattle.peano_records.specs.Slots.{VertexRecord, blank, slot_at, with_slot}
use Rattle.adapt_sweep.specs.Raises.{Source, IsRaisedSlot, IsRaisedRecord}
use Rattle.adapt_sweep.proofs.Views.{lt_or_le}

-- the slots below a number are raised, and the others are as they were
pub record SlotsBelow (r : Source) (dim : Dim) (v : VertexKey) (k : ℕ) (s t : VertexRecord) : Type 0 where
  pub key : t.key ≡ s.key
  pub size : length t.slots ≡ length s.slots
  pub done : (j : ℕ) → j < k → IsRaisedSlot r (adjacent_of dim v j) (slot_at s j) (slot_at t j)
  pub rest : (j : ℕ) → k ≤ j → slot_at t j ≡ slot_at s j

pub no_slot : (r : Source) (dim : Dim) (key : VertexKey) (s : VertexRecord) → SlotsBelow r dim key 0 s s
no_slot r dim key s = record { key = refl; size = refl; done = λ j h. absurd (omega (arith, h)); rest = λ j h. refl }

pub next_slot : (r : Source) (dim : Dim) (key : VertexKey) (k : ℕ) (s t : VertexRecord) (slot : Slot) → length t.slots ≡ 8 → k < 8 → IsRaisedSlot r (adjacent_of dim key k) (slot_at t k) slot → SlotsBelow r dim key k s t → SlotsBelow r dim key (k + 1) s (with_slot t k slot)
next_slot r dim key k s t slot eight below here so_far = record {
  key = so_far.key;
  size = length-set t.slots k slot ∙ so_far.size;
  done = λ j h. ⊎_elim
      (λ less. subst (IsRaisedSlot r (adjacent_of dim key j) (slot_at s j)) (sym (other j (omega (arith, less)))) (so_far.done j less))
      (λ least. let e : k ≡ j = omega (arith, h, least) in subst (λ i. IsRaisedSlot r (adjacent_of dim key i) (slot_at s i) (slot_at (with_slot t k slot) i)) e
      (subst (IsRaisedSlot r (adjacent_of dim key k) (slot_at s k)) (sym there) (subst (λ x. IsRaisedSlot r (adjacent_of dim key k) x slot) (so_far.rest k (omega arith)) here)))
      (lt_or_le j k);
  rest = λ j h. other j (omega (arith, h)) ∙ so_far.rest j (omega (arith, h));
}
  where
    there : slot_at (with_slot t k slot) k ≡ slot
    there = get_or-set_same t.slots k slot (blank Unset) (omega (arith, eight, below))

    other : (j : ℕ) → (j ≡ k → ⊥) → slot_at (with_slot t k slot) j ≡ slot_at t j
    other j apart = get_or-set_other t.slots k j slot (blank Unset) apart

pub record_raised_all : (r : Source) (k : ℕ) (s t : VertexRecord) → k ≡ corners r.grid.dim → SlotsBelow r r.grid.dim s.key k s t → IsRaisedRecord r s t
record_raised_all r k s t end so_far = record {
  key = so_far.key;
  size = so_far.size;
  inside = λ j h. so_far.done j (omega (arith, h, end));
  intents = λ j h. ⊎_elim (λ less. ap (λ (x : Slot). x.intent) (so_far.done j less).others) (λ least. ap (λ (x : Slot). x.intent) (so_far.rest j least)) (lt_or_le j k);
  unused = λ j h below. so_far.rest j (omega (arith, h, end));
}
