-- What is told of a cell is told in its own slots alone, as plain sweeps allow.
use Rattle.std.proofs.Common.{◌≡◌, ◌⊎◌, ℕ, ◌<◌, Option, Some, None, length, refl, ap, sym, ◌∙◌, subst, inl, inr, ⊎_elim, arith, length-set}
use Rattle.std.specs.Prelude.{IfSome}
use Rattle.std.proofs.lemmas.List.{get_or-set_same, get_or-set_other, set_past}
use Rattle.std.proofs.lemmas.Bool.{cases_lt}
use Rattle.peano_keys.specs.declared.cell.CellKey.{CellKey}
use Rattle.peano_keys.specs.declared.dim.Dim.{Dim}
use Rattle.peano_keys.specs.Dim.{corners}
use Rattle.peano_keys.specs.Cell.{IsCell}
use Rattle.peano_keys.specs.Vertex.{adjacent_of, corner_of, slot_from}
use Rattle.peano_keys.proofs.Positions.{cell_stands_in_slot, position}
use Rattle.peano_records.specs.declared.slot.Slot.{Slot}
use Rattle.peano_records.specs.declared.slot.Status.{Status}
use Rattle.peano_records.specs.declared.slot.Status.TheVariants.{Unset, Outside, Leaf, Refined}
use Rattle.peano_records.specs.declared.slot.Intent.{Intent}
use Rattle.peano_records.specs.declared.slot.Intent.TheVariants.{Stay, Split, Merge}
use Rattle.peano_records.specs.declared.view.Corner.{Corner}
use Rattle.peano_records.specs.declared.view.Corner.TheVariants.{Vertex, Hanging, Beyond}
use Rattle.peano_records.specs.declared.view.CellView.{CellView}
use Rattle.peano_records.specs.Slots.{VertexRecord, slot_at, blank}
use Rattle.peano_records.specs.Tells.{corner_at}
use Rattle.peano_records.proofs.Intents.{below_eight}
use Rattle.sweep_streams.proofs.Round.{position_is}
use Rattle.tree_automaton.specs.Promises.{EachSlot, IsViewIn, Keeps, SameCorner}
use Rattle.step_phases.proofs.Homes.{slot_below}
use Rattle.swept_slots.specs.Changes.{ChangesOneCell}
use Rattle.swept_slots.proofs.Views.{at_corner, one_record, same_itself}
use Rattle.step_sweeps.specs.declared.told.Told.{Told}
use Rattle.step_sweeps.specs.Told.{intent_told, told_slot, told_record, told_corner, IsTold}

same_or_apart : (j k : ℕ) → (j ≡ k) ⊎ (j ≡ k → ⊥)
same_or_apart j k = ⊎_elim (λ l. inr (λ e. absurd (omega (arith, l, e)))) (λ h. ⊎_elim (λ l. inr (λ e. absurd (omega (arith, l, e)))) (λ g. inl (omega (arith, h, g))) (cases_lt k j)) (cases_lt j k)

module _ (dim : Dim) (t : Told) (n : ℕ) (s : VertexRecord) where
  abbrev own : ℕ
  own = slot_from dim n

  -- every slot but the cell's own stays
  pub slot_stays : (j : ℕ) → (j ≡ own → ⊥) → slot_at (told_record dim t n s) j ≡ slot_at s j
  slot_stays j apart = get_or-set_other s.slots own j (told_slot t (slot_at s own)) (blank Unset) apart

  -- and its own has what is told
  pub own_slot : own < length s.slots → slot_at (told_record dim t n s) own ≡ told_slot t (slot_at s own)
  own_slot below = get_or-set_same s.slots own (told_slot t (slot_at s own)) (blank Unset) below

  -- so what is so of a slot and itself, and of a slot and that with what is told, is so of each slot
  pub each_slot : (P : Slot → Slot → Type 0) → ((x : Slot) → P x x) → ((x : Slot) → P x (told_slot t x)) → (j : ℕ) → P (slot_at s j) (slot_at (told_record dim t n s) j)
  each_slot P itself telling j = ⊎_elim same other (same_or_apart j own)
    where
      other : (j ≡ own → ⊥) → P (slot_at s j) (slot_at (told_record dim t n s) j)
      other apart = subst (P (slot_at s j)) (sym (slot_stays j apart)) (itself (slot_at s j))

      same : j ≡ own → P (slot_at s j) (slot_at (told_record dim t n s) j)
      same e = subst (λ i. P (slot_at s i) (slot_at (told_record dim t n s) i)) (sym e) (⊎_elim
          (λ below. subst (P (slot_at s own)) (sym (own_slot below)) (telling (slot_at s own)))
          (λ past. subst (λ xs. P (slot_at s own) (slot_at (record s { slots = xs }) own)) (sym (set_past s.slots own (told_slot t (slot_at s own)) past)) (itself (slot_at s own)))
          (cases_lt own (length s.slots)))

-- what plain sweeps allow of a slot
abbrev pub Allowed : Slot → Slot → Type 0
Allowed s t = (t.status ≡ s.status) × (t.value ≡ s.value) × (t.intent ≡ Split → (s.intent ≡ Split) ⊎ (s.status ≡ Leaf)) × (t.intent ≡ Merge → (s.intent ≡ Merge) ⊎ (s.status ≡ Refined))

intent_allowed : (o : Option Intent) (st : Status) (i : Intent) → (intent_told o st i ≡ Split → (i ≡ Split) ⊎ (st ≡ Leaf)) × (intent_told o st i ≡ Merge → (i ≡ Merge) ⊎ (st ≡ Refined))
intent_allowed None st i = (λ e. inl e, λ e. inl e)
intent_allowed (Some Stay) st i = (λ e. absurd (cc), λ e. absurd (cc))
intent_allowed (Some Split) Leaf i = (λ e. inr refl, λ e. absurd (cc))
intent_allowed (Some Split) Unset i = (λ e. inl e, λ e. inl e)
intent_allowed (Some Split) Outside i = (λ e. inl e, λ e. inl e)
intent_allowed (Some Split) Refined i = (λ e. inl e, λ e. inl e)
intent_allowed (Some Merge) Refined i = (λ e. absurd (cc), λ e. inr refl)
intent_allowed (Some Merge) Unset i = (λ e. inl e, λ e. inl e)
intent_allowed (Some Merge) Outside i = (λ e. inl e, λ e. inl e)
intent_allowed (Some Merge) Leaf i = (λ e. inl e, λ e. inl e)

module _ (dim : Dim) (t : Told) (v w : CellView) (told : IsTold dim t v w) where
  -- the record at a corner where it was told
  pub record_told : (n : ℕ) (s u : VertexRecord) → n < corners dim → corner_at v n ≡ Vertex s → corner_at w n ≡ Vertex u → u ≡ told_record dim t n s
  record_told n s u below at to = sym (one_record (corner_at w n) u (told_record dim t n s) to (told.corners_told n below ∙ ap (told_corner dim t n) at))

  pub told_may : IsViewIn dim v → EachSlot (λ key k x y. Allowed x y) v w
  told_may of n k s u at to below =
      subst (λ r. Allowed (slot_at s k) (slot_at r k)) (sym (record_told n s u (at_corner dim v n s of at) at to))
      (each_slot dim t n s Allowed (λ x. (refl, refl, (λ e. inl e), (λ e. inl e))) (λ x. let h = intent_allowed t.intent x.status x.intent in (refl, refl, h.0, h.1)) k)

-- as they allow that a view stays
pub same_may : (v w : CellView) → w ≡ v → EachSlot (λ key k x y. Allowed x y) v w
same_may v w same n k s u at to below = subst (λ r. Allowed (slot_at s k) (slot_at r k)) (sym (one_record (corner_at w n) s u (ap (λ (x : CellView). corner_at x n) same ∙ at) to)) (refl, refl, (λ e. inl e), (λ e. inl e))

-- and nothing that a visitor keeps is changed
pub told_keeps : (dim : Dim) (t : Told) (v w : CellView) → IsTold dim t v w → Keeps v w
told_keeps dim t v w told = record {
  key = ap (λ (x : CellView). x.key) told.others;
  was = ap (λ (x : CellView). x.was) told.others;
  will = ap (λ (x : CellView). x.will) told.others;
  sides = ap (λ (x : CellView). x.sides) told.others;
  carried = ap (λ (x : CellView). x.carried) told.others;
  shape = told.size;
  corners_stay = λ n. ⊎_elim
      (λ below. subst (SameCorner (corner_at v n)) (sym (told.corners_told n below)) (same_told n (corner_at v n)))
      (λ past. subst (SameCorner (corner_at v n)) (sym (told.past n past)) (same_itself (corner_at v n)))
      (cases_lt n (corners dim));
}
  where
    same_told : (n : ℕ) (k : Corner) → SameCorner k (told_corner dim t n k)
    same_told n (Vertex s) = (refl, length-set s.slots (slot_from dim n) (told_slot t (slot_at s (slot_from dim n))))
    same_told n (Hanging k) = refl
    same_told n Beyond = tt

pub some_same : {A : Type 0} (a b : A) → Some a ≡ Some b → a ≡ b
some_same a b e = ap (λ (o : Option _). elim o as (λ _. _) [ Some x ↦ x | None ↦ a ]) e

-- a record of a cell's corner with what is told changed in the cell's slot alone
pub told_changes : (dim : Dim) (t : Told) (c : CellKey) (n : ℕ) (s : VertexRecord) → IsCell dim c → n < corners dim → s.key ≡ corner_of c n → length s.slots ≡ 8 → ChangesOneCell dim c (λ x y. y ≡ told_slot t x) s (told_record dim t n s)
told_changes dim t c n s cell below key eight = record {
  own = λ k inside at. subst (λ j. slot_at (told_record dim t n s) j ≡ told_slot t (slot_at s j)) (sym (same_place k inside at)) (own_slot dim t n s (omega (arith, eight, own_below)));
  others = λ k inside apart. slot_stays dim t n s k (λ e. apart (subst (λ j. adjacent_of dim s.key j ≡ Some c) (sym e) own_stands));
  unused = λ k past high. slot_stays dim t n s k (λ e. absurd (omega (arith, past, e, slot_below dim n)));
}
  where
    own_below : slot_from dim n < 8
    own_below = below_eight dim (slot_from dim n) (slot_below dim n)

    own_stands : adjacent_of dim s.key (slot_from dim n) ≡ Some c
    own_stands = subst (λ w. adjacent_of dim w (slot_from dim n) ≡ Some c) (sym key) (cell_stands_in_slot dim c n cell below)

    placed : (k : ℕ) → k < corners dim → adjacent_of dim s.key k ≡ Some c → position dim s.key c ≡ k
    placed k inside at = subst (λ o. IfSome o (λ q. position dim s.key q ≡ k)) at (position_is dim s.key k inside)

    same_place : (k : ℕ) → k < corners dim → adjacent_of dim s.key k ≡ Some c → k ≡ slot_from dim n
    same_place k inside at = sym (placed k inside at) ∙ placed (slot_from dim n) (slot_below dim n) own_stands

-- less may be asked of the slot
pub changes_less : (dim : Dim) (c : CellKey) (E F : Slot → Slot → Type 0) (s u : VertexRecord) → ((x y : Slot) → E x y → F x y) → ChangesOneCell dim c E s u → ChangesOneCell dim c F s u
changes_less dim c E F s u less h = record { own = λ n below at. less (slot_at s n) (slot_at u n) (h.own n below at); others = h.others; unused = h.unused }

-- and a record that stays changes in no slot
pub changes_none : (dim : Dim) (c : CellKey) (E : Slot → Slot → Type 0) (s u : VertexRecord) → u ≡ s → ((x : Slot) → E x x) → ChangesOneCell dim c E s u
changes_none dim c E s u same itself = subst (ChangesOneCell dim c E s) (sym same) (record { own = λ n below at. itself (slot_at s n); others = λ n below apart. refl; unused = λ n past high. refl })
