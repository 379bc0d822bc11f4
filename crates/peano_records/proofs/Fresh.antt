-- New records, slot by slot.
use Rattle.std.proofs.Common.{◌≡◌, ℕ, zero, suc, ◌<◌, Bool, true, false, refl, arith, nat_lt, if◌then◌else◌, Option, Some, None}
use Rattle.std.proofs.lemmas.Bool.Decides.{nat_tests}
use Rattle.peano_keys.specs.declared.dim.Dim.{Dim}
use Rattle.peano_keys.specs.declared.cell.CellKey.{CellKey}
use Rattle.peano_keys.specs.declared.vertex.VertexKey.{VertexKey}
use Rattle.peano_keys.specs.Dim.{corners}
use Rattle.peano_keys.specs.Vertex.{adjacent_of}
use Rattle.peano_records.specs.declared.slot.Status.TheVariants.{Unset, Outside}
use Rattle.peano_records.specs.Slots.{slot_at, first_status, fresh_slot, fresh}
use Rattle.peano_records.specs.Laws.{FreshSaysOutside}

pub fresh_slot_at : (dim : Dim) (key : VertexKey) (n : ℕ) → n < 8 → slot_at (fresh dim key) n ≡ fresh_slot dim key n
fresh_slot_at dim key zero h = refl
fresh_slot_at dim key (suc zero) h = refl
fresh_slot_at dim key (suc (suc zero)) h = refl
fresh_slot_at dim key (suc (suc (suc zero))) h = refl
fresh_slot_at dim key (suc (suc (suc (suc zero)))) h = refl
fresh_slot_at dim key (suc (suc (suc (suc (suc zero))))) h = refl
fresh_slot_at dim key (suc (suc (suc (suc (suc (suc zero)))))) h = refl
fresh_slot_at dim key (suc (suc (suc (suc (suc (suc (suc zero))))))) h = refl
fresh_slot_at dim key (suc (suc (suc (suc (suc (suc (suc (suc n)))))))) h = absurd (omega (arith, h))

-- the status is `Outside` in a slot in use of which no cell is there
outside_only : (b : Bool) (o : Option CellKey) → (if b then first_status o else Unset) ≡ Outside → (b ≡ true) × (o ≡ None)
outside_only true None e = (refl, refl)
outside_only true (Some c) e = grind arith
outside_only false o e = grind arith

outside_there : (b : Bool) (o : Option CellKey) → b ≡ true → o ≡ None → (if b then first_status o else Unset) ≡ Outside
outside_there b o h e = rw (h, e) refl

pub fresh_says_outside : FreshSaysOutside
fresh_says_outside dim key n h = rw (fresh_slot_at dim key n h) (
  (λ e. let w = outside_only (nat_lt n (corners dim)) (adjacent_of dim key n) e in (grind (arith, nat_tests, w.0), w.1)),
  (λ w. outside_there (nat_lt n (corners dim)) (adjacent_of dim key n) (grind (arith, nat_tests, w.0)) w.1),
)
