-- What a visit tells of its cell in the slots of a view.
use Rattle.std.specs.Prelude.{◌≡◌, ℕ, ◌<◌, ◌≤◌, length, unwrap_or, Option, Some, None}
use Rattle.peano_keys.specs.declared.dim.Dim.{Dim}
use Rattle.peano_keys.specs.Dim.{corners}
use Rattle.peano_keys.specs.Vertex.{slot_from}
use Rattle.peano_records.specs.declared.slot.Slot.{Slot}
use Rattle.peano_records.specs.declared.slot.Status.{Status}
use Rattle.peano_records.specs.declared.slot.Status.TheVariants.{Unset, Outside, Leaf, Refined}
use Rattle.peano_records.specs.declared.slot.Intent.{Intent}
use Rattle.peano_records.specs.declared.slot.Intent.TheVariants.{Stay, Split, Merge}
use Rattle.peano_records.specs.declared.view.Corner.{Corner}
use Rattle.peano_records.specs.declared.view.Corner.TheVariants.{Vertex, Hanging, Beyond}
use Rattle.peano_records.specs.declared.view.CellView.{CellView}
use Rattle.peano_records.specs.Slots.{VertexRecord, slot_at, with_slot}
use Rattle.peano_records.specs.Tells.{corner_at}
use Rattle.step_sweeps.specs.declared.told.Told.{Told}

-- an intent that is told to a slot: only a leaf splits, and only a refined cell merges
abbrev pub intent_told : Option Intent → Status → Intent → Intent
intent_told None status i = i
intent_told (Some Stay) status i = Stay
intent_told (Some Split) Leaf i = Split
intent_told (Some Split) Unset i = i
intent_told (Some Split) Outside i = i
intent_told (Some Split) Refined i = i
intent_told (Some Merge) Refined i = Merge
intent_told (Some Merge) Unset i = i
intent_told (Some Merge) Outside i = i
intent_told (Some Merge) Leaf i = i

-- a slot with what is told
abbrev pub told_slot : Told → Slot → Slot
told_slot t s =
    record {
      status = s.status;
      value = s.value;
      next = unwrap_or t.next s.next;
      mark = unwrap_or t.mark s.mark;
      intent = intent_told t.intent s.status s.intent;
    }

-- at corner `n` it is told in the cell's own slot
abbrev pub told_record : Dim → Told → ℕ → VertexRecord → VertexRecord
told_record dim t n s = with_slot s (slot_from dim n) (told_slot t (slot_at s (slot_from dim n)))

-- where that is a vertex
abbrev pub told_corner : Dim → Told → ℕ → Corner → Corner
told_corner dim t n (Vertex s) = Vertex (told_record dim t n s)
told_corner dim t n (Hanging k) = Hanging k
told_corner dim t n Beyond = Beyond

-- it is told at each corner of a view, and nothing else is changed
pub record IsTold (dim : Dim) (t : Told) (v w : CellView) : Type 0 where
  pub size : length w.corners ≡ length v.corners
  pub corners_told : (n : ℕ) → n < corners dim → corner_at w n ≡ told_corner dim t n (corner_at v n)
  pub past : (n : ℕ) → corners dim ≤ n → corner_at w n ≡ corner_at v n
  pub others : w ≡ record v { corners = w.corners }
