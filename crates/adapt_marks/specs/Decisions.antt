-- What is read off the slots.
use Rattle.std.specs.Prelude.{◌≡◌, ℕ, ◌<◌, false}
use Rattle.peano_keys.specs.declared.side.Mark.{Mark}
use Rattle.peano_keys.specs.declared.side.Mark.TheVariants.{Coarsen}
use Rattle.peano_records.specs.declared.slot.Slot.{Slot}
use Rattle.peano_records.specs.declared.view.Corner.{Corner}
use Rattle.peano_records.specs.declared.view.Corner.TheVariants.{Vertex, Hanging, Beyond}
use Rattle.peano_records.specs.Slots.{VertexRecord, slot_at}
use Rattle.peano_records.specs.Tells.{slot_tells}

-- a slot tells of a leaf with this mark
pub record IsLeafMarked (mark : Mark) (s : Slot) : Type 0 where
  pub leaf : slot_tells false s ≡ false
  pub marked : s.mark ≡ mark

-- the first `count` slots of a record tell of leaves that are marked to be coarsened
abbrev pub AllCoarsen : ℕ → VertexRecord → Type 0
AllCoarsen count s = (k : ℕ) → k < count → IsLeafMarked Coarsen (slot_at s k)

-- a corner is stored, and its first `count` slots tell so
abbrev pub CornerCoarsens : ℕ → Corner → Type 0
CornerCoarsens count (Vertex s) = AllCoarsen count s
CornerCoarsens count (Hanging k) = ⊥
CornerCoarsens count Beyond = ⊥
