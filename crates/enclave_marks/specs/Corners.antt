-- What a corner of a view shows of a border.
use Rattle.std.specs.Prelude.{◌≡◌, ◌⊎◌, ℕ, ◌<◌, true, false, IsSome}
use Rattle.peano_keys.specs.declared.dim.Dim.{Dim}
use Rattle.peano_keys.specs.declared.vertex.VertexKey.{VertexKey}
use Rattle.peano_keys.specs.Dim.{corners}
use Rattle.peano_keys.specs.Vertex.{adjacent_of}
use Rattle.peano_records.specs.declared.view.Corner.{Corner}
use Rattle.peano_records.specs.declared.view.Corner.TheVariants.{Vertex, Hanging, Beyond}
use Rattle.peano_records.specs.Slots.{VertexRecord, slot_at}
use Rattle.peano_records.specs.Tells.{slot_tells}
use Rattle.curve_cuts.specs.Cuts.{Cuts, IsShared}

-- a record tells of a refined cell at a position of its vertex: one inside the domain
abbrev pub TellsRefined : Dim → VertexKey → VertexRecord → ℕ → Type 0
TellsRefined dim w s k = IsSome (adjacent_of dim w k) × (slot_tells false (slot_at s k) ≡ true)

-- a corner that is not stored, one that another tree has too, or one whose record tells of a refined cell
abbrev pub ShowsBorder : Cuts → ℕ → VertexKey → Corner → Type 0
ShowsBorder k t w (Vertex s) = IsShared k t w
    ⊎ ((n : ℕ) × (n < corners k.dim) × TellsRefined k.dim w s n)
ShowsBorder k t w (Hanging v) = Unit {0}
ShowsBorder k t w Beyond = Unit {0}
