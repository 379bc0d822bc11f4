-- Storedness from above: which corner of a cell, and which cells round it, decide whether a vertex of its children is stored.
use Rattle.std.specs.Prelude.{◌≡◌, ℕ, ◌+◌, ◌*◌, ◌<◌, ◌≤◌, ◌==◌, Bool, true, if◌then◌else◌, IfSome}
use Rattle.peano_keys.specs.declared.dim.Dim.{Dim}
use Rattle.peano_keys.specs.declared.cell.CellKey.{CellKey}
use Rattle.peano_keys.specs.declared.vertex.VertexKey.{VertexKey}
use Rattle.peano_keys.specs.Cell.{IsCell, at, triple}
use Rattle.peano_keys.specs.Vertex.{Touches, plane, inner_bit, adjacent_of}
use Rattle.peano_keys.specs.Grid.{Spacetree, is_refined, has_cell}
use Rattle.peano_records.specs.Slots.{VertexRecord, slot_at}
use Rattle.peano_records.specs.Tells.{slot_tells}

-- the closed region of a cell holds a vertex of the next level
pub record HoldsVertex (c : CellKey) (v : VertexKey) : Type 0 where
  pub level : v.level ≡ c.level + 1
  pub first_low : 3 * at c 0 ≤ plane v 0
  pub first_high : plane v 0 ≤ 3 * at c 0 + 3
  pub second_low : 3 * at c 1 ≤ plane v 1
  pub second_high : plane v 1 ≤ 3 * at c 1 + 3
  pub third_low : 3 * at c 2 ≤ plane v 2
  pub third_high : plane v 2 ≤ 3 * at c 2 + 3

-- the plane of a cell that stands for a plane of its children: its own low or high one where the two are one plane, else the one inside its parent
abbrev pub plane_above : ℕ → ℕ → ℕ
plane_above x v = if v == 3 * x then x else (if v == 3 * x + 3 then x + 1 else x + inner_bit x)

-- the corner of a cell that decides on a vertex of its children
abbrev pub corner_above : CellKey → VertexKey → VertexKey
corner_above c v =
    record {
      level = c.level;
      v = triple (plane_above (at c 0) (plane v 0)) (plane_above (at c 1) (plane v 1))
          (plane_above (at c 2) (plane v 2));
    }

-- the cells that decide: those of the domain that touch this corner and whose closed region holds the vertex
pub record IsDecider (dim : Dim) (c : CellKey) (v : VertexKey) (z : CellKey) : Type 0 where
  pub cell : IsCell dim z
  pub touches : Touches z (corner_above c v)
  pub holds : HoldsVertex z v

-- each of them is refined
abbrev pub DecidersRefined : Spacetree → CellKey → VertexKey → Type 0
DecidersRefined t c v = (z : CellKey) → IsDecider t.dim c v z → is_refined t z ≡ true

-- each of them is a cell of the grid
abbrev pub DecidersThere : Spacetree → CellKey → VertexKey → Type 0
DecidersThere t c v = (z : CellKey) → IsDecider t.dim c v z → has_cell t z ≡ true

-- the record of this corner tells of each of them among the first `n` positions that it is refined, in the old grid or with `after` in the new one
abbrev pub AllAllow : Dim → CellKey → VertexKey → VertexRecord → Bool → ℕ → Type 0
AllAllow dim c v s after n = (k : ℕ) → k < n
    → IfSome (adjacent_of dim (corner_above c v) k)
    (λ q. IsDecider dim c v q → slot_tells after (slot_at s k) ≡ true)
