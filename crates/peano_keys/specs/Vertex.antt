-- Vertices by level and coordinates: corners of cells, and the positions of cells round a vertex.
use Rattle.std.specs.Prelude.{◌≡◌, ℕ, ◌+◌, ◌-◌, ◌*◌, ◌/◌, ◌%◌, ◌^◌, ◌≤◌, ◌==◌, Bool, true, false, slice_index, length, Option, Some, None, if◌then◌else◌, ◌&&◌, nat_le}
use Rattle.peano_keys.specs.declared.dim.Dim.{Dim}
use Rattle.peano_keys.specs.declared.dim.Dim.TheVariants.{Two, Three}
use Rattle.peano_keys.specs.declared.cell.CellKey.{CellKey}
use Rattle.peano_keys.specs.declared.cell.Face.{Face}
use Rattle.peano_keys.specs.declared.vertex.VertexKey.{VertexKey}
use Rattle.peano_keys.specs.Dim.{corners, third_end}
use Rattle.peano_keys.specs.Cell.{triple, at}

-- a vertex's coordinate on an axis
abbrev pub plane : VertexKey → ℕ → ℕ
plane v i = slice_index v.v i

-- a vertex of the domain, of a level that the engine serves; an unused coordinate is 0
pub record IsVertex (dim : Dim) (v : VertexKey) : Type 0 where
  pub shape : length v.v ≡ 3
  pub level : v.level ≤ 12
  pub first : plane v 0 ≤ 3 ^ v.level
  pub second : plane v 1 ≤ 3 ^ v.level
  pub third : plane v 2 ≤ third_end dim (3 ^ v.level)

-- bit `i` of a corner's number: 1 where the corner lies on the high side of axis `i`
abbrev pub bit_of : ℕ → ℕ → ℕ
bit_of n i = n / 2 ^ i % 2

-- corner number `n` of a cell
abbrev pub corner_of : CellKey → ℕ → VertexKey
corner_of c n =
    record {
      level = c.level;
      v = triple (at c 0 + bit_of n 0) (at c 1 + bit_of n 1) (at c 2 + bit_of n 2);
    }

-- a corner's number by its bits
abbrev pub number_of : Dim → ℕ → ℕ → ℕ → ℕ
number_of Two a b c = a + 2 * b
number_of Three a b c = a + 2 * b + 4 * c

-- the bit towards the inside of the parent: 1 where a cell begins on its parent's low face
abbrev pub inner_bit : ℕ → ℕ
inner_bit x = if x % 3 == 0 then 1 else 0

-- the home corner of a cell: on each axis the side that lies inside its parent, the low one of the middle child
abbrev pub home_of : Dim → CellKey → ℕ
home_of dim c = number_of dim (inner_bit (at c 0)) (inner_bit (at c 1)) (inner_bit (at c 2))

-- the bit of an anchor: the face's own side on its axis, else that of the home corner
abbrev pub anchor_bit : Bool → Bool → ℕ → ℕ
anchor_bit true high x = if high then 1 else 0
anchor_bit false high x = inner_bit x

-- the anchor of a cell across a face: the corner on that face that stands for it and for the neighbour
abbrev pub anchor_of : Dim → CellKey → Face → ℕ
anchor_of dim c f = number_of dim (anchor_bit (f.axis == 0) f.high (at c 0))
    (anchor_bit (f.axis == 1) f.high (at c 1)) (anchor_bit (f.axis == 2) f.high (at c 2))

-- the slot of a cell at its corner number `n`
abbrev pub slot_from : Dim → ℕ → ℕ
slot_from dim n = corners dim - 1 - n

-- a vertex is one of a cell's corners: on each axis the cell begins or ends there
pub record Touches (c : CellKey) (v : VertexKey) : Type 0 where
  pub level : c.level ≡ v.level
  pub first_low : at c 0 ≤ plane v 0
  pub first_high : plane v 0 ≤ at c 0 + 1
  pub second_low : at c 1 ≤ plane v 1
  pub second_high : plane v 1 ≤ at c 1 + 1
  pub third_low : at c 2 ≤ plane v 2
  pub third_high : plane v 2 ≤ at c 2 + 1

-- a coordinate moved by `bit` and back by one, where that is inside
abbrev pub moved : ℕ → ℕ → ℕ → Option ℕ
moved x bit extent = if nat_le 1 (x + bit) && nat_le (x + bit) extent then Some (x + bit - 1)
    else None

-- the cell of a level at three coordinates, where each is there
abbrev pub cell_at : ℕ → Option ℕ → Option ℕ → Option ℕ → Option CellKey
cell_at l (Some a) (Some b) (Some c) = Some (record { level = l; x = triple a b c })
cell_at l _ _ _ = None

-- a coordinate on axis 2 moved the same way: in a plane there is the one coordinate 0
abbrev pub third_moved : Dim → ℕ → ℕ → ℕ → Option ℕ
third_moved Two x bit extent = Some 0
third_moved Three x bit extent = moved x bit extent

-- adjacent position number `n` of a vertex, none outside the domain
abbrev pub adjacent_of : Dim → VertexKey → ℕ → Option CellKey
adjacent_of dim v n = cell_at v.level (moved (plane v 0) (bit_of n 0) (3 ^ v.level))
    (moved (plane v 1) (bit_of n 1) (3 ^ v.level))
    (third_moved dim (plane v 2) (bit_of n 2) (3 ^ v.level))
