-- Cells by level and coordinates: which are in the domain, parents, children, neighbours, key order.
use Rattle.std.specs.Prelude.{◌≡◌, ℕ, ◌+◌, ◌-◌, ◌*◌, ◌/◌, ◌^◌, ◌<◌, ◌≤◌, List, [], ◌∷◌, slice_index, slice_set, length, refl, Option, Some, None, if◌then◌else◌, nat_lt}
use Rattle.std.specs.declared.cmp.Ordering.{Ordering}
use Rattle.std.specs.Ordering.{nat_cmp, ordering_then}
use Rattle.std.specs.Cmp.Lexicographic.{slice_cmp}
use Rattle.std.specs.Coded.{Coded, code_by, coded×, coded_ℕ, coded_list}
use Rattle.peano_keys.specs.declared.dim.Dim.{Dim}
use Rattle.peano_keys.specs.declared.dim.Dim.TheVariants.{Two, Three}
use Rattle.peano_keys.specs.declared.cell.CellKey.{CellKey}
use Rattle.peano_keys.specs.declared.cell.Face.{Face}
use Rattle.peano_keys.specs.Dim.{third_extent}

-- three coordinates
abbrev pub triple : ℕ → ℕ → ℕ → List ℕ
triple a b c = a ∷ b ∷ c ∷ []

-- a cell's coordinate on an axis
abbrev pub at : CellKey → ℕ → ℕ
at c i = slice_index c.x i

-- a cell of the domain, of a level that the engine serves; an unused coordinate is 0
pub record IsCell (dim : Dim) (c : CellKey) : Type 0 where
  pub shape : length c.x ≡ 3
  pub level : c.level ≤ 12
  pub first : at c 0 < 3 ^ c.level
  pub second : at c 1 < 3 ^ c.level
  pub third : at c 2 < third_extent dim (3 ^ c.level)

-- a cell in two or in three dimensions: each cell of a plane is one of space too
abbrev pub IsCellKey : CellKey → Type 0
IsCellKey c = IsCell Three c

-- the parent: one level up, each coordinate divided by three
abbrev pub parent_of : CellKey → CellKey
parent_of c = record { level = c.level - 1; x = triple (at c 0 / 3) (at c 1 / 3) (at c 2 / 3) }

-- digits of a child: 0, 1 or 2 on each axis, and 0 on an unused one
pub record IsDigits (dim : Dim) (k : List ℕ) : Type 0 where
  pub shape : length k ≡ 3
  pub first : slice_index k 0 < 3
  pub second : slice_index k 1 < 3
  pub third : slice_index k 2 < third_extent dim 3

-- the child at three digits
abbrev pub child_of : CellKey → List ℕ → CellKey
child_of c k =
    record {
      level = c.level + 1;
      x = triple (3 * at c 0 + slice_index k 0) (3 * at c 1 + slice_index k 1)
          (3 * at c 2 + slice_index k 2);
    }

-- the digits of the centre child
abbrev pub centre_digits : Dim → List ℕ
centre_digits Two = triple 1 1 0
centre_digits Three = triple 1 1 1

-- the centre child
abbrev pub centre_child : Dim → CellKey → CellKey
centre_child dim c = child_of c (centre_digits dim)

-- the root
abbrev pub root : CellKey
root = record { level = 0; x = triple 0 0 0 }

-- the cell across a face, where it is inside the domain: the coordinate on the face's axis moved by one
abbrev pub neighbour_of : CellKey → Face → Option CellKey
neighbour_of c f = if f.high
    then (if nat_lt (at c f.axis + 1) (3 ^ c.level)
    then Some (record c { x = slice_set c.x f.axis (at c f.axis + 1) }) else None)
    else (if nat_lt 0 (at c f.axis)
    then Some (record c { x = slice_set c.x f.axis (at c f.axis - 1) }) else None)

-- key order: by level, then by coordinates from axis 0
abbrev pub key_cmp : CellKey → CellKey → Ordering
key_cmp a b = ordering_then (nat_cmp a.level b.level) (slice_cmp nat_cmp a.x b.x)

-- a cell as a pair of a number and a list
abbrev pub coded_cell : Coded CellKey
coded_cell = code_by (ℕ × List ℕ) (coded× coded_ℕ (coded_list coded_ℕ)) (λ c. (c.level, c.x))
    (λ p. record { level = p.0; x = p.1 }) (λ _. refl)
