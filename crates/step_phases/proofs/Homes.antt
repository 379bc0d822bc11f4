-- Corners of cells that a tree holds: home corners and the corners of centre children.
use Rattle.std.proofs.Common.{◌≡◌, ℕ, ◌^◌, ◌<◌, ◌≤◌, true, false, refl, sym, subst, arith, Some}
use Rattle.peano_keys.specs.declared.cell.CellKey.{CellKey}
use Rattle.peano_keys.specs.declared.dim.Dim.{Dim}
use Rattle.peano_keys.specs.declared.dim.Dim.TheVariants.{Two, Three}
use Rattle.peano_keys.specs.declared.vertex.VertexKey.{VertexKey}
use Rattle.peano_keys.specs.Dim.{corners, third_end}
use Rattle.peano_keys.specs.Cell.{IsCell, at}
use Rattle.peano_keys.specs.Vertex.{IsVertex, plane, corner_of, home_of, slot_from, adjacent_of}
use Rattle.peano_keys.specs.Grid.{Spacetree, IsStored, has_cell}
use Rattle.peano_keys.proofs.Bits.{number_below}
use Rattle.peano_keys.proofs.Positions.{cell_stands_in_slot}
use Rattle.peano_keys.proofs.Anchors.{bit_small, home_is_stored}
use Rattle.hanging_nodes.proofs.Anchors.{touches_corner}
use Rattle.peano_records.specs.declared.slot.Slot.{Slot}
use Rattle.curve_cuts.specs.Cuts.{Cuts, Held, HasVertex, IsCutGrid}
use Rattle.step_phases.specs.Stores.{Store, TreeSays, home_slot}

third_corner : (dim : Dim) (c : CellKey) (n : ℕ) → n < corners dim → IsCell dim c → plane (corner_of c n) 2 ≤ third_end dim (3 ^ c.level)
third_corner Two c n h cell = omega (arith, h, cell.third)
third_corner Three c n h cell = omega (arith, cell.third)

pub corner_is_vertex : (dim : Dim) (c : CellKey) (n : ℕ) → n < corners dim → IsCell dim c → IsVertex dim (corner_of c n)
corner_is_vertex dim c n h cell = record { shape = refl; level = cell.level; first = omega (arith, cell.first); second = omega (arith, cell.second); third = third_corner dim c n h cell }

pub home_below : (dim : Dim) (c : CellKey) → home_of dim c < corners dim
home_below dim c = number_below dim _ _ _ (bit_small false false (at c 0)) (bit_small false false (at c 1)) (bit_small false false (at c 2))

pub slot_below : (dim : Dim) (n : ℕ) → slot_from dim n < corners dim
slot_below Two n = omega arith
slot_below Three n = omega arith

-- a tree that holds a cell has each of its corners that is stored
pub has_corner : (k : Cuts) (g : Spacetree) (t n : ℕ) (c : CellKey) → t < k.trees → n < corners k.dim → IsCell k.dim c → Held k t c → IsStored g (corner_of c n) → HasVertex k g t (corner_of c n)
has_corner k g t n c tree below cell held stored = record { vertex = corner_is_vertex k.dim c n below cell; stored = stored; corner = record { tree = tree; cell = c; inside = cell; touches = touches_corner k.dim c n; held = held } }

-- its home corner is one
pub has_home : (k : Cuts) (g : Spacetree) (t : ℕ) (c : CellKey) → IsCutGrid k g → t < k.trees → IsCell k.dim c → Held k t c → has_cell g c ≡ true → HasVertex k g t (corner_of c (home_of k.dim c))
has_home k g t c fits tree cell held there =
    let stored : IsStored g (corner_of c (home_of k.dim c)) = subst (λ d. IsStored g (corner_of c (home_of d c))) fits.dim (home_is_stored g c (subst (λ d. IsCell d c) (sym fits.dim) cell) there) in
    has_corner k g t (home_of k.dim c) c tree (home_below k.dim c) cell held stored

-- where the cell has its slot
pub home_stands : (dim : Dim) (c : CellKey) → IsCell dim c → adjacent_of dim (corner_of c (home_of dim c)) (slot_from dim (home_of dim c)) ≡ Some c
home_stands dim c cell = cell_stands_in_slot dim c (home_of dim c) cell (home_below dim c)

-- what all slots say, the cell's slot at its home corner says
pub home_says : (k : Cuts) (g : Spacetree) (P : CellKey → Slot → Type 0) (store : Store) (t : ℕ) (c : CellKey) → IsCutGrid k g → TreeSays k g t P store → t < k.trees → IsCell k.dim c → Held k t c → has_cell g c ≡ true → P c (home_slot k.dim store c)
home_says k g P store t c fits all tree cell held there =
    let has = has_home k g t c fits tree cell held there in
    let says = all (corner_of c (home_of k.dim c)) has in
    says.inside (slot_from k.dim (home_of k.dim c)) c (slot_below k.dim (home_of k.dim c)) (subst (λ (w : VertexKey). adjacent_of k.dim w (slot_from k.dim (home_of k.dim c)) ≡ Some c) (sym says.key) (home_stands k.dim c cell))
