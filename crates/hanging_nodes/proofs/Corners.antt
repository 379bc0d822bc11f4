-- The corner that decides, by its number.
use Rattle.std.proofs.Common.{◌≡◌, ℕ, ◌+◌, ◌≤◌, refl, ◌∙◌, arith}
use Rattle.std.proofs.lemmas.Bool.Decides.{nat_tests}
use Rattle.peano_keys.specs.declared.dim.Dim.{Dim}
use Rattle.peano_keys.specs.declared.dim.Dim.TheVariants.{Two, Three}
use Rattle.peano_keys.specs.declared.cell.CellKey.{CellKey}
use Rattle.peano_keys.specs.declared.vertex.VertexKey.{VertexKey}
use Rattle.peano_keys.specs.Dim.{third_end}
use Rattle.peano_keys.specs.Cell.{IsCell, at}
use Rattle.peano_keys.specs.Vertex.{IsVertex, plane, corner_of, number_of}
use Rattle.peano_keys.proofs.Anchors.{corner_by_bits}
use Rattle.hanging_nodes.specs.Above.{plane_above, corner_above}

third_plane : (dim : Dim) (c : CellKey) (v : VertexKey) (n : ℕ) → IsCell dim c → IsVertex dim v → at c 2 + n ≡ plane_above (at c 2) (plane v 2) → at c 2 + third_end dim n ≡ plane_above (at c 2) (plane v 2)
third_plane Two c v n cell vertex e = grind (arith, nat_tests, cell.third, vertex.third)
third_plane Three c v n cell vertex e = e

pub corner_is_above : (dim : Dim) (c : CellKey) (v : VertexKey) (a b d : ℕ) → IsCell dim c → IsVertex dim v → a ≤ 1 → b ≤ 1 → d ≤ 1 → at c 0 + a ≡ plane_above (at c 0) (plane v 0) → at c 1 + b ≡ plane_above (at c 1) (plane v 1) → at c 2 + d ≡ plane_above (at c 2) (plane v 2) → corner_of c (number_of dim a b d) ≡ corner_above c v
corner_is_above dim c v a b d cell vertex ha hb hd e0 e1 e2 =
    let e3 = third_plane dim c v d cell vertex e2 in
    corner_by_bits dim c a b d ha hb hd ∙ rw (e0, e1, e3) refl
