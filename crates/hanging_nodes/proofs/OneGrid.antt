-- Storedness from above, in one grid.
use Rattle.std.proofs.Common.{◌≡◌, ℕ, ◌+◌, ◌-◌, ◌*◌, ◌/◌, ◌^◌, ◌<◌, ◌≤◌, ◌==◌, ◌||◌, false, refl, sym, ap, ◌∙◌, subst, pow-add, arith}
use Rattle.std.proofs.lemmas.Bool.Decides.{nat_tests}
use Rattle.peano_keys.specs.declared.dim.Dim.{Dim}
use Rattle.peano_keys.specs.declared.dim.Dim.TheVariants.{Two, Three}
use Rattle.peano_keys.specs.declared.cell.CellKey.{CellKey}
use Rattle.peano_keys.specs.declared.vertex.VertexKey.{VertexKey}
use Rattle.peano_keys.specs.Dim.{third_extent, third_end}
use Rattle.peano_keys.specs.Cell.{IsCell, at, triple, parent_of}
use Rattle.peano_keys.specs.Vertex.{IsVertex, Touches, plane}
use Rattle.peano_keys.specs.Grid.{Spacetree, IsStored, is_refined, has_cell}
use Rattle.peano_keys.proofs.Positions.{same_cell}
use Rattle.hanging_nodes.specs.Above.{HoldsVertex, corner_above, IsDecider, DecidersRefined, DecidersThere}
use Rattle.hanging_nodes.proofs.Axis.{up_near, up_spans, under, under_near, under_parent, turned, turned_near, turned_spans, turned_parent, turned_below}

-- a level further has three times as many places
pub pow3_next : (l : ℕ) → 3 ^ (l + 1) ≡ 3 * 3 ^ l
pow3_next l = pow-add 3 l 1 ∙ omega arith

-- and a level back a third
pub pow3_back : (l : ℕ) → 0 < l → 3 ^ l ≡ 3 * 3 ^ (l - 1)
pow3_back l h = let e : l ≡ l - 1 + 1 = omega (arith, h) in ap (λ n. 3 ^ n) e ∙ pow3_next (l - 1)

-- axis 2, which a plane has not
third_up : (dim : Dim) (n q : ℕ) → q < third_extent dim (3 * n) → q / 3 < third_extent dim n
third_up Two n q h = omega arith
third_up Three n q h = omega arith

third_under : (dim : Dim) (n z v : ℕ) → v ≤ third_end dim (3 * n) → z < third_extent dim n → 3 * z ≤ v → v ≤ 3 * z + 3 → under z v < third_extent dim (3 * n)
third_under Two n z v h l a b = grind (arith, nat_tests)
third_under Three n z v h l a b = grind (arith, nat_tests)

-- a cell by its level and place
abbrev pub cell_by : ℕ → ℕ → ℕ → ℕ → CellKey
cell_by l a b c = record { level = l; x = triple a b c }

-- the parent of a cell of the domain is one too
pub parent_is_cell : (dim : Dim) (q : CellKey) → IsCell dim q → 0 < q.level → IsCell dim (parent_of q)
parent_is_cell dim q cell below =
    let far : 3 ^ q.level ≡ 3 * 3 ^ (q.level - 1) = pow3_back q.level below in
    record { shape = refl; level = omega (arith, cell.level); first = omega (arith, cell.first, far); second = omega (arith, cell.second, far); third = third_up dim (3 ^ (q.level - 1)) (at q 2) (subst (λ n. at q 2 < third_extent dim n) far cell.third) }

-- the parent of a cell that touches the vertex is among those that decide
pub parent_decides : (dim : Dim) (c : CellKey) (v : VertexKey) (q : CellKey) → HoldsVertex c v → IsCell dim q → Touches q v → IsDecider dim c v (parent_of q)
parent_decides dim c v q h cell t =
    let n0 = up_near (at c 0) (plane v 0) (at q 0) (h.first_low, h.first_high) (t.first_low, t.first_high) in
    let n1 = up_near (at c 1) (plane v 1) (at q 1) (h.second_low, h.second_high) (t.second_low, t.second_high) in
    let n2 = up_near (at c 2) (plane v 2) (at q 2) (h.third_low, h.third_high) (t.third_low, t.third_high) in
    let s0 = up_spans (at c 0) (plane v 0) (at q 0) (h.first_low, h.first_high) (t.first_low, t.first_high) in
    let s1 = up_spans (at c 1) (plane v 1) (at q 1) (h.second_low, h.second_high) (t.second_low, t.second_high) in
    let s2 = up_spans (at c 2) (plane v 2) (at q 2) (h.third_low, h.third_high) (t.third_low, t.third_high) in
    record {
      cell = parent_is_cell dim q cell (omega (arith, t.level, h.level));
      touches = record { level = omega (arith, t.level, h.level); first_low = n0.0; first_high = n0.1; second_low = n1.0; second_high = n1.1; third_low = n2.0; third_high = n2.1 };
      holds = record { level = omega (arith, t.level, h.level); first_low = s0.0; first_high = s0.1; second_low = s1.0; second_high = s1.1; third_low = s2.0; third_high = s2.1 };
    }

-- each of those that decide is the parent of a cell that touches the vertex
pub record HasBelow (dim : Dim) (v : VertexKey) (z : CellKey) : Type 0 where
  pub below : CellKey
  pub cell : IsCell dim below
  pub touches : Touches below v
  pub parent : parent_of below ≡ z

pub has_below : (dim : Dim) (v : VertexKey) (z : CellKey) → IsVertex dim v → IsCell dim z → HoldsVertex z v → HasBelow dim v z
has_below dim v z vertex cell h =
    let far : 3 ^ v.level ≡ 3 * 3 ^ z.level = ap (λ l. 3 ^ l) h.level ∙ pow3_next z.level in
    let n0 = under_near (at z 0) (plane v 0) (h.first_low, h.first_high) in
    let n1 = under_near (at z 1) (plane v 1) (h.second_low, h.second_high) in
    let n2 = under_near (at z 2) (plane v 2) (h.third_low, h.third_high) in
    let p0 = under_parent (at z 0) (plane v 0) (h.first_low, h.first_high) in
    let p1 = under_parent (at z 1) (plane v 1) (h.second_low, h.second_high) in
    let p2 = under_parent (at z 2) (plane v 2) (h.third_low, h.third_high) in
    let q : CellKey = cell_by v.level (under (at z 0) (plane v 0)) (under (at z 1) (plane v 1)) (under (at z 2) (plane v 2)) in
    record {
      below = q;
      cell = record { shape = refl; level = vertex.level; first = omega (arith, cell.first, far, p0); second = omega (arith, cell.second, far, p1); third = subst (λ n. at q 2 < third_extent dim n) (sym far) (third_under dim (3 ^ z.level) (at z 2) (plane v 2) (subst (λ n. plane v 2 ≤ third_end dim n) far vertex.third) cell.third h.third_low h.third_high) };
      touches = record { level = refl; first_low = n0.0; first_high = n0.1; second_low = n1.0; second_high = n1.1; third_low = n2.0; third_high = n2.1 };
      parent = same_cell z _ _ _ _ cell.shape (omega (arith, h.level)) p0 p1 p2;
    }

-- below the root a cell is there where its parent is refined
pub there_by_parent : (t : Spacetree) (q : CellKey) → 0 < q.level → has_cell t q ≡ is_refined t (parent_of q)
there_by_parent t q h = let e : (q.level == 0) ≡ false = grind (arith, nat_tests) in rw e refl

-- a vertex of the children is stored exactly where each cell that decides is refined
pub stored_refined : (t : Spacetree) (c : CellKey) (v : VertexKey) → IsVertex t.dim v → HoldsVertex c v → IsStored t v → DecidersRefined t c v
stored_refined t c v vertex h stored = λ z decider.
    let b = has_below t.dim v z vertex decider.cell decider.holds in
    ap (is_refined t) (sym b.parent) ∙ sym (there_by_parent t b.below (omega (arith, b.touches.level, h.level))) ∙ stored b.below b.cell b.touches

pub refined_stored : (t : Spacetree) (c : CellKey) (v : VertexKey) → HoldsVertex c v → DecidersRefined t c v → IsStored t v
refined_stored t c v h refined = λ q cell touches. there_by_parent t q (omega (arith, touches.level, h.level)) ∙ refined (parent_of q) (parent_decides t.dim c v q h cell touches)

-- where each cell that decides is a cell of the grid, the corner above is stored
pub there_stored : (t : Spacetree) (c : CellKey) (v : VertexKey) → IsCell t.dim c → HoldsVertex c v → DecidersThere t c v → IsStored t (corner_above c v)
there_stored t c v cell h there_all = λ y there near.
    let t0 = turned (at c 0) (plane v 0) (at y 0) in
    let t1 = turned (at c 1) (plane v 1) (at y 1) in
    let t2 = turned (at c 2) (plane v 2) (at y 2) in
    let n0 = turned_near (at c 0) (plane v 0) (at y 0) (h.first_low, h.first_high) (near.first_low, near.first_high) in
    let n1 = turned_near (at c 1) (plane v 1) (at y 1) (h.second_low, h.second_high) (near.second_low, near.second_high) in
    let n2 = turned_near (at c 2) (plane v 2) (at y 2) (h.third_low, h.third_high) (near.third_low, near.third_high) in
    let s0 = turned_spans (at c 0) (plane v 0) (at y 0) (h.first_low, h.first_high) (near.first_low, near.first_high) in
    let s1 = turned_spans (at c 1) (plane v 1) (at y 1) (h.second_low, h.second_high) (near.second_low, near.second_high) in
    let s2 = turned_spans (at c 2) (plane v 2) (at y 2) (h.third_low, h.third_high) (near.third_low, near.third_high) in
    let p0 = turned_parent (at c 0) (plane v 0) (at y 0) (h.first_low, h.first_high) (near.first_low, near.first_high) in
    let p1 = turned_parent (at c 1) (plane v 1) (at y 1) (h.second_low, h.second_high) (near.second_low, near.second_high) in
    let p2 = turned_parent (at c 2) (plane v 2) (at y 2) (h.third_low, h.third_high) (near.third_low, near.third_high) in
    let z : CellKey = cell_by y.level t0 t1 t2 in
    let same : y.level ≡ c.level = near.level in
    let decider : IsDecider t.dim c v z = record {
      cell = record { shape = refl; level = there.level; first = turned_below (3 ^ y.level) (at c 0) (plane v 0) (at y 0) (rw same cell.first) there.first; second = turned_below (3 ^ y.level) (at c 1) (plane v 1) (at y 1) (rw same cell.second) there.second; third = turned_below (third_extent t.dim (3 ^ y.level)) (at c 2) (plane v 2) (at y 2) (rw same cell.third) there.third };
      touches = record { level = same; first_low = n0.0; first_high = n0.1; second_low = n1.0; second_high = n1.1; third_low = n2.0; third_high = n2.1 };
      holds = record { level = h.level ∙ ap (λ n. n + 1) (sym same); first_low = s0.0; first_high = s0.1; second_low = s1.0; second_high = s1.1; third_low = s2.0; third_high = s2.1 };
    } in
    let siblings : parent_of z ≡ parent_of y = rw (p0, p1, p2) refl in
    ap (λ p. (y.level == 0) || is_refined t p) (sym siblings) ∙ there_all z decider
