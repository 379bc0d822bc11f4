-- A cell that has all cells round a vertex in it, and is whole in a tree's range: the vertex is not shared.
use Rattle.std.proofs.Common.{◌≡◌, ℕ, ◌+◌, ◌-◌, ◌*◌, ◌/◌, ◌%◌, ◌^◌, ◌<◌, ◌≤◌, refl, sym, ap, subst, ◌∙◌, arith}
use Rattle.std.proofs.lemmas.Nat.{div-add-mod', div-mul-add}
use Rattle.peano_keys.specs.declared.cell.CellKey.{CellKey}
use Rattle.peano_keys.specs.declared.vertex.VertexKey.{VertexKey}
use Rattle.peano_keys.specs.declared.dim.Dim.{Dim}
use Rattle.peano_keys.specs.declared.dim.Dim.TheVariants.{Two, Three}
use Rattle.peano_keys.specs.Dim.{corners}
use Rattle.peano_keys.specs.Cell.{IsCell, at, triple}
use Rattle.peano_keys.specs.Vertex.{Touches, bit_of, corner_of}
use Rattle.peano_curve.specs.Order.{interval_of}
use Rattle.peano_curve.specs.Laws.{IsIn, ancestor_of}
use Rattle.peano_curve.proofs.Ancestors.{ancestor_cell}
use Rattle.curve_cuts.specs.Cuts.{Cuts, AreCuts, range_of, IsShared}
use Rattle.curve_cuts.specs.Round.{Surrounds, SurroundsCell, SharesNoCorner, IsBetween, IsThirdBetween, LiesInside, IsPartOf}
use Rattle.curve_cuts.proofs.Cuts.{position_has_one_tree}
use Rattle.curve_cuts.proofs.Nested.{inside}

-- a coordinate beside another one that is neither first nor last in its part lies in the same part
same_part : (span x q : ℕ) → IsBetween span x → x ≤ q + 1 → q ≤ x + 1 → q / span ≡ x / span
same_part span x q between from to =
    let whole : x / span * span + x % span ≡ x = div-add-mod' x span in
    let here : x / span * span + (q - x / span * span) ≡ q = omega (arith, whole, between.0, from) in
    let small : q - x / span * span < span = omega (arith, whole, between.1, to) in
    ap (λ n. n / span) (sym here) ∙ div-mul-add (x / span) span (q - x / span * span) small

bit_at_most : (n i : ℕ) → bit_of n i ≤ 1
bit_at_most n i = omega arith

beside : (span x q b : ℕ) → IsBetween span x → b ≤ 1 → q ≤ x + b → x + b ≤ q + 1 → q / span ≡ x / span
beside span x q b between small from to = same_part span x q between (omega (arith, small, to)) (omega (arith, small, from))

third_beside : (dim : Dim) (span : ℕ) (c q : CellKey) (n : ℕ) → IsCell dim c → IsCell dim q → Touches q (corner_of c n) → IsThirdBetween dim span (at c 2) → at q 2 / span ≡ at c 2 / span
third_beside Two span c q n ca cq touches between =
    let same : at q 2 ≡ at c 2 = omega (arith, ca.third, cq.third) in
    ap (λ z. z / span) same
third_beside Three span c q n ca cq touches between = beside span (at c 2) (at q 2) (bit_of n 2) between (bit_at_most n 2) touches.third_low touches.third_high

-- the cell so many levels above one whose coordinates are neither first nor last in their parts has all cells round its corners in it
module _ (dim : Dim) (c : CellKey) (levels : ℕ) (cell : IsCell dim c) (le : levels ≤ c.level) (h : LiesInside dim (3 ^ levels) c) where
  abbrev pub above : CellKey
  above = record { level = c.level - levels; x = triple (at c 0 / 3 ^ levels) (at c 1 / 3 ^ levels) (at c 2 / 3 ^ levels) }

  back : c.level - (c.level - levels) ≡ levels
  back = omega (arith, le)

  is_ancestor : ancestor_of c (c.level - levels) ≡ above
  is_ancestor = ap (λ (n : ℕ). record { level = c.level - levels; x = triple (at c 0 / 3 ^ n) (at c 1 / 3 ^ n) (at c 2 / 3 ^ n) }) back

  pub above_cell : IsCell dim above
  above_cell = subst (IsCell dim) is_ancestor (ancestor_cell dim c (c.level - levels) cell (omega arith))

  pub above_surrounds : SurroundsCell dim above c
  above_surrounds n below q inside_q touches =
      let depth : q.level - (c.level - levels) ≡ levels = omega (arith, touches.level, le) in
      record {
        level = omega (arith, touches.level);
        ancestor = ap (λ (m : ℕ). record { level = c.level - levels; x = triple (at q 0 / 3 ^ m) (at q 1 / 3 ^ m) (at q 2 / 3 ^ m) }) depth
            ∙ ap (λ (m : ℕ). record { level = c.level - levels; x = triple m (at q 1 / 3 ^ levels) (at q 2 / 3 ^ levels) }) (beside (3 ^ levels) (at c 0) (at q 0) (bit_of n 0) h.first (bit_at_most n 0) touches.first_low touches.first_high)
            ∙ ap (λ (m : ℕ). record { level = c.level - levels; x = triple (at c 0 / 3 ^ levels) m (at q 2 / 3 ^ levels) }) (beside (3 ^ levels) (at c 1) (at q 1) (bit_of n 1) h.second (bit_at_most n 1) touches.second_low touches.second_high)
            ∙ ap (λ (m : ℕ). record { level = c.level - levels; x = triple (at c 0 / 3 ^ levels) (at c 1 / 3 ^ levels) m }) (third_beside dim (3 ^ levels) c q n cell inside_q touches h.third);
      }

-- a vertex that has all cells round it in a cell that is whole in a tree's range is not shared
pub not_shared : (k : Cuts) (t : ℕ) (v : VertexKey) (c : CellKey) → AreCuts k → t < k.trees → IsCell k.dim c → Surrounds k.dim c v → v.level ≤ k.depth → IsPartOf (interval_of k.dim c k.depth) (range_of k t) → ¬ IsShared k t v
not_shared k t v c cuts tree cell round level part_of shared =
    let q = shared.corner.cell in
    let p = shared.corner.held in
    let under : IsIn c q = round q shared.corner.inside shared.corner.touches in
    let part = inside k.dim k.depth c q cell shared.corner.inside under.level (omega (arith, shared.corner.touches.level, level)) under in
    shared.apart (position_has_one_tree k shared.other t p.0 cuts (record { tree = shared.corner.tree; holds = p.2 }) (record { tree = tree; holds = (omega (arith, part_of.low, part.0, p.1.0), omega (arith, part_of.high, part.1, p.1.1)) }))

-- the same with the dimension by another name
pub inner_not_shared : (k : Cuts) (t : ℕ) (v : VertexKey) (c : CellKey) (d : Dim) → d ≡ k.dim → AreCuts k → t < k.trees → IsCell d c → Surrounds d c v → v.level ≤ k.depth → IsPartOf (interval_of k.dim c k.depth) (range_of k t) → ¬ IsShared k t v
inner_not_shared k t v c d e cuts tree cell round level part_of = not_shared k t v c cuts tree (subst (λ x. IsCell x c) e cell) (subst (λ x. Surrounds x c v) e round) level part_of

-- so is each corner of a cell
pub no_corner_shared : (k : Cuts) (t : ℕ) (c around : CellKey) → AreCuts k → t < k.trees → IsCell k.dim around → SurroundsCell k.dim around c → c.level ≤ k.depth → IsPartOf (interval_of k.dim around k.depth) (range_of k t) → SharesNoCorner k t c
no_corner_shared k t c around cuts tree cell round level part_of n below = not_shared k t (corner_of c n) around cuts tree cell (round n below) level part_of

-- one tree shares nothing
pub one_shares_nothing : (k : Cuts) (t : ℕ) (v : VertexKey) → k.trees ≡ 1 → t < k.trees → ¬ IsShared k t v
one_shares_nothing k t v one tree shared = shared.apart (omega (arith, one, tree, shared.corner.tree))
