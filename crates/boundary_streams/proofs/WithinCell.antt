-- The cell two levels above a vertex that lies inside it has all cells round the vertex in it.
use Rattle.std.proofs.Common.{◌≡◌, ℕ, ◌+◌, ◌-◌, ◌*◌, ◌/◌, ◌%◌, ◌^◌, ◌<◌, ◌≤◌, List, [], ◌∷◌, length, refl, sym, ap, subst, ◌∙◌, arith}
use Rattle.std.proofs.lemmas.Nat.{pow-add}
use Rattle.peano_keys.specs.declared.cell.CellKey.{CellKey}
use Rattle.peano_keys.specs.declared.vertex.VertexKey.{VertexKey}
use Rattle.peano_keys.specs.declared.dim.Dim.{Dim}
use Rattle.peano_keys.specs.declared.dim.Dim.TheVariants.{Two, Three}
use Rattle.peano_keys.specs.Dim.{third_extent, third_end}
use Rattle.peano_keys.specs.Cell.{IsCell, at, triple}
use Rattle.peano_keys.specs.Vertex.{IsVertex, Touches, plane}
use Rattle.peano_curve.specs.Laws.{ancestor_of}
use Rattle.curve_cuts.specs.Round.{Surrounds}
use Rattle.boundary_streams.specs.Sendings.{IsThirdInside, IsInside}

-- the cell two levels above
abbrev pub coarse : VertexKey → CellKey
coarse v = record { level = v.level - 2; x = triple (plane v 0 / 9) (plane v 1 / 9) (plane v 2 / 9) }

same_ninth : (x q : ℕ) → 0 < x % 9 → q ≤ x → x ≤ q + 1 → q / 9 ≡ x / 9
same_ninth x q h low high = omega (arith, h, low, high)

third_ninth : (dim : Dim) (l : ℕ) (v : VertexKey) (q : CellKey) → IsVertex dim v → IsCell dim q → Touches q v → IsThirdInside dim (plane v 2) → at q 2 / 9 ≡ plane v 2 / 9
third_ninth Two l v q vertex cell touches h = omega (arith, vertex.third, cell.third)
third_ninth Three l v q vertex cell touches h = same_ninth (plane v 2) (at q 2) h touches.third_low touches.third_high

nine_parts : (n : ℕ) → 2 ≤ n → 3 ^ n ≡ 9 * 3 ^ (n - 2)
nine_parts n h =
    let e : 2 + (n - 2) ≡ n = omega (arith, h) in
    ap (λ m. 3 ^ m) (sym e) ∙ pow-add 3 2 (n - 2)

below_ninth : (x p : ℕ) → x ≤ 9 * p → 0 < x % 9 → x / 9 < p
below_ninth x p h inside = omega (arith, h, inside)

third_below : (dim : Dim) (z n : ℕ) → 2 ≤ n → z ≤ third_end dim (3 ^ n) → IsThirdInside dim z → z / 9 < third_extent dim (3 ^ (n - 2))
third_below Two z n h end inside = omega (arith, end)
third_below Three z n h end inside = below_ninth z (3 ^ (n - 2)) (omega (arith, end, nine_parts n h)) inside

module _ (dim : Dim) (v : VertexKey) (vertex : IsVertex dim v) (h : IsInside dim v) where
  pub coarse_cell : IsCell dim (coarse v)
  coarse_cell = record {
    shape = refl;
    level = omega (arith, vertex.level);
    first = below_ninth (plane v 0) (3 ^ (v.level - 2)) (omega (arith, vertex.first, nine_parts v.level h.level)) h.first;
    second = below_ninth (plane v 1) (3 ^ (v.level - 2)) (omega (arith, vertex.second, nine_parts v.level h.level)) h.second;
    third = third_below dim (plane v 2) v.level h.level vertex.third h.third;
  }

  pub surrounds : Surrounds dim (coarse v) v
  surrounds q cell touches =
      let two : q.level - (v.level - 2) ≡ 2 = omega (arith, touches.level, h.level) in
      record {
        level = omega (arith, touches.level);
        ancestor = ap (λ (n : ℕ). record { level = v.level - 2; x = triple (at q 0 / 3 ^ n) (at q 1 / 3 ^ n) (at q 2 / 3 ^ n) }) two
            ∙ ap (λ (n : ℕ). record { level = v.level - 2; x = triple n (at q 1 / 9) (at q 2 / 9) }) (same_ninth (plane v 0) (at q 0) h.first touches.first_low touches.first_high)
            ∙ ap (λ (n : ℕ). record { level = v.level - 2; x = triple (plane v 0 / 9) n (at q 2 / 9) }) (same_ninth (plane v 1) (at q 1) h.second touches.second_low touches.second_high)
            ∙ ap (λ (n : ℕ). record { level = v.level - 2; x = triple (plane v 0 / 9) (plane v 1 / 9) n }) (third_ninth dim v.level v q vertex cell touches h.third);
      }
