-- The cells on both sides of the planes of a vertex.
use Rattle.std.proofs.Common.{◌≡◌, ℕ, ◌+◌, ◌^◌, ◌<◌, ◌≤◌, ap, subst, sym, ◌∙◌}
use Rattle.peano_keys.specs.declared.cell.CellKey.{CellKey}
use Rattle.peano_keys.specs.declared.vertex.VertexKey.{VertexKey}
use Rattle.peano_keys.specs.declared.dim.Dim.{Dim}
use Rattle.peano_keys.specs.Dim.{third_extent}
use Rattle.peano_keys.specs.Cell.{at, triple}
use Rattle.peano_keys.specs.Vertex.{plane}
use Rattle.peano_curve.specs.Passing.{Among, SpanRound}

-- on an axis: each place next to the plane is one of two
abbrev pub Both : ℕ → ℕ → ℕ → ℕ → Type 0
Both p x y e = (q : ℕ) → q < e → q ≤ p → p ≤ q + 1 → Among x y q

pub span_round : (dim : Dim) (v : VertexKey) (c : CellKey) (y0 y1 y2 e f : ℕ) → c.level ≡ v.level → e ≡ 3 ^ c.level → f ≡ third_extent dim e → Both (plane v 0) (at c 0) y0 e → Both (plane v 1) (at c 1) y1 e → Both (plane v 2) (at c 2) y2 f → SpanRound dim v c (record { level = c.level; x = triple y0 y1 y2 })
span_round dim v c y0 y1 y2 e f level he hf b0 b1 b2 q cell touches =
    let end : 3 ^ q.level ≡ e = ap (λ l. 3 ^ l) (touches.level ∙ sym level) ∙ sym he in (
      b0 (at q 0) (subst (λ n. at q 0 < n) end cell.first) touches.first_low touches.first_high,
      b1 (at q 1) (subst (λ n. at q 1 < n) end cell.second) touches.second_low touches.second_high,
      b2 (at q 2) (subst (λ n. at q 2 < n) (sym hf) (subst (λ n. at q 2 < third_extent dim n) end cell.third)) touches.third_low touches.third_high,
    )
