-- Held cells of a run: those between two held ones are held, so the next cell of all round a vertex decides.
use Rattle.std.proofs.Common.{◌≡◌, ℕ, suc, ◌+◌, ◌-◌, ◌*◌, ◌<◌, ◌≤◌, arith, ⊎_elim, sym, ap, subst, ◌∙◌}
use Rattle.std.proofs.Math.Nat.{mul-le-mul_right}
use Rattle.peano_keys.specs.declared.cell.CellKey.{CellKey}
use Rattle.peano_keys.specs.declared.vertex.VertexKey.{VertexKey}
use Rattle.peano_keys.specs.declared.dim.Dim.{Dim}
use Rattle.peano_curve.specs.declared.order.Direction.{Direction}
use Rattle.peano_curve.specs.declared.order.Direction.TheVariants.{Forward, Backward}
use Rattle.peano_curve.specs.declared.range.Range.{Range}
use Rattle.peano_curve.specs.Order.{rank_of, width_of, interval_of}
use Rattle.peano_curve.specs.Run.{Meets, HoldsCell, CellLater, InRun, IsLast}
use Rattle.peano_curve.specs.Passing.{NextRound}
use Rattle.peano_curve.proofs.Ranks.{width_positive}
use Rattle.peano_curve.proofs.Splits.{later_up_to, up_to_split}

-- a range that shares positions with an earlier and a later interval of one width holds all of one between
between : (w a s b : ℕ) (r : Range) → 0 < w → a < s → s < b → Meets (record { lo = a * w; hi = a * w + w }) r → Meets (record { lo = b * w; hi = b * w + w }) r → Meets (record { lo = s * w; hi = s * w + w }) r
between w a s b r pos first second low high =
    let k : ℕ = low.0 in
    let j : ℕ = high.0 in
    let row1 : suc a * w ≤ s * w = mul-le-mul_right w first in
    let row2 : suc s * w ≤ b * w = mul-le-mul_right w second in
    (s * w, (omega arith, omega arith), (omega (arith, low.1.1, low.2.0), omega (arith, high.1.0, high.2.1)))

interval_by_rank : (dim : Dim) (depth : ℕ) (c d : CellKey) → c.level ≡ d.level → rank_of dim c ≡ rank_of dim d → interval_of dim c depth ≡ interval_of dim d depth
interval_by_rank dim depth c d level rank = ap (λ l. record { lo = rank_of dim c * width_of dim l depth; hi = rank_of dim c * width_of dim l depth + width_of dim l depth }) level ∙ ap (λ n. record { lo = n * width_of dim d.level depth; hi = n * width_of dim d.level depth + width_of dim d.level depth }) rank

module _ (dim : Dim) (depth : ℕ) (r : Range) where
  at_level : (l : ℕ) (c : CellKey) → c.level ≡ l → HoldsCell dim depth r c → Meets (record { lo = rank_of dim c * width_of dim l depth; hi = rank_of dim c * width_of dim l depth + width_of dim l depth }) r
  at_level l c e h = subst (λ l. Meets (record { lo = rank_of dim c * width_of dim l depth; hi = rank_of dim c * width_of dim l depth + width_of dim l depth }) r) e h

  pub held_between : (dir : Direction) (c s q : CellKey) → c.level ≡ s.level → q.level ≡ s.level → CellLater dir dim c s → CellLater dir dim s q → HoldsCell dim depth r c → HoldsCell dim depth r q → HoldsCell dim depth r s
  held_between Forward c s q ec eq first second hc hq = between (width_of dim s.level depth) (rank_of dim c) (rank_of dim s) (rank_of dim q) r (width_positive dim (depth - s.level)) first second (at_level s.level c ec hc) (at_level s.level q eq hq)
  held_between Backward c s q ec eq first second hc hq = between (width_of dim s.level depth) (rank_of dim q) (rank_of dim s) (rank_of dim c) r (width_positive dim (depth - s.level)) second first (at_level s.level q eq hq) (at_level s.level c ec hc)

  module _ (dir : Direction) (v : VertexKey) (c : CellKey) (member : InRun dim v r depth c) where
    -- the next cell round the vertex is not held: nor is any later one
    pub last_held : (n : CellKey) → NextRound dir dim v c n → ¬ HoldsCell dim depth r n → IsLast dir dim v r depth c
    last_held n next free q in_run later =
        let level_n : n.level ≡ v.level = next.touches.level in
        let level_q : q.level ≡ n.level = in_run.touches.level ∙ sym next.touches.level in
        ⊎_elim
        (λ u. later_up_to dir (rank_of dim c) (rank_of dim q) later u)
        (λ u. ⊎_elim
        (λ e. free (subst (λ i. Meets i r) (interval_by_rank dim depth q n level_q (sym e)) in_run.held))
        (λ l. free (held_between dir c n q (member.touches.level ∙ sym level_n) level_q next.later l member.held in_run.held))
        (up_to_split dir (rank_of dim n) (rank_of dim q) u))
        (next.nearest q in_run.cell in_run.touches)
