-- The run of a vertex goes from cell to cell across faces.
use Rattle.std.proofs.Common.{◌≡◌, ◌≢◌, ◌⊎◌, inl, inr, ℕ, zero, suc, ◌+◌, ◌-◌, ◌/◌, ◌%◌, ◌^◌, ◌<◌, ◌≤◌, arith, ⊎_elim, refl, sym, ap, subst, ◌∙◌, true, false, Option, Some, None}
use Rattle.std.proofs.lemmas.Bool.{cases_eq, cases_lt}
use Rattle.peano_keys.specs.declared.cell.CellKey.{CellKey}
use Rattle.peano_keys.specs.declared.vertex.VertexKey.{VertexKey}
use Rattle.peano_keys.specs.declared.dim.Dim.{Dim}
use Rattle.peano_keys.specs.declared.dim.Dim.TheVariants.{Two, Three}
use Rattle.peano_keys.specs.Dim.{axes, third_extent}
use Rattle.peano_keys.specs.Cell.{IsCell, at, triple}
use Rattle.peano_keys.specs.Vertex.{Touches, plane}
use Rattle.peano_keys.proofs.Faces.{with_x, placed, next_neighbour}
use Rattle.peano_keys.proofs.Positions.{same_cell}
use Rattle.peano_curve.specs.declared.order.Direction.{Direction}
use Rattle.stack_law.specs.Digits.{turned}
use Rattle.peano_curve.specs.Order.{rank_from, rank_of}
use Rattle.peano_curve.specs.Run.{DifferOn}
use Rattle.peano_curve.specs.Passing.{UpTo, IsBeside, NextIs, TurnsOn, Crosses, NoneLaterRound, NextRound, SpanRound}
use Rattle.peano_curve.specs.Laws.{RunIsGray, RanksTellApart}
use Rattle.peano_curve.proofs.Splits.{later_or, later_up_to, up_to_refl, quiet, up_to_split}
use Rattle.peano_curve.proofs.Levels.{Within, rank_apart, third_beside, within_up}
use Rattle.peano_curve.proofs.Turns.{next_third, next_second, next_first, next_above}
use Rattle.peano_curve.proofs.Sides.{Both, span_round}
use Rattle.peano_curve.proofs.Held.{held_between}

pub ranks_tell_apart : RanksTellApart
ranks_tell_apart dim a b ha hb level same =
    let places = rank_apart dim b.level (at a 0) (at a 1) (at a 2) (at b 0) (at b 1) (at b 2) (subst (λ l. Within dim l (at a 0) (at a 1) (at a 2)) level (ha.first, ha.second, ha.third)) (hb.first, hb.second, hb.third) (subst (λ l. rank_from dim l (at a 0) (at a 1) (at a 2) ≡ rank_of dim b) level same) in
    sym (same_cell a a.level (at a 0) (at a 1) (at a 2) ha.shape refl refl refl refl) ∙ same_cell b a.level (at a 0) (at a 1) (at a 2) hb.shape level places.0 places.1 places.2

crosses_or : (dir : Direction) (s x y : ℕ) → Crosses dir s x y ⊎ (Crosses dir s x y → ⊥)
crosses_or dir s x y =
    ⊎_elim
    (λ e. ⊎_elim (λ l. inl (e, l)) (λ u. inr (λ c. later_up_to dir (turned s (x % 3)) (turned s (y % 3)) c.1 u)) (later_or dir (turned s (x % 3)) (turned s (y % 3))))
    (λ n. inr (λ c. n c.0))
    (cases_eq (x / 3) (y / 3))

-- of places with coordinates x or y there is a next one on some axis, or x is the last
pub some_turn : (dir : Direction) (dim : Dim) (l x0 x1 x2 y0 y1 y2 : ℕ) → IsBeside x0 y0 → IsBeside x1 y1 → IsBeside x2 y2 → Within dim l x0 x1 x2 → Within dim l y0 y1 y2 → (o : Option ℕ) × TurnsOn dir (rank_from dim l) x0 x1 x2 y0 y1 y2 o
some_turn dir dim zero x0 x1 x2 y0 y1 y2 b0 b1 b2 hx hy = (None, record { none = λ t0 t1 t2 a0 a1 a2. up_to_refl dir 0 0 refl })
some_turn dir dim (suc l) x0 x1 x2 y0 y1 y2 b0 b1 b2 hx hy =
    let above = some_turn dir dim l (x0 / 3) (x1 / 3) (x2 / 3) (y0 / 3) (y1 / 3) (y2 / 3) (third_beside x0 y0 b0) (third_beside x1 y1 b1) (third_beside x2 y2 b2) (within_up dim l x0 x1 x2 hx) (within_up dim l y0 y1 y2 hy) in
    ⊎_elim
    (λ c2. (Some 2, next_third dir l x0 x1 x2 y0 y1 y2 b0 b1 b2 dim hx hy c2))
    (λ n2. ⊎_elim
    (λ c1. (Some 1, next_second dir l x0 x1 x2 y0 y1 y2 b0 b1 b2 dim hx hy (quiet dir _ _ _ n2) c1))
    (λ n1. ⊎_elim
    (λ c0. (Some 0, next_first dir l x0 x1 x2 y0 y1 y2 b0 b1 b2 dim hx hy (quiet dir _ _ _ n2) (quiet dir _ _ _ n1) c0))
    (λ n0. (above.0, next_above dir l x0 x1 x2 y0 y1 y2 b0 b1 b2 dim hx hy above.0 (quiet dir _ _ _ n2) (quiet dir _ _ _ n1) (quiet dir _ _ _ n0) above.1))
    (crosses_or dir (x1 / 3 + x2 / 3) x0 y0))
    (crosses_or dir (x0 + x2 / 3) x1 y1))
    (crosses_or dir (x0 + x1) x2 y2)

-- the coordinate on the other side of a plane, or the same one where that is outside
record Across (p x e y : ℕ) : Type 0 where
  beside : IsBeside x y
  inside : y < e
  low : y ≤ p
  high : p ≤ y + 1
  both : Both p x y e

across : (p x e : ℕ) → x < e → x ≤ p → p ≤ x + 1 → (y : ℕ) × Across p x e y
across p x e inside low high =
    ⊎_elim
    (λ same. (x - 1, record { beside = record { low = omega arith; high = omega arith }; inside = omega arith; low = omega arith; high = omega arith; both = λ q hq ql qh. grind arith }))
    (λ other. ⊎_elim
    (λ in_domain. (p, record { beside = record { low = omega arith; high = omega arith }; inside = in_domain; low = omega arith; high = omega arith; both = λ q hq ql qh. grind arith }))
    (λ edge. (x, record { beside = record { low = omega arith; high = omega arith }; inside = inside; low = low; high = high; both = λ q hq ql qh. inl (omega arith) }))
    (cases_lt p e))
    (cases_eq x p)

-- a cell moved to the other side of one plane
module _ (dim : Dim) (c : CellKey) (cell : IsCell dim c) where
  differs_at : (i y : ℕ) → i < axes dim → IsBeside (at c i) y → (at c i ≢ y) → y < 3 ^ c.level → DifferOn dim i c (with_x c (placed c i y))
  differs_at i y used beside apart inside =
      ⊎_elim
      (λ up. record { in_use = used; high = true; across = next_neighbour true i c y cell.shape (omega (arith, beside.high), inside) })
      (λ down. record { in_use = used; high = false; across = next_neighbour false i c y cell.shape (omega (arith, beside.low)) })
      (cases_lt (at c i) y)

module _ (dir : Direction) (dim : Dim) (v : VertexKey) (c : CellKey) (cell : IsCell dim c) (touches : Touches c v) (y0 y1 y2 : ℕ) (a0 : Across (plane v 0) (at c 0) (3 ^ c.level) y0) (a1 : Across (plane v 1) (at c 1) (3 ^ c.level) y1) (a2 : Across (plane v 2) (at c 2) (third_extent dim (3 ^ c.level)) y2) where
  span : SpanRound dim v c (with_x c (triple y0 y1 y2))
  span = span_round dim v c y0 y1 y2 (3 ^ c.level) (third_extent dim (3 ^ c.level)) touches.level refl refl a0.both a1.both a2.both

  rank_round : (q : CellKey) → Touches q v → rank_of dim q ≡ rank_from dim c.level (at q 0) (at q 1) (at q 2)
  rank_round q t = ap (λ l. rank_from dim l (at q 0) (at q 1) (at q 2)) (t.level ∙ sym touches.level)

  abbrev Turn : Option ℕ → Type 0
  Turn o = TurnsOn dir (rank_from dim c.level) (at c 0) (at c 1) (at c 2) y0 y1 y2 o

  none_round : Turn None → NoneLaterRound dir dim v c
  none_round h q cq tq = let s = span q cq tq in subst (λ z. UpTo dir z (rank_of dim c)) (sym (rank_round q tq)) (h.none (at q 0) (at q 1) (at q 2) s.0 s.1 s.2)

  next_round : (n0 n1 n2 : ℕ) → IsCell dim (with_x c (triple n0 n1 n2)) → Touches (with_x c (triple n0 n1 n2)) v → NextIs dir (rank_from dim c.level) (at c 0) (at c 1) (at c 2) y0 y1 y2 n0 n1 n2 → NextRound dir dim v c (with_x c (triple n0 n1 n2))
  next_round n0 n1 n2 there near h = record {
    cell = there;
    touches = near;
    later = h.later;
    nearest = λ q cq tq. let s = span q cq tq in subst (λ z. UpTo dir z (rank_of dim c) ⊎ UpTo dir (rank_from dim c.level n0 n1 n2) z) (sym (rank_round q tq)) (h.nearest (at q 0) (at q 1) (at q 2) s.0 s.1 s.2);
  }

  -- the next cell round the vertex, across a face
  abbrev Across1 : Type 0
  Across1 = (n : CellKey) × NextRound dir dim v c n × ((i : ℕ) × DifferOn dim i c n)

  by_turn : (o : Option ℕ) → Turn o → NoneLaterRound dir dim v c ⊎ Across1
  by_turn None h = inl (none_round h)
  by_turn (Some zero) h = inr (
    with_x c (triple y0 (at c 1) (at c 2)),
    next_round y0 (at c 1) (at c 2) (record { shape = refl; level = cell.level; first = a0.inside; second = cell.second; third = cell.third }) (record { level = touches.level; first_low = a0.low; first_high = a0.high; second_low = touches.second_low; second_high = touches.second_high; third_low = touches.third_low; third_high = touches.third_high }) h.1,
    (0, differs_at dim c cell 0 y0 (used dim) a0.beside h.0 a0.inside),
  )
    where
      used : (dim : Dim) → 0 < axes dim
      used Two = omega arith
      used Three = omega arith
  by_turn (Some (suc zero)) h = inr (
    with_x c (triple (at c 0) y1 (at c 2)),
    next_round (at c 0) y1 (at c 2) (record { shape = refl; level = cell.level; first = cell.first; second = a1.inside; third = cell.third }) (record { level = touches.level; first_low = touches.first_low; first_high = touches.first_high; second_low = a1.low; second_high = a1.high; third_low = touches.third_low; third_high = touches.third_high }) h.1,
    (1, differs_at dim c cell 1 y1 (used dim) a1.beside h.0 a1.inside),
  )
    where
      used : (dim : Dim) → 1 < axes dim
      used Two = omega arith
      used Three = omega arith
  by_turn (Some (suc (suc zero))) h = inr (
    with_x c (triple (at c 0) (at c 1) y2),
    next_round (at c 0) (at c 1) y2 (record { shape = refl; level = cell.level; first = cell.first; second = cell.second; third = a2.inside }) (record { level = touches.level; first_low = touches.first_low; first_high = touches.first_high; second_low = touches.second_low; second_high = touches.second_high; third_low = a2.low; third_high = a2.high }) h.1,
    (2, differs_at dim c cell 2 y2 (used dim cell.third a2.inside) a2.beside h.0 (inside dim a2.inside)),
  )
    where
      used : (dim : Dim) → at c 2 < third_extent dim (3 ^ c.level) → y2 < third_extent dim (3 ^ c.level) → 2 < axes dim
      used Two hx hy = absurd (h.0 (omega arith))
      used Three hx hy = omega arith

      inside : (dim : Dim) → y2 < third_extent dim (3 ^ c.level) → y2 < 3 ^ c.level
      inside Two hy = omega (arith, cell.first)
      inside Three hy = hy
  by_turn (Some (suc (suc (suc i)))) h = absurd h

-- round a vertex a cell is the last, or the next one lies across a face
pub next_across : (dir : Direction) (dim : Dim) (v : VertexKey) (c : CellKey) → IsCell dim c → Touches c v → NoneLaterRound dir dim v c ⊎ ((n : CellKey) × NextRound dir dim v c n × ((i : ℕ) × DifferOn dim i c n))
next_across dir dim v c cell touches =
    let s0 = across (plane v 0) (at c 0) (3 ^ c.level) cell.first touches.first_low touches.first_high in
    let s1 = across (plane v 1) (at c 1) (3 ^ c.level) cell.second touches.second_low touches.second_high in
    let s2 = across (plane v 2) (at c 2) (third_extent dim (3 ^ c.level)) cell.third touches.third_low touches.third_high in
    let turn = some_turn dir dim c.level (at c 0) (at c 1) (at c 2) s0.0 s1.0 s2.0 s0.1.beside s1.1.beside s2.1.beside (cell.first, cell.second, cell.third) (s0.1.inside, s1.1.inside, s2.1.inside) in
    by_turn dir dim v c cell touches s0.0 s1.0 s2.0 s0.1 s1.1 s2.1 turn.0 turn.1

pub run_is_gray : RunIsGray
run_is_gray dir dim v r depth c next h =
    ⊎_elim
    (λ none. absurd (later_up_to dir (rank_of dim c) (rank_of dim next) h.later (none next h.after.cell h.after.touches)))
    (λ found. let n = found.0 in let near = found.1 in let level : next.level ≡ n.level = h.after.touches.level ∙ sym near.touches.level in
    ⊎_elim
    (λ u. absurd (later_up_to dir (rank_of dim c) (rank_of dim next) h.later u))
    (λ u. ⊎_elim
    (λ same. let one : n ≡ next = ranks_tell_apart dim n next near.cell h.after.cell (sym level) same in (found.2.0, subst (λ (q : CellKey). DifferOn dim found.2.0 c q) one found.2.1))
    (λ between. absurd (h.none_between n (record { cell = near.cell; touches = near.touches; held = held_between dim depth r dir c n next (h.before.touches.level ∙ sym near.touches.level) level near.later between h.before.held h.after.held }) near.later between))
    (up_to_split dir (rank_of dim n) (rank_of dim next) u))
    (near.nearest next h.after.cell h.after.touches))
    (next_across dir dim v c h.before.cell h.before.touches)
