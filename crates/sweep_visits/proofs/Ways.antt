-- Each corner has one way out and one way in.
use Rattle.std.proofs.Common.{◌+◌, ◌≤◌, ◌≡◌, ◌≢◌, inl, inr, ℕ, zero, suc, ◌^◌, ◌<◌, Bool, true, false, List, [], ◌∷◌, Option, Some, None, refl, sym, ap, subst, ◌∙◌, arith, eq-eqb, ne_eqb}
use Rattle.std.specs.Prelude.{MatchOption}
use Rattle.peano_keys.specs.declared.cell.CellKey.{CellKey}
use Rattle.peano_keys.specs.declared.vertex.VertexKey.{VertexKey}
use Rattle.peano_keys.specs.declared.dim.Dim.{Dim}
use Rattle.peano_keys.specs.declared.dim.Dim.TheVariants.{Two, Three}
use Rattle.peano_keys.specs.Dim.{axes, corners, third_end}
use Rattle.peano_keys.specs.Cell.{IsCell, at}
use Rattle.peano_keys.specs.Vertex.{IsVertex, bit_of}
use Rattle.peano_keys.proofs.Faces.{Next, with_x, placed, neighbour_next}
use Rattle.peano_curve.specs.Run.{InRun, Follows, IsLast, IsFirst, DifferOn, lane_from}
use Rattle.peano_curve.proofs.Gray.{run_is_gray}
use Rattle.sweep_visits.specs.Plan.{SweepPlan, dim_of, is_kept}
use Rattle.sweep_visits.specs.Runs.{turned_round, next_in_run, previous_in_run, axis_between, lane_between}
use Rattle.sweep_visits.specs.Moves.{Move, pop, push, passing, arrives, departs, corner_in, corner_out}
use Rattle.sweep_visits.specs.Ways.{Departs, Arrives, EachCornerHasOneWay, TestsAreExact, CornersHaveRuns}
use Rattle.sweep_visits.proofs.Next.{next_is_of_the_run, next_told, none_told, turned_follows}
use Rattle.sweep_visits.proofs.Corners.{first_last}
use Rattle.sweep_visits.proofs.Tests.{held_tells, held_told, stored_tells, stored_told}

not_next : (up : Bool) (e x y : ℕ) → Next up e x y → x ≢ y
not_next true e x y n = λ q. (let r = n.0 in omega arith)
not_next false e x y n = λ q. omega (arith, n)

axis_at : (c q : CellKey) (axis y : ℕ) (up : Bool) (e : ℕ) → axis < 3 → Next up e (at c axis) y → q ≡ with_x c (placed c axis y) → axis_between c q ≡ axis
axis_at c q zero y up e h n is = rw (is, ne_eqb (at c 0) y (not_next up e (at c 0) y n)) refl
axis_at c q (suc zero) y up e h n is = rw (is, eq-eqb (at c 0) (at c 0) refl, ne_eqb (at c 1) y (not_next up e (at c 1) y n)) refl
axis_at c q (suc (suc zero)) y up e h n is = rw (is, eq-eqb (at c 0) (at c 0) refl, eq-eqb (at c 1) (at c 1) refl) refl
axis_at c q (suc (suc (suc i))) y up e h n is = absurd (omega arith)

axes_below : (dim : Dim) (i : ℕ) → i < axes dim → i < 3
axes_below Two i h = omega arith
axes_below Three i h = omega arith

pub lane_of_axis : (dim : Dim) (v : VertexKey) (c q : CellKey) (axis : ℕ) → IsCell dim c → DifferOn dim axis c q → lane_between v c q ≡ lane_from v axis
lane_of_axis dim v c q axis cell d =
    let n = neighbour_next d.high axis c q cell.shape d.across in
    ap (lane_from v) (axis_at c q axis n.0 d.high (3 ^ c.level) (axes_below dim axis d.in_use) n.1 n.2)

module _ (p : SweepPlan) (v : VertexKey) (c : CellKey) (vertex : IsVertex (dim_of p) v) (here : InRun (dim_of p) v p.range p.depth c) (kept : is_kept p v ≡ true) where
  out_is : corner_out p c v ≡ departs p v c (next_in_run p v c)
  out_is = rw kept refl

  in_is : corner_in p c v ≡ arrives p v c (previous_in_run p v c)
  in_is = rw kept refl

  out_tells : (o : Option CellKey) → MatchOption o (IsLast p.dir (dim_of p) v p.range p.depth c) (λ q. Follows p.dir (dim_of p) v p.range p.depth c q) → Departs p v c (departs p v c o)
  out_tells None h = inl (h, refl)
  out_tells (Some q) f =
      let g = run_is_gray p.dir (dim_of p) v p.range p.depth c q f in
      inr (q, g.0, f, g.1, ap (λ k. push k (passing v q) ∷ []) (lane_of_axis (dim_of p) v c q g.0 here.cell g.1))

  in_tells : (o : Option CellKey) → MatchOption o (IsFirst p.dir (dim_of p) v p.range p.depth c) (λ q. Follows p.dir (dim_of p) v p.range p.depth q c) → Arrives p v c (arrives p v c o)
  in_tells None h = inl (h, refl)
  in_tells (Some q) f =
      let g = run_is_gray (turned_round p.dir) (dim_of p) v p.range p.depth c q (turned_follows p.dir (dim_of p) v p.range p.depth c q f) in
      inr (q, g.0, f, g.1, ap (λ k. pop k (passing v c) ∷ []) (lane_of_axis (dim_of p) v c q g.0 here.cell g.1))

  out_told : (ms : List Move) → Departs p v c ms → ms ≡ corner_out p c v
  out_told ms (inl h) = h.1 ∙ ap (departs p v c) (sym (none_told p v vertex p.dir c here h.0)) ∙ sym out_is
  out_told ms (inr h) = h.4 ∙ ap (λ k. push k (passing v h.0) ∷ []) (sym (lane_of_axis (dim_of p) v c h.0 h.1 here.cell h.3)) ∙ ap (departs p v c) (sym (next_told p v vertex p.dir c here h.0 h.2)) ∙ sym out_is

  in_told : (ms : List Move) → Arrives p v c ms → ms ≡ corner_in p c v
  in_told ms (inl h) = h.1 ∙ ap (arrives p v c) (sym (none_told p v vertex (turned_round p.dir) c here (first_last p.dir (dim_of p) v p.range p.depth c h.0))) ∙ sym in_is
  in_told ms (inr h) = h.4 ∙ ap (λ k. pop k (passing v c) ∷ []) (sym (lane_of_axis (dim_of p) v c h.0 h.1 here.cell h.3)) ∙ ap (arrives p v c) (sym (next_told p v vertex (turned_round p.dir) c here h.0 (turned_follows p.dir (dim_of p) v p.range p.depth c h.0 h.2))) ∙ sym in_is

pub each_corner_has_one_way : EachCornerHasOneWay
each_corner_has_one_way p v c vertex here kept = (
  λ ms. (out_told p v c vertex here kept ms, λ e. subst (Departs p v c) (sym (e ∙ out_is p v c vertex here kept)) (out_tells p v c vertex here kept (next_in_run p v c) (next_is_of_the_run p v c vertex here).0)),
  λ ms. (in_told p v c vertex here kept ms, λ e. subst (Arrives p v c) (sym (e ∙ in_is p v c vertex here kept)) (in_tells p v c vertex here kept (previous_in_run p v c) (next_is_of_the_run p v c vertex here).1)),
)

pub tests_are_exact : TestsAreExact
tests_are_exact = ((λ p c. (held_tells p c, held_told p c)), (λ t v vertex. (stored_tells t v, stored_told t v vertex)))

third_corner : (dim : Dim) (c : CellKey) (n : ℕ) → IsCell dim c → n < corners dim → at c 2 + bit_of n 2 ≤ third_end dim (3 ^ c.level)
third_corner Two c n cell h = omega (arith, cell.third)
third_corner Three c n cell h = omega (arith, cell.third)

pub corners_have_runs : CornersHaveRuns
corners_have_runs p c n cell held h =
    let a : bit_of n 0 ≤ 1 = omega arith in
    let b : bit_of n 1 ≤ 1 = omega arith in
    let d : bit_of n 2 ≤ 1 = omega arith in (
      record { shape = refl; level = cell.level; first = omega (arith, cell.first); second = omega (arith, cell.second); third = third_corner (dim_of p) c n cell h },
      record { cell = cell; touches = record { level = refl; first_low = omega arith; first_high = omega arith; second_low = omega arith; second_high = omega arith; third_low = omega arith; third_high = omega arith }; held = held_tells p c held },
    )
