-- The next of the visited cells round a kept vertex, as boxes and as keys.
use Rattle.std.proofs.Common.{◌≡◌, ℕ, ◌+◌, ◌-◌, ◌*◌, ◌/◌, ◌^◌, ◌<◌, ◌≤◌, Bool, true, arith, refl, sym, ap, subst, ◌∙◌, eq-eqb, eqb-true, ne_eqb}
use Rattle.peano_keys.specs.declared.cell.CellKey.{CellKey}
use Rattle.peano_keys.specs.declared.vertex.VertexKey.{VertexKey}
use Rattle.peano_keys.specs.declared.dim.Dim.{Dim}
use Rattle.peano_keys.specs.declared.dim.Dim.TheVariants.{Two, Three}
use Rattle.peano_keys.specs.Dim.{axes, third_end}
use Rattle.peano_keys.specs.Cell.{IsCell}
use Rattle.peano_keys.specs.Vertex.{IsVertex}
use Rattle.peano_curve.specs.Run.{CellLater, InRun, Follows, IsLast, IsFirst}
use Rattle.peano_curve.specs.Splits.{box_of}
use Rattle.stack_law.specs.Boxes.{Axis, Side, Box, first, second, third, low, high, coord, beyond, lane, size}
use Rattle.stack_law.specs.Around as around
use Rattle.stack_law.specs.Around.{IsNext, IsLastVisited, IsFirstVisited}
use Rattle.stack_law.specs.Domain.{cell_in}
use Rattle.stack_law.specs.Order.{IsInDomain, IsInner}
use Rattle.stack_walks.specs.Corners.{Corner, side_on, vertex}
use Rattle.stack_walks.proofs.GivenCorners.{and_true}
use Rattle.stack_walks.proofs.Handing.{and_both}
use Rattle.sweep_visits.specs.Plan.{SweepPlan, IsSweepPlan, dim_of, is_held, is_visited, is_opened, is_kept}
use Rattle.sweep_visits.specs.Runs.{lane_between}
use Rattle.sweep_visits.proofs.Places.{cell_of, vertex_of, place, bound, inside_cell, cell_inside, cell_back, touches_keys, touches_boxes, place_later, later_place}
use Rattle.sweep_visits.proofs.Keyed.{is_flat, visited_here}
use Rattle.sweep_visits.proofs.Kept.{dim, seen_at, seen_tells, kept_cell, inside_flat}
use Rattle.sweep_visits.proofs.Tests.{held_tells, held_told}

module _ (p : SweepPlan) (plan : IsSweepPlan p) (m : ℕ) (c : cell_in (axes (dim_of p)) m ≡ true) (l : m ≤ axes (dim_of p) * p.depth) where
  abbrev K : Box → CellKey
  K b = cell_of (dim_of p) p.depth m b

  abbrev bd : Axis → ℕ
  bd = bound (dim_of p) p.depth m

  abbrev pl : Box → ℕ
  pl = place (dim_of p) p.depth p.dir m

  abbrev seen : Box → Bool
  seen = seen_at p plan m

  module _ (v : Box) (keeps : is_kept p (vertex_of (dim_of p) p.depth m v) ≡ true) where
    abbrev kv : VertexKey
    kv = vertex_of (dim_of p) p.depth m v

    -- a visited cell round the vertex is one of its run
    pub in_run : (b : Box) → IsInDomain bd b → around.Touches v b → seen b ≡ true → InRun (dim_of p) kv p.range p.depth (K b)
    in_run b inside t h = record { cell = inside_cell (dim_of p) p.depth m c l plan.depth b inside; touches = touches_keys (dim_of p) p.depth m c l v b t; held = held_tells p (K b) (and_true (is_held p (K b)) _ (seen_tells p plan m b h)).0 }

    -- and the other way round
    pub record IsSeen (q : CellKey) : Type 0 where
      pub back : K (box_of q) ≡ q
      pub inside : IsInDomain bd (box_of q)
      pub touching : around.Touches v (box_of q)
      pub visited : seen (box_of q) ≡ true

    pub run_seen : (q : CellKey) → InRun (dim_of p) kv p.range p.depth q → IsSeen q
    run_seen q r =
        let back = cell_back (dim_of p) p.depth m c l q r.cell r.touches.level in
        let cell = subst (IsCell (dim_of p)) (sym back) r.cell in
        let there : is_visited p q ≡ true = and_both _ _ (held_told p q r.held) (kept_cell p plan kv q keeps r.cell r.touches) in
        record {
          back = back;
          inside = cell_inside (dim_of p) p.depth m c l q r.cell r.touches.level;
          touching = touches_boxes (dim_of p) p.depth m c l v q r.touches;
          visited = visited_here (dim_of p) p.depth (is_visited p) (is_opened p) m (box_of q) c l (inside_flat (dim_of p) p.depth m (box_of q) cell) ∙ ap (is_visited p) back ∙ there;
        }

    -- a later cell of the run is a later box
    later_seen : (b : Box) (q : CellKey) → IsInDomain bd b → IsSeen q → CellLater p.dir (dim_of p) (K b) q → pl b < pl (box_of q)
    later_seen b q inside s h = later_place (dim_of p) p.depth m c l plan.depth p.dir b (box_of q) inside s.inside (subst (λ x. CellLater p.dir (dim_of p) (K b) x) (sym s.back) h)

    seen_later : (b : Box) (q : CellKey) → IsInDomain bd b → IsSeen q → CellLater p.dir (dim_of p) q (K b) → pl (box_of q) < pl b
    seen_later b q inside s h = later_place (dim_of p) p.depth m c l plan.depth p.dir (box_of q) b s.inside inside (subst (λ x. CellLater p.dir (dim_of p) x (K b)) (sym s.back) h)

    pub next_follows : (a b : Box) → IsInDomain bd a → around.Touches v a → IsNext pl bd seen v a b → Follows p.dir (dim_of p) kv p.range p.depth (K a) (K b)
    next_follows a b inside t n = record {
      before = in_run a inside t n.from;
      after = in_run b n.inside n.touching n.to;
      later = place_later (dim_of p) p.depth m c l plan.depth p.dir a b inside n.inside n.later;
      none_between = λ q r after_a before_b.
          let s = run_seen q r in
          let up = n.next (box_of q) s.inside s.touching s.visited (later_seen a q inside s after_a) in
          let down = seen_later b q n.inside s before_b in
          absurd (omega arith);
    }

    pub last_is : (b : Box) → IsInDomain bd b → IsLastVisited pl bd seen v b → IsLast p.dir (dim_of p) kv p.range p.depth (K b)
    last_is b inside last q r h =
        let s = run_seen q r in
        let up = last (box_of q) s.inside s.touching s.visited in
        let down = later_seen b q inside s h in
        absurd (omega arith)

    pub first_is : (b : Box) → IsInDomain bd b → IsFirstVisited pl bd seen v b → IsFirst p.dir (dim_of p) kv p.range p.depth (K b)
    first_is b inside start q r h =
        let s = run_seen q r in
        let up = start (box_of q) s.inside s.touching s.visited in
        let down = seen_later b q inside s h in
        absurd (omega arith)

-- a flat corner of a cell is a vertex
vertex_third : (dim : Dim) (depth m : ℕ) (b : Box) (k : Corner) → IsCell dim (cell_of dim depth m b) → is_flat dim (vertex b k) ≡ true → size k.s2 ≤ 1 → b.x2 + size k.s2 ≤ third_end dim (3 ^ (depth - m / axes dim))
vertex_third Two depth m b k cell flat s = omega (arith, eqb-true (b.x2 + size k.s2) 0 flat)
vertex_third Three depth m b k cell flat s = omega (arith, cell.third)

size_small : (s : Side) → size s ≤ 1
size_small low = omega arith
size_small high = omega arith

pub corner_vertex : (dim : Dim) (depth m : ℕ) (b : Box) (k : Corner) → IsCell dim (cell_of dim depth m b) → is_flat dim (vertex b k) ≡ true → IsVertex dim (vertex_of dim depth m (vertex b k))
corner_vertex dim depth m b k cell flat = record { shape = refl; level = cell.level; first = omega (arith, cell.first, size_small k.s0); second = omega (arith, cell.second, size_small k.s1); third = vertex_third dim depth m b k cell flat (size_small k.s2) }

-- the lane of a face is that of the two cells
pub lane_is : (dim : Dim) (depth m : ℕ) (b : Box) (k : Corner) (i : Axis) (h : Side) (e : ℕ) → IsInner h (coord i b) e → side_on i k ≡ h → lane_between (vertex_of dim depth m (vertex b k)) (cell_of dim depth m b) (cell_of dim depth m (beyond i h b)) ≡ lane i h b
lane_is dim depth m b k first low e l s = rw (ne_eqb b.x0 (b.x0 - 1) (λ f. omega arith), s) refl
lane_is dim depth m b k first high e l s = rw (ne_eqb b.x0 (b.x0 + 1) (λ f. omega arith), s) refl
lane_is dim depth m b k second low e l s = rw (eq-eqb b.x0 b.x0 refl, ne_eqb b.x1 (b.x1 - 1) (λ f. omega arith), s) refl
lane_is dim depth m b k second high e l s = rw (eq-eqb b.x0 b.x0 refl, ne_eqb b.x1 (b.x1 + 1) (λ f. omega arith), s) refl
lane_is dim depth m b k third low e l s = rw (eq-eqb b.x0 b.x0 refl, eq-eqb b.x1 b.x1 refl, s) refl
lane_is dim depth m b k third high e l s = rw (eq-eqb b.x0 b.x0 refl, eq-eqb b.x1 b.x1 refl, s) refl
