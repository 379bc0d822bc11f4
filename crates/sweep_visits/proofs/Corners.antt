-- What a corner of a visited cell moves: by the faces of boxes, and by the run of its vertex.
use Rattle.std.proofs.Common.{◌≡◌, ◌⊎◌, inl, inr, ℕ, ◌+◌, ◌-◌, ◌*◌, ◌≤◌, Bool, true, false, ◌&&◌, if◌then◌else◌, [], ◌∷◌, Option, Some, None, refl, sym, ap, ◌∙◌}
use Rattle.peano_keys.specs.declared.cell.CellKey.{CellKey}
use Rattle.peano_keys.specs.declared.vertex.VertexKey.{VertexKey}
use Rattle.peano_keys.specs.declared.dim.Dim.{Dim}
use Rattle.peano_keys.specs.Dim.{axes}
use Rattle.peano_keys.specs.Vertex.{IsVertex}
use Rattle.peano_curve.specs.declared.order.Direction.{Direction}
use Rattle.peano_curve.specs.declared.range.Range.{Range}
use Rattle.peano_curve.specs.Run.{InRun, IsLast, IsFirst}
use Rattle.stack_law.specs.Boxes.{Axis, Side, Box, first, second, third, low, high, same_axis, same_side, coord, beyond, lane, size}
use Rattle.stack_law.specs.Around as around
use Rattle.stack_law.specs.Domain.{axis_in, cell_in}
use Rattle.stack_law.specs.Order.{IsInDomain, rank}
use Rattle.stack_law.specs.Passings.{over_faces}
use Rattle.stack_law.proofs.Held.{false_if}
use Rattle.stack_law.proofs.Visited.{touches_beyond}
use Rattle.stack_walks.specs.Corners.{Corner, vertex, PassesToNext}
use Rattle.stack_walks.specs.Handing.{goes_on, came_from, ends_at, begins_at}
use Rattle.stack_walks.specs.HandingLaws.{IsOnlyFace, HasOneWay}
use Rattle.stack_walks.proofs.Corners.{neighbour_inside}
use Rattle.stack_walks.proofs.GivenCorners.{and_true}
use Rattle.stack_walks.proofs.Handing.{and_both, touches_vertex, coord_vertex, neighbours_tell_the_run}
use Rattle.stack_walks.proofs.OneWay.{each_corner_has_one_way}
use Rattle.sweep_visits.specs.Plan.{SweepPlan, IsSweepPlan, dim_of, is_kept}
use Rattle.sweep_visits.specs.Runs.{turned_round, next_in_run, previous_in_run, lane_between}
use Rattle.sweep_visits.specs.Moves.{Passing, passing}
use Rattle.sweep_visits.proofs.Places.{direction_of, splits, cell_of, vertex_of, bound, inside_cell}
use Rattle.sweep_visits.proofs.Keyed.{is_flat}
use Rattle.sweep_visits.proofs.Kept.{seen_at, kept_at, kept_unbroken}
use Rattle.sweep_visits.proofs.Next.{later_turned, turned_follows, next_told, none_told}
use Rattle.sweep_visits.proofs.Followers.{in_run, next_follows, last_is, first_is, corner_vertex, lane_is}

-- lists over the faces of which one or none has anything
pub over_none : {V : Type 0} (f : Axis → Side → Bool) (g : Axis → Side → V) → ((i : Axis) (h : Side) → f i h ≡ false) → over_faces (λ i h. if f i h then g i h ∷ [] else []) ≡ []
over_none f g e = rw (e first low, e first high, e second low, e second high, e third low, e third high) refl

same_axis_self : (i : Axis) → same_axis i i ≡ true
same_axis_self first = refl
same_axis_self second = refl
same_axis_self third = refl

same_side_self : (h : Side) → same_side h h ≡ true
same_side_self low = refl
same_side_self high = refl

module _ {V : Type 0} (f : Axis → Side → Bool) (g : Axis → Side → V) where
  other : (i : Axis) (h : Side) → IsOnlyFace f i h → (j : Axis) (k : Side) → (same_axis j i && same_side k h) ≡ false → f j k ≡ false
  other i h only j k n = false_if (f j k) (λ t.
      let e = only.only j k t in
      let a : same_axis j i ≡ true = ap (λ x. same_axis x i) e.0 ∙ same_axis_self i in
      let s : same_side k h ≡ true = ap (λ x. same_side x h) e.1 ∙ same_side_self h in
      let b = and_both _ _ a s in
      absurd (cc))

  pub over_one : (i : Axis) (h : Side) → IsOnlyFace f i h → over_faces (λ i h. if f i h then g i h ∷ [] else []) ≡ g i h ∷ []
  over_one first low o = (let n = other first low o in rw (o.holds, n first high refl, n second low refl, n second high refl, n third low refl, n third high refl) refl)
  over_one first high o = (let n = other first high o in rw (o.holds, n first low refl, n second low refl, n second high refl, n third low refl, n third high refl) refl)
  over_one second low o = (let n = other second low o in rw (o.holds, n first low refl, n first high refl, n second high refl, n third low refl, n third high refl) refl)
  over_one second high o = (let n = other second high o in rw (o.holds, n first low refl, n first high refl, n second low refl, n third low refl, n third high refl) refl)
  over_one third low o = (let n = other third low o in rw (o.holds, n first low refl, n first high refl, n second low refl, n second high refl, n third high refl) refl)
  over_one third high o = (let n = other third high o in rw (o.holds, n first low refl, n first high refl, n second low refl, n second high refl, n third low refl) refl)

-- a passing by its key
abbrev pub name : SweepPlan → ℕ → Box → Box → Passing
name p m v q = passing (vertex_of (dim_of p) p.depth m v) (cell_of (dim_of p) p.depth m q)

-- the one way of a corner, by its faces and by its run
abbrev pub HasWay : Bool → (Axis → Side → Bool) → Option CellKey → VertexKey → CellKey → Box → (Box → CellKey) → Type 0
HasWay ends goes o v c b K = ((ends ≡ true) × ((i : Axis) (h : Side) → goes i h ≡ false) × (o ≡ None)) ⊎ ((ends ≡ false) × ((i : Axis) × (h : Side) × IsOnlyFace goes i h × (o ≡ Some (K (beyond i h b))) × (lane_between v c (K (beyond i h b)) ≡ lane i h b)))

pub first_last : (dir : Direction) (dim : Dim) (v : VertexKey) (r : Range) (depth : ℕ) (c : CellKey) → IsFirst dir dim v r depth c → IsLast (turned_round dir) dim v r depth c
first_last dir dim v r depth c f q m later = f q m (later_turned dir _ _ later)

module _ (p : SweepPlan) (plan : IsSweepPlan p) (kept : VertexKey → Bool) (keeps : (v : VertexKey) → kept v ≡ true → is_kept p v ≡ true) where
  abbrev pub goes : ℕ → Box → Corner → Axis → Side → Bool
  goes = goes_on (direction_of p.dir) (axis_in (axes (dim_of p))) (splits (dim_of p) p.depth) (seen_at p plan) (kept_at (dim_of p) p.depth kept)

  abbrev pub comes : ℕ → Box → Corner → Axis → Side → Bool
  comes = came_from (direction_of p.dir) (axis_in (axes (dim_of p))) (splits (dim_of p) p.depth) (seen_at p plan) (kept_at (dim_of p) p.depth kept)

  abbrev pub ends : ℕ → Box → Corner → Bool
  ends = ends_at (direction_of p.dir) (axis_in (axes (dim_of p))) (splits (dim_of p) p.depth) (seen_at p plan) (kept_at (dim_of p) p.depth kept)

  abbrev pub begins : ℕ → Box → Corner → Bool
  begins = begins_at (direction_of p.dir) (axis_in (axes (dim_of p))) (splits (dim_of p) p.depth) (seen_at p plan) (kept_at (dim_of p) p.depth kept)

  module _ (m : ℕ) (c : cell_in (axes (dim_of p)) m ≡ true) (l : m ≤ axes (dim_of p) * p.depth) (b : Box) (inside : IsInDomain (bound (dim_of p) p.depth m) b) (here : seen_at p plan m b ≡ true) (k : Corner) where
    abbrev w : Box
    w = vertex b k

    abbrev K : Box → CellKey
    K q = cell_of (dim_of p) p.depth m q

    abbrev kv : VertexKey
    kv = vertex_of (dim_of p) p.depth m w

    module _ (stays : kept_at (dim_of p) p.depth kept m w ≡ true) where
      pub keeps_w : is_kept p kv ≡ true
      keeps_w = keeps kv (and_true (is_flat (dim_of p) w) _ stays).1

      pub is_vertex : IsVertex (dim_of p) kv
      is_vertex = corner_vertex (dim_of p) p.depth m b k (inside_cell (dim_of p) p.depth m c l plan.depth b inside) (and_true (is_flat (dim_of p) w) _ stays).0

      pub run : InRun (dim_of p) kv p.range p.depth (K b)
      run = in_run p plan m c l w keeps_w b inside (touches_vertex b k) here

      abbrev tells : PassesToNext (rank (direction_of p.dir) (axis_in (axes (dim_of p))) (splits (dim_of p) p.depth - m) m) (bound (dim_of p) p.depth m) (seen_at p plan m) (kept_at (dim_of p) p.depth kept m) (goes m) (comes m) b
      tells = neighbours_tell_the_run (direction_of p.dir) (axis_in (axes (dim_of p))) (cell_in (axes (dim_of p))) (splits (dim_of p) p.depth) (seen_at p plan) (kept_at (dim_of p) p.depth kept) (kept_unbroken p plan kept keeps) m b c l inside

      pub way_out : HasWay (ends m b k) (goes m b k) (next_in_run p kv (K b)) kv (K b) b K
      way_out =
          let o = each_corner_has_one_way (direction_of p.dir) (axis_in (axes (dim_of p))) (cell_in (axes (dim_of p))) (splits (dim_of p) p.depth) (seen_at p plan) (kept_at (dim_of p) p.depth kept) (kept_unbroken p plan kept keeps) m b k c l inside (and_both _ _ here stays) in
          by o.0 o.2
        where
          by : HasOneWay (ends m b k) (goes m b k) → (ends m b k ≡ true → around.IsLastVisited (rank (direction_of p.dir) (axis_in (axes (dim_of p))) (splits (dim_of p) p.depth - m) m) (bound (dim_of p) p.depth m) (seen_at p plan m) w b) → HasWay (ends m b k) (goes m b k) (next_in_run p kv (K b)) kv (K b) b K
          by (inl e) last = inl (e.0, e.1, none_told p kv is_vertex p.dir (K b) run (last_is p plan m c l w keeps_w b inside (last e.0)))
          by (inr e) last =
              let i = e.1.0 in
              let h = e.1.1 in
              let t = (tells.to_next k i h).0 e.1.2.holds in
              inr (e.0, (i, h, e.1.2, next_told p kv is_vertex p.dir (K b) run (K (beyond i h b)) (next_follows p plan m c l w keeps_w b (beyond i h b) inside (touches_vertex b k) t.3), lane_is (dim_of p) p.depth m b k i h _ t.2 t.1))

      pub way_in : HasWay (begins m b k) (comes m b k) (previous_in_run p kv (K b)) kv (K b) b K
      way_in =
          let o = each_corner_has_one_way (direction_of p.dir) (axis_in (axes (dim_of p))) (cell_in (axes (dim_of p))) (splits (dim_of p) p.depth) (seen_at p plan) (kept_at (dim_of p) p.depth kept) (kept_unbroken p plan kept keeps) m b k c l inside (and_both _ _ here stays) in
          by o.1 o.3
        where
          by : HasOneWay (begins m b k) (comes m b k) → (begins m b k ≡ true → around.IsFirstVisited (rank (direction_of p.dir) (axis_in (axes (dim_of p))) (splits (dim_of p) p.depth - m) m) (bound (dim_of p) p.depth m) (seen_at p plan m) w b) → HasWay (begins m b k) (comes m b k) (previous_in_run p kv (K b)) kv (K b) b K
          by (inl e) start = inl (e.0, e.1, none_told p kv is_vertex (turned_round p.dir) (K b) run (first_last p.dir (dim_of p) kv p.range p.depth (K b) (first_is p plan m c l w keeps_w b inside (start e.0))))
          by (inr e) start =
              let i = e.1.0 in
              let h = e.1.1 in
              let t = (tells.from_before k i h).0 e.1.2.holds in
              let there = neighbour_inside (bound (dim_of p) p.depth m) b i h inside t.2 in
              let plane = ap (λ s. coord i b + size s) (sym t.1) ∙ sym (coord_vertex i b k) in
              let f = next_follows p plan m c l w keeps_w (beyond i h b) b there (touches_beyond w b i h plane (touches_vertex b k)) t.3 in
              inr (e.0, (i, h, e.1.2, next_told p kv is_vertex (turned_round p.dir) (K b) run (K (beyond i h b)) (turned_follows p.dir (dim_of p) kv p.range p.depth (K b) (K (beyond i h b)) f), lane_is (dim_of p) p.depth m b k i h _ t.2 t.1))

    unkept : (a d x : Bool) → d ≡ false → ((a && d) && x) ≡ false
    unkept true d x e = rw e refl
    unkept false d x e = refl

    pub none_goes : kept_at (dim_of p) p.depth kept m w ≡ false → (i : Axis) (h : Side) → goes m b k i h ≡ false
    none_goes e i h = unkept _ _ _ e

    pub none_comes : kept_at (dim_of p) p.depth kept m w ≡ false → (i : Axis) (h : Side) → comes m b k i h ≡ false
    none_comes e i h = unkept _ _ _ e

    pub none_ends : kept_at (dim_of p) p.depth kept m w ≡ false → ends m b k ≡ false
    none_ends e = unkept _ _ _ e

    pub none_begins : kept_at (dim_of p) p.depth kept m w ≡ false → begins m b k ≡ false
    none_begins e = unkept _ _ _ e
