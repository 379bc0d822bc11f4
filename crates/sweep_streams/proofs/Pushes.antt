-- What a sweep takes, puts and pushes.
use Rattle.std.proofs.Common.{◌≡◌, inl, inr, ℕ, ◌+◌, ◌-◌, ◌*◌, ◌≤◌, ◌==◌, Bool, true, false, ◌&&◌, if◌then◌else◌, List, [], ◌∷◌, ◌++◌, map, length, reverse, flat_map, leb, leb-true, le-leb, refl, sym, ap, subst, ◌∙◌, arith, eqb-true}
use Rattle.std.specs.List.{sum_by}
use Rattle.std.proofs.lemmas.List.{map-append, length-map}
use Rattle.peano_keys.specs.declared.cell.CellKey.{CellKey}
use Rattle.peano_keys.specs.declared.vertex.VertexKey.{VertexKey}
use Rattle.peano_keys.specs.Dim.{axes}
use Rattle.peano_keys.specs.Vertex.{IsVertex}
use Rattle.peano_keys.specs.Cell.{at}
use Rattle.peano_curve.specs.Splits.{box_of}
use Rattle.stack_law.specs.Boxes.{Axis, Side, Box, first, second, third, low, high, beyond, lane}
use Rattle.stack_law.specs.Around as around
use Rattle.stack_law.specs.Domain as domain
use Rattle.stack_law.specs.Moments.{TellsApart, same_box}
use Rattle.stack_law.specs.Once.{IsIn, left_at}
use Rattle.stack_law.specs.Order.{IsInDomain, IsRightVisit, rank}
use Rattle.stack_law.specs.Passings.{over_faces}
use Rattle.stack_law.specs.Stack.{Event, Step, AreDistinct}
use Rattle.stack_law.specs.Stack as stack
use Rattle.stack_law.specs.Visits as box
use Rattle.stack_law.specs.Visits.{visits, walls}
use Rattle.stack_law.proofs.Chains.{each_in}
use Rattle.stack_law.proofs.Once.{each_cell_once}
use Rattle.stack_law.proofs.Walk.{walk_is}
use Rattle.stack_law.proofs.Ways.{ways_follow_the_order}
use Rattle.stack_walks.specs.Corners.{Corner, all_corners, vertex, given_at, taken_at, by_corners}
use Rattle.stack_walks.specs.Counts.{Kept, kept_vertex, all_given, given_by, is_end, is_corner_of, run_of}
use Rattle.stack_walks.specs.Instances.{lane_events}
use Rattle.stack_walks.specs.Passing.{BoxPassing, box_passing}
use Rattle.stack_walks.specs.Streams.{given_out}
use Rattle.stack_walks.proofs.GivenCorners.{and_true, in_some, same_box_self, same_box_exact}
use Rattle.stack_walks.proofs.Handing.{and_both}
use Rattle.stack_walks.proofs.Instances.{corners_quiet, given_quiet}
use Rattle.stack_walks.proofs.Streams.{flat_same}
use Rattle.stack_walks.proofs.Sums.{pushes_are_runs_less_one as box_pushes}
use Rattle.sweep_visits.specs.Plan.{SweepPlan, IsSweepPlan, dim_of, corner_numbers, is_kept}
use Rattle.sweep_visits.specs.Runs.{held_round}
use Rattle.sweep_visits.specs.Moves.{Passing, Move, take, put, pop, push, moves_of, on_lanes, lane_part, same_vertex, same_cell}
use Rattle.sweep_streams.specs.Counts.{IsHeldVertex, ListsVertices, StreamsAreStored, RunIsHeldRound, PushesAreRunsLessOne, pushed_part, pushed_by}
use Rattle.sweep_visits.proofs.Places.{cell_of, vertex_of, bound}
use Rattle.sweep_visits.proofs.Kept.{seen_at, kept_at, kept_unbroken}
use Rattle.sweep_visits.proofs.Next.{member_in, from_at}
use Rattle.sweep_visits.proofs.Followers.{in_run, run_seen}
use Rattle.sweep_visits.proofs.Corners.{name, goes, comes}
use Rattle.stack_walks.proofs.Rights.{flat_flat}
use Rattle.sweep_visits.proofs.Events.{is_new, is_old, keeps_new, keeps_old}
use Rattle.sweep_visits.proofs.Sweeps.{dir, axis, is_cell, S, opened, closed, the_walk, all_kept, lanes_by_boxes}
use Rattle.sweep_visits.proofs.Same.{vertices_decided, cells_decided}
use Rattle.sweep_streams.proofs.Lists.{sum_same, sum_mapped, sum_members, same_length, ascending_distinct, chosen, in_chosen, chosen_in, chosen_distinct, in_map}
use Rattle.sweep_streams.proofs.Round.{round_distinct}
use Rattle.stack_walks.proofs.Reversed.{in_reverse, to_reverse, distinct_reverse}
use Rattle.sweep_streams.proofs.Once.{map_flat, map_if, from_map, distinct_map, all_each, back, back_plan, puts_given, takes_given, vertex_key}
use Rattle.sweep_streams.proofs.Listed.{given_lists, by_kept, ended}

-- the streams
from_back : (p : SweepPlan) (test : VertexKey → Bool) (v : VertexKey) → IsHeldVertex (back p) test v → IsHeldVertex p test v
from_back p test v h = record { vertex = h.vertex; passes = h.passes; held = h.held }

to_back : (p : SweepPlan) (test : VertexKey → Bool) (v : VertexKey) → IsHeldVertex p test v → IsHeldVertex (back p) test v
to_back p test v h = record { vertex = h.vertex; passes = h.passes; held = h.held }

reversed_lists : (p : SweepPlan) (test : VertexKey → Bool) (xs : List VertexKey) → ListsVertices (back p) test xs → ListsVertices p test (reverse xs)
reversed_lists p test xs h = record { distinct = distinct_reverse same_vertex vertices_decided xs h.distinct; members = λ v. (λ k. from_back p test v ((h.members v).0 (in_reverse v xs k)), λ m. to_reverse v xs ((h.members v).1 (to_back p test v m))) }

pub streams_are_stored : StreamsAreStored
streams_are_stored p plan = (
  subst (ListsVertices p (is_old p plan)) (sym (takes_given p plan)) (reversed_lists p (is_old p plan) _ (given_lists (back p) (back_plan p plan) (is_old (back p) (back_plan p plan)) (keeps_old (back p) (back_plan p plan)))),
  subst (ListsVertices p (is_new p plan)) (sym (puts_given p plan)) (given_lists p plan (is_new p plan) (keeps_new p plan)),
)

pub run_is_held_round : RunIsHeldRound
run_is_held_round p v vertex = (round_distinct p v, λ c. (from_at p v vertex c _, member_in p v c))

-- the cells that touch a vertex, by a test
end_tells : (x v : ℕ) → is_end x v ≡ true → (x ≤ v) × (v ≤ x + 1)
end_tells x v t = (let f = and_true (leb x v) _ t in (leb-true x v f.0, leb-true v (x + 1) f.1))

end_told : (x v : ℕ) → x ≤ v → v ≤ x + 1 → is_end x v ≡ true
end_told x v l m = and_both (leb x v) (leb v (x + 1)) (le-leb x v l) (le-leb v (x + 1) m)

corner_tells : (v b : Box) → is_corner_of v b ≡ true → around.Touches v b
corner_tells v b t first = end_tells b.x0 v.x0 (and_true (is_end b.x0 v.x0) _ t).0
corner_tells v b t second = end_tells b.x1 v.x1 (and_true (is_end b.x1 v.x1) _ (and_true (is_end b.x0 v.x0) _ t).1).0
corner_tells v b t third = end_tells b.x2 v.x2 (and_true (is_end b.x1 v.x1) _ (and_true (is_end b.x0 v.x0) _ t).1).1

corner_told : (v b : Box) → around.Touches v b → is_corner_of v b ≡ true
corner_told v b t = and_both (is_end b.x0 v.x0) (is_end b.x1 v.x1 && is_end b.x2 v.x2) (end_told b.x0 v.x0 (t first).0 (t first).1) (and_both (is_end b.x1 v.x1) (is_end b.x2 v.x2) (end_told b.x1 v.x1 (t second).0 (t second).1) (end_told b.x2 v.x2 (t third).0 (t third).1))

boxes_decided : TellsApart Box same_box
boxes_decided = record { reflexive = same_box_self; exact = same_box_exact }

module _ (p : SweepPlan) (plan : IsSweepPlan p) where
  abbrev all : List box.Visit
  all = visits (dir p plan) (axis p plan) (is_cell p plan) (S p plan) domain.root walls

  right : (w : box.Visit) → IsIn w all → IsRightVisit (dir p plan) (axis p plan) (is_cell p plan) (S p plan) w
  right w h = each_in (λ z. 0) (IsRightVisit (dir p plan) (axis p plan) (is_cell p plan) (S p plan)) w all (ways_follow_the_order (dir p plan) (axis p plan) (is_cell p plan) (S p plan)) h

  -- the run of a vertex over boxes is as long as over keys
  module _ (m : ℕ) (c : is_cell p plan m ≡ true) (l : m ≤ axes (dim_of p) * p.depth) (v : Box) (keeps : is_kept p (vertex_of (dim_of p) p.depth m v) ≡ true) (vertex : IsVertex (dim_of p) (vertex_of (dim_of p) p.depth m v)) where
    abbrev K : Box → CellKey
    K b = cell_of (dim_of p) p.depth m b

    abbrev kv : VertexKey
    kv = vertex_of (dim_of p) p.depth m v

    abbrev lefts : List Box
    lefts = flat_map (left_at m) all

    abbrev round : Box → Bool
    round b = seen_at p plan m b && is_corner_of v b

    left_inside : (b : Box) → IsIn b lefts → IsInDomain (bound (dim_of p) p.depth m) b
    left_inside b h = (let f = in_some (left_at m) b all h in at_visit f.0 (right f.0 f.1) f.2)
      where
        at_visit : (w : box.Visit) → IsRightVisit (dir p plan) (axis p plan) (is_cell p plan) (S p plan) w → IsIn b (left_at m w) → IsInDomain (bound (dim_of p) p.depth m) b
        at_visit (box.enter n d io) r k = absurd k
        at_visit (box.leave n d io) r k = by (n == m) refl k
          where
            by : (t : Bool) → (n == m) ≡ t → IsIn b (if t then d ∷ [] else []) → IsInDomain (bound (dim_of p) p.depth m) b
            by true e (inl is) = subst (IsInDomain (bound (dim_of p) p.depth m)) (sym is) (subst (λ n. IsInDomain (bound (dim_of p) p.depth n) d) (eqb-true n m e) r.inside)
            by true e (inr k) = absurd k
            by false e k = absurd k

    once : AreDistinct same_cell (map K (chosen round lefts))
    once =
        distinct_map same_box boxes_decided same_cell cells_decided K (λ (b : Box). Unit {0}) (λ x y f g e i. record { x0 = at (e i) 0; x1 = at (e i) 1; x2 = at (e i) 2 }) (chosen round lefts) (all_each (λ (b : Box). Unit {0}) (λ b. tt) (chosen round lefts))
        (chosen_distinct round same_box boxes_decided lefts (ascending_distinct same_box boxes_decided (rank (dir p plan) (axis p plan) (S p plan - m) m) lefts (each_cell_once (dir p plan) (axis p plan) (is_cell p plan) (S p plan) m c l).1))

    to_round : (q : CellKey) → IsIn q (map K (chosen round lefts)) → IsIn q (held_round p kv)
    to_round q h =
        let f = from_map K q (chosen round lefts) h in
        let g = chosen_in round f.0 lefts f.1 in
        let t = and_true (seen_at p plan m f.0) _ g.1 in
        subst (λ x. IsIn x (held_round p kv)) (sym f.2) (member_in p kv (K f.0) (in_run p plan m c l v keeps f.0 (left_inside f.0 g.0) (corner_tells v f.0 t.1) t.0))

    from_round : (q : CellKey) → IsIn q (held_round p kv) → IsIn q (map K (chosen round lefts))
    from_round q h =
        let s = run_seen p plan m c l v keeps q (from_at p kv vertex q (corner_numbers (dim_of p)) h) in
        let there = (each_cell_once (dir p plan) (axis p plan) (is_cell p plan) (S p plan) m c l).3 (box_of q) s.inside in
        subst (λ x. IsIn x (map K (chosen round lefts))) s.back (in_map K (box_of q) (chosen round lefts) (in_chosen round (box_of q) lefts there (and_both _ _ s.visited (corner_told v (box_of q) s.touching))))

    run_lengths : length (run_of (dir p plan) (axis p plan) (is_cell p plan) (S p plan) (seen_at p plan) m v) ≡ length (held_round p kv)
    run_lengths = sym (length-map (chosen round lefts) K) ∙ same_length same_cell cells_decided (map K (chosen round lefts)) (held_round p kv) once (round_distinct p kv) to_round from_round

-- events seen through what passes
abbrev step_map : {A B : Type 0} → (A → B) → Step A → Step B
step_map f (stack.push x) = stack.push (f x)
step_map f (stack.pop x) = stack.pop (f x)

abbrev event_map : {A B : Type 0} → (A → B) → Event A → Event B
event_map f e = record { on = e.on; step = step_map f e.step }

over_map : {V W : Type 0} (h : V → W) (g : Axis → Side → List V) → map h (over_faces g) ≡ over_faces (λ i s. map h (g i s))
over_map h g = simp map-append refl

given_mapped : {A B : Type 0} (f : A → B) (es : List (Event A)) → all_given (map (event_map f) es) ≡ map f (all_given es)
given_mapped f [] = refl
given_mapped {A = A} f (e ∷ es) = ap (λ ys. given_by (step_map f e.step) ++ ys) (given_mapped f es) ∙ by e.step
  where
    by : (x : Step A) → given_by (step_map f x) ++ map f (all_given es) ≡ map f (given_by x ++ all_given es)
    by (stack.push x) = refl
    by (stack.pop x) = refl

-- pushes, as events of the lanes
pushed_is : (ms : List Move) → pushed_by ms ≡ all_given (on_lanes ms)
pushed_is ms = sym (flat_flat (λ (e : Event Passing). given_by e.step) lane_part ms ∙ flat_same (λ x. flat_map (λ (e : Event Passing). given_by e.step) (lane_part x)) pushed_part by ms)
  where
    by : (x : Move) → flat_map (λ (e : Event Passing). given_by e.step) (lane_part x) ≡ pushed_part x
    by (take v) = refl
    by (put v) = refl
    by (pop k y) = refl
    by (push k y) = refl

module _ (p : SweepPlan) (plan : IsSweepPlan p) where
  abbrev going : ℕ → Box → Corner → Axis → Side → Bool
  going = goes p plan (is_kept p) (all_kept p plan)

  abbrev coming : ℕ → Box → Corner → Axis → Side → Bool
  coming = comes p plan (is_kept p) (all_kept p plan)

  abbrev every : List box.Visit
  every = visits (dir p plan) (axis p plan) (is_cell p plan) (S p plan) domain.root walls

  -- a passing of boxes by its keys
  abbrev keyed : BoxPassing → Passing
  keyed x = name p x.splits x.vertex x.cell

  abbrev box_events : box.Visit → List (Event BoxPassing)
  box_events = by_corners BoxPassing box_passing going coming

  events_keyed : (w : box.Visit) → by_corners Passing (name p) going coming w ≡ map (event_map keyed) (box_events w)
  events_keyed (box.enter m b io) =
      flat_same (λ c. over_faces (taken_at Passing (name p) going coming m b c)) (λ c. map (event_map keyed) (over_faces (taken_at BoxPassing box_passing going coming m b c))) (λ c. one c) (reverse all_corners)
      ∙ sym (map_flat (event_map keyed) (λ c. over_faces (taken_at BoxPassing box_passing going coming m b c)) (reverse all_corners))
    where
      one : (c : Corner) → over_faces (taken_at Passing (name p) going coming m b c) ≡ map (event_map keyed) (over_faces (taken_at BoxPassing box_passing going coming m b c))
      one c = (let h = λ (i : Axis) (s : Side). map_if (event_map keyed) (coming m b c i s) (record { on = lane i s b; step = stack.pop (box_passing m (vertex b c) b) }) in rw (h first low, h first high, h second low, h second high, h third low, h third high) (sym (over_map (event_map keyed) (taken_at BoxPassing box_passing going coming m b c))))
  events_keyed (box.leave m b io) =
      flat_same (λ c. over_faces (given_at Passing (name p) going coming m b c)) (λ c. map (event_map keyed) (over_faces (given_at BoxPassing box_passing going coming m b c))) (λ c. one c) all_corners
      ∙ sym (map_flat (event_map keyed) (λ c. over_faces (given_at BoxPassing box_passing going coming m b c)) all_corners)
    where
      one : (c : Corner) → over_faces (given_at Passing (name p) going coming m b c) ≡ map (event_map keyed) (over_faces (given_at BoxPassing box_passing going coming m b c))
      one c = (let h = λ (i : Axis) (s : Side). map_if (event_map keyed) (going m b c i s) (record { on = lane i s b; step = stack.push (box_passing m (vertex b c) (beyond i s b)) }) in rw (h first low, h first high, h second low, h second high, h third low, h third high) (sym (over_map (event_map keyed) (given_at BoxPassing box_passing going coming m b c))))

  box_lanes : lane_events (dir p plan) (axis p plan) (is_cell p plan) (S p plan) (seen_at p plan) (opened p plan) (kept_at (dim_of p) p.depth (is_kept p)) ≡ flat_map box_events every
  box_lanes = walk_is (dir p plan) (axis p plan) (is_cell p plan) (Event BoxPassing) box_events (seen_at p plan) (opened p plan) (corners_quiet (dir p plan) (axis p plan) (S p plan) (seen_at p plan) (kept_at (dim_of p) p.depth (is_kept p))) (S p plan) (closed p plan) (S p plan) domain.root walls (omega arith)

  pushes_by_boxes : length (pushed_by (moves_of p)) ≡ length (all_given (lane_events (dir p plan) (axis p plan) (is_cell p plan) (S p plan) (seen_at p plan) (opened p plan) (kept_at (dim_of p) p.depth (is_kept p))))
  pushes_by_boxes =
      ap length (pushed_is (moves_of p) ∙ ap all_given (lanes_by_boxes p plan ∙ flat_same (by_corners Passing (name p) going coming) (λ w. map (event_map keyed) (box_events w)) events_keyed every ∙ sym (map_flat (event_map keyed) box_events every)) ∙ given_mapped keyed (flat_map box_events every))
      ∙ length-map (all_given (flat_map box_events every)) keyed
      ∙ ap (λ es. length (all_given es)) (sym box_lanes)

  abbrev kept_given : box.Visit → List Kept
  kept_given = given_out Kept kept_vertex (dir p plan) (axis p plan) (S p plan) (seen_at p plan) (kept_at (dim_of p) p.depth (is_kept p))

  abbrev runs : Kept → ℕ
  runs k = length (run_of (dir p plan) (axis p plan) (is_cell p plan) (S p plan) (seen_at p plan) k.splits k.vertex) - 1

  abbrev run_at : VertexKey → ℕ
  run_at v = length (held_round p v) - 1

  abbrev to_key : Kept → VertexKey
  to_key = vertex_key p plan (is_kept p) (all_kept p plan)

  box_walk : flat_map kept_given (the_walk p plan) ≡ flat_map kept_given every
  box_walk = walk_is (dir p plan) (axis p plan) (is_cell p plan) Kept kept_given (seen_at p plan) (opened p plan) (given_quiet (dir p plan) (axis p plan) (S p plan) (seen_at p plan) (kept_at (dim_of p) p.depth (is_kept p)) Kept kept_vertex) (S p plan) (closed p plan) (S p plan) domain.root walls (omega arith)

  one_run : (k : Kept) → IsIn k (flat_map kept_given every) → runs k ≡ run_at (to_key k)
  one_run k h = (let e = ended p plan (is_kept p) (all_kept p plan) k h in ap (λ n. n - 1) (run_lengths p plan k.splits e.cell e.low k.vertex e.met.passes e.met.vertex))

  kept_list : ListsVertices p (is_kept p) (map to_key (flat_map kept_given every))
  kept_list = subst (ListsVertices p (is_kept p)) (by_kept p plan (is_kept p) (all_kept p plan)) (given_lists p plan (is_kept p) (all_kept p plan))

  pushes_summed : length (pushed_by (moves_of p)) ≡ sum_by run_at (map to_key (flat_map kept_given every))
  pushes_summed =
      pushes_by_boxes
      ∙ box_pushes (dir p plan) (axis p plan) (is_cell p plan) (S p plan) (seen_at p plan) (kept_at (dim_of p) p.depth (is_kept p)) (kept_unbroken p plan (is_kept p) (all_kept p plan)) (opened p plan) (closed p plan)
      ∙ ap (sum_by runs) box_walk
      ∙ sum_same runs (λ k. run_at (to_key k)) (flat_map kept_given every) one_run
      ∙ sym (sum_mapped run_at to_key (flat_map kept_given every))

  lists_agree : (xs ys : List VertexKey) → ListsVertices p (is_kept p) xs → ListsVertices p (is_kept p) ys → sum_by run_at xs ≡ sum_by run_at ys
  lists_agree xs ys f g = sum_members same_vertex vertices_decided run_at xs ys f.distinct g.distinct (λ v h. (g.members v).1 ((f.members v).0 h)) (λ v h. (f.members v).1 ((g.members v).0 h))

pub pushes_are_runs_less_one : PushesAreRunsLessOne
pushes_are_runs_less_one p plan = (
  (map (to_key p plan) (flat_map (kept_given p plan) (every p plan)), kept_list p plan),
  λ vs lists. pushes_summed p plan ∙ lists_agree p plan _ vs (kept_list p plan) lists,
)
