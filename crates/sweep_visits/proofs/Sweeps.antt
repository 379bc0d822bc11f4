-- The moves of a whole sweep: by keys, and by the walk over boxes.
use Rattle.std.proofs.Common.{◌≡◌, ℕ, Bool, true, false, if◌then◌else◌, List, [], ◌∷◌, ◌++◌, map, reverse, flat_map, Option, Some, None, arith, refl, sym, ap, ◌∙◌}
use Rattle.std.specs.List.{AllByRecursion}
use Rattle.peano_keys.specs.declared.cell.CellKey.{CellKey}
use Rattle.peano_keys.specs.declared.vertex.VertexKey.{VertexKey}
use Rattle.peano_keys.specs.Dim.{axes}
use Rattle.peano_keys.specs.Vertex.{corner_of}
use Rattle.stack_law.specs.Boxes as boxes
use Rattle.stack_law.specs.Boxes.{Axis, Box}
use Rattle.stack_law.specs.Visits as box
use Rattle.stack_law.specs.Visits.{visits, walls}
use Rattle.stack_law.specs.Domain.{axis_in, cell_in}
use Rattle.stack_law.specs.Domain as domain
use Rattle.stack_law.specs.Order.{IsRightVisit}
use Rattle.stack_law.specs.Stack.{Event}
use Rattle.stack_law.specs.Walk.{walk, ClosedAreEmpty, HappensAtVisited}
use Rattle.stack_law.specs.Passings.{over_faces}
use Rattle.stack_law.proofs.Ways.{ways_follow_the_order}
use Rattle.stack_law.proofs.Walk.{walk_is}
use Rattle.stack_walks.specs.Corners.{all_corners, vertex, given_at, taken_at, by_corners}
use Rattle.stack_walks.specs.Streams.{taken_in, given_out}
use Rattle.stack_walks.proofs.Corners.{no_flat}
use Rattle.stack_walks.proofs.Streams.{flat_same, flat_each}
use Rattle.sweep_visits.specs.Plan.{SweepPlan, IsSweepPlan, dim_of, corner_numbers, is_visited, is_opened, is_kept, is_stored, is_stored_in}
use Rattle.sweep_visits.specs.Runs.{next_in_run, previous_in_run}
use Rattle.sweep_visits.specs.Visits.{Visit, visits_of}
use Rattle.sweep_visits.specs.Moves.{Passing, arrives, departs, moves_at, moves_of, on_lanes, taken_by, put_by, lane_part, input_part, output_part, corner_in, corner_out}
use Rattle.sweep_visits.proofs.Places.{direction_of, splits, cell_of, vertex_of, inside_cell}
use Rattle.sweep_visits.proofs.Keyed.{open_at, key, walk_by_keys}
use Rattle.sweep_visits.proofs.Closed.{closed_are_empty}
use Rattle.sweep_visits.proofs.Parents.{parents_are_open}
use Rattle.sweep_visits.proofs.Kept.{seen_at, kept_at, inside_flat}
use Rattle.sweep_visits.proofs.Corners.{name, goes, comes, ends, begins}
use Rattle.stack_walks.proofs.Rights.{flat_flat, Right, walk_right}
use Rattle.sweep_visits.proofs.Events.{flat_corners, flat_corners_back, is_new, is_old, keeps_all, keeps_new, keeps_old, out_moves, in_moves, lanes_out, lanes_in, puts_out, takes_in}

flat_mapped : {U V W : Type 0} (g : V → List W) (f : U → V) (xs : List U) → flat_map g (map f xs) ≡ flat_map (λ x. g (f x)) xs
flat_mapped g f [] = refl
flat_mapped g f (x ∷ xs) = ap (λ ys. g (f x) ++ ys) (flat_mapped g f xs)

module _ (p : SweepPlan) (plan : IsSweepPlan p) where
  abbrev pub dir : boxes.Direction
  dir = direction_of p.dir

  abbrev pub axis : ℕ → Axis
  axis = axis_in (axes (dim_of p))

  abbrev pub is_cell : ℕ → Bool
  is_cell = cell_in (axes (dim_of p))

  abbrev pub S : ℕ
  S = splits (dim_of p) p.depth

  abbrev pub opened : ℕ → Box → Bool
  opened = open_at (dim_of p) p.depth (is_visited p) (is_opened p)

  abbrev pub the_walk : List box.Visit
  the_walk = walk dir axis is_cell (seen_at p plan) opened S domain.root walls

  abbrev pub IsRight : box.Visit → Type 0
  IsRight = Right dir axis is_cell (seen_at p plan) opened (IsRightVisit dir axis is_cell S)

  all_right : AllByRecursion IsRight the_walk
  all_right = walk_right dir axis is_cell (seen_at p plan) opened (IsRightVisit dir axis is_cell S) S domain.root walls (ways_follow_the_order dir axis is_cell S)

  pub closed : ClosedAreEmpty axis is_cell S (seen_at p plan) opened
  closed = closed_are_empty (dim_of p) p.depth (is_visited p) (is_opened p) (parents_are_open p plan)

  abbrev pub key_of : box.Visit → Visit
  key_of = key (dim_of p) p.depth (is_visited p) (is_opened p)

  -- what happens in a sweep, by boxes
  pub by_boxes : {A : Type 0} (f : Visit → List A) (g : box.Visit → List A) → ((v : box.Visit) → IsRight v → f (key_of v) ≡ g v) → flat_map f (visits_of p) ≡ flat_map g the_walk
  by_boxes f g e = ap (flat_map f) (sym (walk_by_keys (dim_of p) p.dir p.depth (is_visited p) (is_opened p))) ∙ flat_mapped f key_of the_walk ∙ flat_each IsRight (λ v. f (key_of v)) g e the_walk all_right

  abbrev pub all_kept : (v : VertexKey) → is_kept p v ≡ true → is_kept p v ≡ true
  all_kept = keeps_all p plan

  visit_lanes : (v : box.Visit) → IsRight v → on_lanes (moves_at p (key_of v)) ≡ by_corners Passing (name p) (goes p plan (is_kept p) all_kept) (comes p plan (is_kept p) all_kept) v
  visit_lanes (box.enter m b io) r =
      let c = cell_of (dim_of p) p.depth m b in
      let flat = inside_flat (dim_of p) p.depth m b (inside_cell (dim_of p) p.depth m r.0.cell r.0.level plan.depth b r.0.inside) in
      ap on_lanes (flat_corners_back (dim_of p) p.depth m b (corner_in p c) flat)
      ∙ flat_flat lane_part (in_moves p plan m r.0.cell r.0.level b r.0.inside r.1) (reverse all_corners)
      ∙ flat_same (λ k. on_lanes (in_moves p plan m r.0.cell r.0.level b r.0.inside r.1 k)) (λ k. over_faces (taken_at Passing (name p) (goes p plan (is_kept p) all_kept) (comes p plan (is_kept p) all_kept) m b k)) (λ k. sym (lanes_in p plan m r.0.cell r.0.level b r.0.inside r.1 k)) (reverse all_corners)
  visit_lanes (box.leave m b io) r =
      let c = cell_of (dim_of p) p.depth m b in
      let flat = inside_flat (dim_of p) p.depth m b (inside_cell (dim_of p) p.depth m r.0.cell r.0.level plan.depth b r.0.inside) in
      ap on_lanes (flat_corners (dim_of p) p.depth m b (corner_out p c) flat)
      ∙ flat_flat lane_part (out_moves p plan m r.0.cell r.0.level b r.0.inside r.1) all_corners
      ∙ flat_same (λ k. on_lanes (out_moves p plan m r.0.cell r.0.level b r.0.inside r.1 k)) (λ k. over_faces (given_at Passing (name p) (goes p plan (is_kept p) all_kept) (comes p plan (is_kept p) all_kept) m b k)) (λ k. sym (lanes_out p plan m r.0.cell r.0.level b r.0.inside r.1 k)) all_corners

  corners_quiet : HappensAtVisited (Event Passing) (by_corners Passing (name p) (goes p plan (is_kept p) all_kept) (comes p plan (is_kept p) all_kept)) (seen_at p plan)
  corners_quiet = record {
    enters = λ m b io e. no_flat (λ c. over_faces (taken_at Passing (name p) (goes p plan (is_kept p) all_kept) (comes p plan (is_kept p) all_kept) m b c)) (λ c. rw e refl) (reverse all_corners);
    leaves = λ m b io e. no_flat (λ c. over_faces (given_at Passing (name p) (goes p plan (is_kept p) all_kept) (comes p plan (is_kept p) all_kept) m b c)) (λ c. rw e refl) all_corners;
  }

  -- the lanes' events are those of the full walk over boxes
  pub lanes_by_boxes : on_lanes (moves_of p) ≡ flat_map (by_corners Passing (name p) (goes p plan (is_kept p) all_kept) (comes p plan (is_kept p) all_kept)) (visits dir axis is_cell S domain.root walls)
  lanes_by_boxes =
      flat_flat lane_part (moves_at p) (visits_of p)
      ∙ by_boxes (λ v. on_lanes (moves_at p v)) (by_corners Passing (name p) (goes p plan (is_kept p) all_kept) (comes p plan (is_kept p) all_kept)) visit_lanes
      ∙ walk_is dir axis is_cell (Event Passing) (by_corners Passing (name p) (goes p plan (is_kept p) all_kept) (comes p plan (is_kept p) all_kept)) (seen_at p plan) opened corners_quiet S closed S domain.root walls (omega arith)

  -- the name of a vertex at the streams
  abbrev pub vertex_name : ℕ → Box → VertexKey
  vertex_name m v = vertex_of (dim_of p) p.depth m v

  no_put : (c : CellKey) (v : VertexKey) (t : Bool) (o : Option CellKey) (u : Bool) → is_stored_in p.old v ≡ u → put_by (if t then arrives p v c o else []) ≡ []
  no_put c v true None true e = rw e refl
  no_put c v true None false e = rw e refl
  no_put c v true (Some q) u e = refl
  no_put c v false o u e = refl

  no_take : (c : CellKey) (v : VertexKey) (t : Bool) (o : Option CellKey) (u : Bool) → is_stored p.new v ≡ u → taken_by (if t then departs p v c o else []) ≡ []
  no_take c v true None true e = rw e refl
  no_take c v true None false e = rw e refl
  no_take c v true (Some q) u e = refl
  no_take c v false o u e = refl

  visit_puts : (v : box.Visit) → IsRight v → put_by (moves_at p (key_of v)) ≡ given_out VertexKey vertex_name dir axis S (seen_at p plan) (kept_at (dim_of p) p.depth (is_new p plan)) v
  visit_puts (box.enter m b io) r =
      let c = cell_of (dim_of p) p.depth m b in
      flat_flat output_part (λ n. corner_in p c (corner_of c n)) (reverse (corner_numbers (dim_of p)))
      ∙ no_flat (λ n. put_by (corner_in p c (corner_of c n))) (λ n. no_put c (corner_of c n) (is_kept p (corner_of c n)) (previous_in_run p (corner_of c n) c) (is_stored_in p.old (corner_of c n)) refl) (reverse (corner_numbers (dim_of p)))
  visit_puts (box.leave m b io) r =
      let c = cell_of (dim_of p) p.depth m b in
      let flat = inside_flat (dim_of p) p.depth m b (inside_cell (dim_of p) p.depth m r.0.cell r.0.level plan.depth b r.0.inside) in
      ap put_by (flat_corners (dim_of p) p.depth m b (corner_out p c) flat)
      ∙ flat_flat output_part (out_moves p plan m r.0.cell r.0.level b r.0.inside r.1) all_corners
      ∙ flat_same (λ k. put_by (out_moves p plan m r.0.cell r.0.level b r.0.inside r.1 k)) (λ k. if ends p plan (is_new p plan) (keeps_new p plan) m b k then vertex_name m (vertex b k) ∷ [] else []) (λ k. sym (puts_out p plan m r.0.cell r.0.level b r.0.inside r.1 k)) all_corners

  visit_takes : (v : box.Visit) → IsRight v → taken_by (moves_at p (key_of v)) ≡ taken_in VertexKey vertex_name dir axis S (seen_at p plan) (kept_at (dim_of p) p.depth (is_old p plan)) v
  visit_takes (box.enter m b io) r =
      let c = cell_of (dim_of p) p.depth m b in
      let flat = inside_flat (dim_of p) p.depth m b (inside_cell (dim_of p) p.depth m r.0.cell r.0.level plan.depth b r.0.inside) in
      ap taken_by (flat_corners_back (dim_of p) p.depth m b (corner_in p c) flat)
      ∙ flat_flat input_part (in_moves p plan m r.0.cell r.0.level b r.0.inside r.1) (reverse all_corners)
      ∙ flat_same (λ k. taken_by (in_moves p plan m r.0.cell r.0.level b r.0.inside r.1 k)) (λ k. if begins p plan (is_old p plan) (keeps_old p plan) m b k then vertex_name m (vertex b k) ∷ [] else []) (λ k. sym (takes_in p plan m r.0.cell r.0.level b r.0.inside r.1 k)) (reverse all_corners)
  visit_takes (box.leave m b io) r =
      let c = cell_of (dim_of p) p.depth m b in
      flat_flat input_part (λ n. corner_out p c (corner_of c n)) (corner_numbers (dim_of p))
      ∙ no_flat (λ n. taken_by (corner_out p c (corner_of c n))) (λ n. no_take c (corner_of c n) (is_kept p (corner_of c n)) (next_in_run p (corner_of c n) c) (is_stored p.new (corner_of c n)) refl) (corner_numbers (dim_of p))

  -- the streams are those of the walk over boxes
  pub puts_by_boxes : put_by (moves_of p) ≡ flat_map (given_out VertexKey vertex_name dir axis S (seen_at p plan) (kept_at (dim_of p) p.depth (is_new p plan))) the_walk
  puts_by_boxes = flat_flat output_part (moves_at p) (visits_of p) ∙ by_boxes (λ v. put_by (moves_at p v)) (given_out VertexKey vertex_name dir axis S (seen_at p plan) (kept_at (dim_of p) p.depth (is_new p plan))) visit_puts

  pub takes_by_boxes : taken_by (moves_of p) ≡ flat_map (taken_in VertexKey vertex_name dir axis S (seen_at p plan) (kept_at (dim_of p) p.depth (is_old p plan))) the_walk
  takes_by_boxes = flat_flat input_part (moves_at p) (visits_of p) ∙ by_boxes (λ v. taken_by (moves_at p v)) (taken_in VertexKey vertex_name dir axis S (seen_at p plan) (kept_at (dim_of p) p.depth (is_old p plan))) visit_takes
