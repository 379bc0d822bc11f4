-- No vertex is taken twice, and none is put twice.
use Rattle.std.proofs.Common.{◌≡◌, ℕ, ◌-◌, ◌*◌, ◌/◌, ◌≤◌, Bool, true, false, if◌then◌else◌, List, [], ◌∷◌, ◌++◌, map, reverse, flat_map, refl, sym, ap, subst, ◌∙◌, arith, inl, inr}
use Rattle.std.specs.List.{AllByRecursion}
use Rattle.std.proofs.lemmas.List.{map-append}
use Rattle.peano_keys.specs.declared.vertex.VertexKey.{VertexKey}
use Rattle.peano_keys.specs.Dim.{axes}
use Rattle.peano_keys.specs.Vertex.{plane}
use Rattle.peano_curve.specs.declared.order.Direction.{Direction}
use Rattle.peano_curve.specs.declared.order.Direction.TheVariants.{Forward, Backward}
use Rattle.stack_law.specs.Boxes as boxes
use Rattle.stack_law.specs.Boxes.{Axis, Box}
use Rattle.stack_law.specs.Domain.{cell_in}
use Rattle.stack_law.specs.Domain as domain
use Rattle.stack_law.specs.Moments.{TellsApart}
use Rattle.stack_law.specs.Once.{IsIn}
use Rattle.stack_law.specs.Order.{IsRightVisit}
use Rattle.stack_law.specs.Stack.{AreDistinct}
use Rattle.stack_law.specs.Visits as box
use Rattle.stack_law.specs.Visits.{visits, walls}
use Rattle.stack_law.specs.Walk.{HappensAtVisited}
use Rattle.stack_law.proofs.Chains.{each_in}
use Rattle.stack_law.proofs.Distinct.{apart_from, not_in}
use Rattle.stack_law.proofs.Walk.{walk_is}
use Rattle.stack_law.proofs.Ways.{ways_follow_the_order}
use Rattle.stack_walks.specs.Corners.{all_corners, vertex, Corner}
use Rattle.stack_walks.specs.Counts.{Kept, kept_vertex, same_kept}
use Rattle.stack_walks.specs.Handing.{begins_at}
use Rattle.stack_walks.specs.Streams.{taken_in, given_out}
use Rattle.stack_walks.proofs.Corners.{no_flat}
use Rattle.stack_walks.proofs.Ends.{each_vertex_ends_once, kept_decided}
use Rattle.stack_walks.proofs.Instances.{given_quiet}
use Rattle.stack_walks.proofs.Reversed.{distinct_reverse}
use Rattle.stack_walks.proofs.Streams.{flat_same, output_turned_is_input}
use Rattle.sweep_visits.specs.Plan.{SweepPlan, IsSweepPlan, dim_of, is_kept}
use Rattle.sweep_visits.specs.Runs.{turned_round}
use Rattle.sweep_visits.specs.Moves.{moves_of, taken_by, put_by, same_vertex}
use Rattle.sweep_streams.specs.Streams.{NoneTakenTwice}
use Rattle.sweep_visits.proofs.Places.{direction_of, whole, above}
use Rattle.sweep_visits.proofs.Kept.{seen_at, kept_at, kept_unbroken}
use Rattle.sweep_visits.proofs.Corners.{ends}
use Rattle.sweep_visits.proofs.Events.{is_new, is_old, keeps_new, keeps_old}
use Rattle.stack_walks.proofs.Rights.{all_join}
use Rattle.sweep_visits.proofs.Same.{vertices_decided}
use Rattle.sweep_visits.proofs.Sweeps.{dir, axis, is_cell, S, opened, closed, vertex_name, puts_by_boxes, takes_by_boxes}

-- items seen through a function
pub map_flat : {U V W : Type 0} (f : V → W) (g : U → List V) (xs : List U) → map f (flat_map g xs) ≡ flat_map (λ x. map f (g x)) xs
map_flat f g [] = refl
map_flat f g (x ∷ xs) = map-append f (g x) (flat_map g xs) ∙ ap (λ ys. map f (g x) ++ ys) (map_flat f g xs)

pub map_if : {V W : Type 0} (f : V → W) (t : Bool) (x : V) → (if t then f x ∷ [] else []) ≡ map f (if t then x ∷ [] else [])
map_if f true x = refl
map_if f false x = refl

all_flat : {U V : Type 0} (P : U → Type 0) (Q : V → Type 0) (f : U → List V) → ((x : U) → P x → AllByRecursion Q (f x)) → (xs : List U) → AllByRecursion P xs → AllByRecursion Q (flat_map f xs)
all_flat P Q f h [] k = tt
all_flat P Q f h (x ∷ xs) k = all_join Q (f x) (flat_map f xs) (h x k.0) (all_flat P Q f h xs k.1)

pub all_each : {U : Type 0} (P : U → Type 0) → ((x : U) → P x) → (xs : List U) → AllByRecursion P xs
all_each P h [] = tt
all_each P h (x ∷ xs) = (h x, all_each P h xs)

pub from_map : {V W : Type 0} (f : V → W) (y : W) (xs : List V) → IsIn y (map f xs) → (x : V) × IsIn x xs × (y ≡ f x)
from_map f y [] k = absurd k
from_map f y (x ∷ xs) (inl e) = (x, inl refl, e)
from_map f y (x ∷ xs) (inr k) = (let g = from_map f y xs k in (g.0, inr g.1, g.2))

module _ {V W : Type 0} (same : V → V → Bool) (decides : TellsApart V same) (like : W → W → Bool) (tells : TellsApart W like) (f : V → W) (Good : V → Type 0) (injective : (x y : V) → Good x → Good y → f x ≡ f y → x ≡ y) where
  pub distinct_map : (xs : List V) → AllByRecursion Good xs → AreDistinct same xs → AreDistinct like (map f xs)
  distinct_map [] g d = tt
  distinct_map (x ∷ xs) g d = (
    apart_from W like tells.reflexive tells.exact (f x) (map f xs) (λ k.
        let h = from_map f (f x) xs k in
        let e = injective x h.0 g.0 (each_in (λ y. 0) Good h.0 xs g.1 h.1) h.2 in
        not_in V same decides.reflexive decides.exact x xs d.0 (subst (λ y. IsIn y xs) (sym e) h.1)),
    distinct_map xs g.1 d.1,
  )

-- what a sweep gives to its output, for any of the kept vertices
module _ (p : SweepPlan) (plan : IsSweepPlan p) (kept : VertexKey → Bool) (keeps : (v : VertexKey) → kept v ≡ true → is_kept p v ≡ true) where
  abbrev pub vs : List box.Visit
  vs = visits (dir p plan) (axis p plan) (is_cell p plan) (S p plan) domain.root walls

  abbrev ends_here : ℕ → Box → Corner → Bool
  ends_here = ends p plan kept keeps

  -- a vertex of a cell's level
  abbrev IsWhole : Kept → Type 0
  IsWhole k = (cell_in (axes (dim_of p)) k.splits ≡ true) × (k.splits ≤ axes (dim_of p) * p.depth)

  abbrev pub vertex_key : Kept → VertexKey
  vertex_key k = vertex_name p plan k.splits k.vertex

  level_back : (m : ℕ) → cell_in (axes (dim_of p)) m ≡ true → m ≤ axes (dim_of p) * p.depth → m ≡ axes (dim_of p) * (p.depth - (p.depth - m / axes (dim_of p)))
  level_back m c l =
      let low = (above (dim_of p) p.depth m c l).1 in
      let e : m / axes (dim_of p) ≡ p.depth - (p.depth - m / axes (dim_of p)) = omega arith in
      whole (dim_of p) m c ∙ ap (λ k. axes (dim_of p) * k) e

  key_injective : (x y : Kept) → IsWhole x → IsWhole y → vertex_key x ≡ vertex_key y → x ≡ y
  key_injective x y hx hy e =
      let m = level_back x.splits hx.0 hx.1 ∙ ap (λ (v : VertexKey). axes (dim_of p) * (p.depth - v.level)) e ∙ sym (level_back y.splits hy.0 hy.1) in
      λ i. record { splits = m i; vertex = record { x0 = plane (e i) 0; x1 = plane (e i) 1; x2 = plane (e i) 2 } }

  pub given_keys : (v : box.Visit) → given_out VertexKey (vertex_name p plan) (dir p plan) (axis p plan) (S p plan) (seen_at p plan) (kept_at (dim_of p) p.depth kept) v ≡ map vertex_key (given_out Kept kept_vertex (dir p plan) (axis p plan) (S p plan) (seen_at p plan) (kept_at (dim_of p) p.depth kept) v)
  given_keys (box.enter m b io) = refl
  given_keys (box.leave m b io) =
      flat_same (λ c. if ends_here m b c then vertex_name p plan m (vertex b c) ∷ [] else []) (λ c. map vertex_key (if ends_here m b c then kept_vertex m (vertex b c) ∷ [] else [])) (λ c. map_if vertex_key (ends_here m b c) (kept_vertex m (vertex b c))) all_corners
      ∙ sym (map_flat vertex_key (λ c. if ends_here m b c then kept_vertex m (vertex b c) ∷ [] else []) all_corners)

  given_whole : (v : box.Visit) → IsRightVisit (dir p plan) (axis p plan) (is_cell p plan) (S p plan) v → AllByRecursion IsWhole (given_out Kept kept_vertex (dir p plan) (axis p plan) (S p plan) (seen_at p plan) (kept_at (dim_of p) p.depth kept) v)
  given_whole (box.enter m b io) r = tt
  given_whole (box.leave m b io) r = all_flat (λ (c : Corner). Unit {0}) IsWhole (λ c. if ends_here m b c then kept_vertex m (vertex b c) ∷ [] else []) (λ c u. one c (ends_here m b c)) all_corners (all_each (λ (c : Corner). Unit {0}) (λ c. tt) all_corners)
    where
      one : (c : Corner) (t : Bool) → AllByRecursion IsWhole (if t then kept_vertex m (vertex b c) ∷ [] else [])
      one c true = ((r.cell, r.level), tt)
      one c false = tt

  pub given_distinct : AreDistinct same_vertex (flat_map (given_out VertexKey (vertex_name p plan) (dir p plan) (axis p plan) (S p plan) (seen_at p plan) (kept_at (dim_of p) p.depth kept)) vs)
  given_distinct =
      let ones = flat_map (given_out Kept kept_vertex (dir p plan) (axis p plan) (S p plan) (seen_at p plan) (kept_at (dim_of p) p.depth kept)) vs in
      subst (AreDistinct same_vertex)
      (map_flat vertex_key (given_out Kept kept_vertex (dir p plan) (axis p plan) (S p plan) (seen_at p plan) (kept_at (dim_of p) p.depth kept)) vs ∙ sym (flat_same (given_out VertexKey (vertex_name p plan) (dir p plan) (axis p plan) (S p plan) (seen_at p plan) (kept_at (dim_of p) p.depth kept)) (λ v. map vertex_key (given_out Kept kept_vertex (dir p plan) (axis p plan) (S p plan) (seen_at p plan) (kept_at (dim_of p) p.depth kept) v)) given_keys vs))
      (distinct_map same_kept kept_decided same_vertex vertices_decided vertex_key IsWhole key_injective ones
      (all_flat (IsRightVisit (dir p plan) (axis p plan) (is_cell p plan) (S p plan)) IsWhole (given_out Kept kept_vertex (dir p plan) (axis p plan) (S p plan) (seen_at p plan) (kept_at (dim_of p) p.depth kept)) given_whole vs (ways_follow_the_order (dir p plan) (axis p plan) (is_cell p plan) (S p plan)))
      (each_vertex_ends_once (dir p plan) (axis p plan) (is_cell p plan) (S p plan) (seen_at p plan) (kept_at (dim_of p) p.depth kept) (kept_unbroken p plan kept keeps)).0)

-- the sweep the other way
abbrev pub back : SweepPlan → SweepPlan
back p = record { depth = p.depth; range = p.range; dir = turned_round p.dir; old = p.old; new = p.new }

pub back_plan : (p : SweepPlan) → IsSweepPlan p → IsSweepPlan (back p)
back_plan p plan = record { depth = plan.depth; old = plan.old; new = plan.new }

pub turned_back : (d : Direction) → boxes.turned_round (direction_of (turned_round d)) ≡ direction_of d
turned_back Forward = refl
turned_back Backward = refl

module _ (p : SweepPlan) (plan : IsSweepPlan p) where
  taken_quiet : HappensAtVisited VertexKey (taken_in VertexKey (vertex_name p plan) (dir p plan) (axis p plan) (S p plan) (seen_at p plan) (kept_at (dim_of p) p.depth (is_old p plan))) (seen_at p plan)
  taken_quiet = record { enters = λ m b io e. no_flat (λ c. if begins_at (dir p plan) (axis p plan) (S p plan) (seen_at p plan) (kept_at (dim_of p) p.depth (is_old p plan)) m b c then vertex_name p plan m (vertex b c) ∷ [] else []) (λ c. rw e refl) (reverse all_corners); leaves = λ m b io e. refl }

  -- the streams are what walks over all boxes give
  pub puts_given : put_by (moves_of p) ≡ flat_map (given_out VertexKey (vertex_name p plan) (dir p plan) (axis p plan) (S p plan) (seen_at p plan) (kept_at (dim_of p) p.depth (is_new p plan))) (visits (dir p plan) (axis p plan) (is_cell p plan) (S p plan) domain.root walls)
  puts_given = puts_by_boxes p plan ∙ walk_is (dir p plan) (axis p plan) (is_cell p plan) VertexKey (given_out VertexKey (vertex_name p plan) (dir p plan) (axis p plan) (S p plan) (seen_at p plan) (kept_at (dim_of p) p.depth (is_new p plan))) (seen_at p plan) (opened p plan) (given_quiet (dir p plan) (axis p plan) (S p plan) (seen_at p plan) (kept_at (dim_of p) p.depth (is_new p plan)) VertexKey (vertex_name p plan)) (S p plan) (closed p plan) (S p plan) domain.root walls (omega arith)

  pub takes_given : taken_by (moves_of p) ≡ reverse (flat_map (given_out VertexKey (vertex_name p plan) (dir (back p) (back_plan p plan)) (axis p plan) (S p plan) (seen_at p plan) (kept_at (dim_of p) p.depth (is_old p plan))) (visits (dir (back p) (back_plan p plan)) (axis p plan) (is_cell p plan) (S p plan) domain.root walls))
  takes_given =
      let taken = λ (d : boxes.Direction). flat_map (taken_in VertexKey (vertex_name p plan) d (axis p plan) (S p plan) (seen_at p plan) (kept_at (dim_of p) p.depth (is_old p plan))) (visits d (axis p plan) (is_cell p plan) (S p plan) domain.root walls) in
      takes_by_boxes p plan
      ∙ walk_is (dir p plan) (axis p plan) (is_cell p plan) VertexKey (taken_in VertexKey (vertex_name p plan) (dir p plan) (axis p plan) (S p plan) (seen_at p plan) (kept_at (dim_of p) p.depth (is_old p plan))) (seen_at p plan) (opened p plan) taken_quiet (S p plan) (closed p plan) (S p plan) domain.root walls (omega arith)
      ∙ sym (ap taken (turned_back p.dir))
      ∙ sym (output_turned_is_input VertexKey (vertex_name p plan) (dir (back p) (back_plan p plan)) (axis p plan) (is_cell p plan) (S p plan) (seen_at p plan) (seen_at p plan) (kept_at (dim_of p) p.depth (is_old p plan)) (λ m v b c l k inside t. refl))

  puts_distinct : AreDistinct same_vertex (put_by (moves_of p))
  puts_distinct = subst (AreDistinct same_vertex) (sym puts_given) (given_distinct p plan (is_new p plan) (keeps_new p plan))

  takes_distinct : AreDistinct same_vertex (taken_by (moves_of p))
  takes_distinct = subst (AreDistinct same_vertex) (sym takes_given) (distinct_reverse same_vertex vertices_decided _ (given_distinct (back p) (back_plan p plan) (is_old (back p) (back_plan p plan)) (keeps_old (back p) (back_plan p plan))))

pub none_taken_twice : NoneTakenTwice
none_taken_twice p plan = (takes_distinct p plan, puts_distinct p plan)
