-- What a sweep gives to its output, for any of the kept vertices: each that the tree meets, once.
use Rattle.std.proofs.Common.{◌≡◌, ◌⊎◌, inl, inr, ℕ, ◌-◌, ◌*◌, ◌/◌, ◌%◌, ◌<◌, ◌≤◌, Bool, true, false, ◌||◌, if◌then◌else◌, List, [], ◌∷◌, map, flat_map, Option, Some, None, refl, sym, ap, subst, ◌∙◌, arith, ⊎_elim, eq-eqb}
use Rattle.std.proofs.lemmas.Bool.{cases_eq}
use Rattle.peano_keys.specs.declared.cell.CellKey.{CellKey}
use Rattle.peano_keys.specs.declared.vertex.VertexKey.{VertexKey}
use Rattle.peano_keys.specs.declared.dim.Dim.{Dim}
use Rattle.peano_keys.specs.declared.dim.Dim.TheVariants.{Two, Three}
use Rattle.peano_keys.specs.Dim.{axes}
use Rattle.peano_keys.specs.Vertex.{IsVertex, plane}
use Rattle.peano_keys.specs.Grid.{Spacetree, has_cell}
use Rattle.peano_keys.proofs.Positions.{three}
use Rattle.peano_curve.specs.Run.{InRun}
use Rattle.peano_curve.specs.Splits.{box_of}
use Rattle.stack_law.specs.Boxes.{Box}
use Rattle.stack_law.specs.Domain.{cell_in}
use Rattle.stack_law.specs.Once.{IsIn}
use Rattle.stack_law.specs.Order.{IsRightVisit}
use Rattle.stack_law.specs.Visits as box
use Rattle.stack_law.specs.Visits.{visits, walls}
use Rattle.stack_law.proofs.Chains.{each_in}
use Rattle.stack_law.proofs.Ways.{ways_follow_the_order}
use Rattle.stack_walks.specs.Corners.{Corner, all_corners, vertex}
use Rattle.stack_walks.specs.Counts.{Kept, kept_vertex}
use Rattle.stack_walks.specs.Streams.{given_out}
use Rattle.stack_walks.proofs.Ends.{corner_at, ends_once}
use Rattle.stack_walks.proofs.GivenCorners.{and_true, in_some}
use Rattle.stack_walks.proofs.Handing.{and_both}
use Rattle.stack_walks.proofs.Streams.{flat_same}
use Rattle.sweep_visits.specs.Plan.{SweepPlan, IsSweepPlan, IsOldGrid, dim_of, is_kept, is_cell_in}
use Rattle.sweep_streams.specs.Counts.{IsHeldVertex, ListsVertices}
use Rattle.sweep_visits.proofs.Places.{cell_of, vertex_of}
use Rattle.sweep_visits.proofs.Keyed.{is_flat}
use Rattle.sweep_visits.proofs.Parents.{above_in, one_of}
use Rattle.sweep_visits.proofs.Kept.{seen_at, kept_at, kept_cell, kept_unbroken}
use Rattle.sweep_visits.proofs.Followers.{run_seen}
use Rattle.sweep_visits.proofs.Corners.{ends, is_vertex, run}
use Rattle.sweep_streams.proofs.Lists.{in_map}
use Rattle.sweep_streams.proofs.Once.{map_flat, from_map, given_keys, given_distinct, vs, vertex_key}
use Rattle.sweep_visits.proofs.Sweeps.{dir, axis, is_cell, S, vertex_name}

-- the splits left of a level
pub whole_splits : (dim : Dim) (depth l : ℕ) → l ≤ depth → (cell_in (axes dim) (axes dim * (depth - l)) ≡ true) × (axes dim * (depth - l) ≤ axes dim * depth) × (depth - axes dim * (depth - l) / axes dim ≡ l)
whole_splits Two depth l h = (eq-eqb (2 * (depth - l) % 2) 0 (omega arith), omega arith, omega arith)
whole_splits Three depth l h = (eq-eqb (3 * (depth - l) % 3) 0 (omega arith), omega arith, omega arith)

flat_vertex : (dim : Dim) (v : VertexKey) → IsVertex dim v → is_flat dim (record { x0 = plane v 0; x1 = plane v 1; x2 = plane v 2 }) ≡ true
flat_vertex Two v h = eq-eqb (plane v 2) 0 (omega (arith, h.third))
flat_vertex Three v h = refl

-- a cell of one of the grids is not below the depth
pub cell_level : (p : SweepPlan) (plan : IsSweepPlan p) (c : CellKey) → (is_cell_in p.old c || has_cell p.new c) ≡ true → c.level ≤ p.depth
cell_level p plan c h = ⊎_elim (λ e. omega arith) (λ n. below (omega arith) (one_of (is_cell_in p.old c) (has_cell p.new c) h)) (cases_eq c.level 0)
  where
    in_old : (old : Option Spacetree) → IsOldGrid p.depth (dim_of p) old → 0 < c.level → is_cell_in old c ≡ true → c.level ≤ p.depth
    in_old None o pos e = absurd (cc)
    in_old (Some t) o pos e = (above_in p.depth t c o.0 pos e).level

    below : 0 < c.level → (is_cell_in p.old c ≡ true) ⊎ (has_cell p.new c ≡ true) → c.level ≤ p.depth
    below pos (inl e) = in_old p.old plan.old pos e
    below pos (inr e) = (above_in p.depth p.new c plan.new pos e).level

module _ (p : SweepPlan) (plan : IsSweepPlan p) (kept : VertexKey → Bool) (keeps : (v : VertexKey) → kept v ≡ true → is_kept p v ≡ true) where
  abbrev given : box.Visit → List VertexKey
  given = given_out VertexKey (vertex_name p plan) (dir p plan) (axis p plan) (S p plan) (seen_at p plan) (kept_at (dim_of p) p.depth kept)

  abbrev kept_given : box.Visit → List Kept
  kept_given = given_out Kept kept_vertex (dir p plan) (axis p plan) (S p plan) (seen_at p plan) (kept_at (dim_of p) p.depth kept)

  abbrev all : List box.Visit
  all = vs p plan kept keeps

  pub by_kept : flat_map given all ≡ map (vertex_key p plan kept keeps) (flat_map kept_given all)
  by_kept = flat_same given (λ v. map (vertex_key p plan kept keeps) (kept_given v)) (given_keys p plan kept keeps) all ∙ sym (map_flat (vertex_key p plan kept keeps) kept_given all)

  pub record Ended (x : Kept) : Type 0 where
    pub cell : is_cell p plan x.splits ≡ true
    pub low : x.splits ≤ axes (dim_of p) * p.depth
    pub stays : kept_at (dim_of p) p.depth kept x.splits x.vertex ≡ true
    pub met : IsHeldVertex p kept (vertex_key p plan kept keeps x)

  -- where a vertex is given, it is one that the tree meets
  pub ended : (x : Kept) → IsIn x (flat_map kept_given all) → Ended x
  ended x h = (let f = in_some kept_given x all h in at_visit f.0 (each_in (λ z. 0) (IsRightVisit (dir p plan) (axis p plan) (is_cell p plan) (S p plan)) f.0 all (ways_follow_the_order (dir p plan) (axis p plan) (is_cell p plan) (S p plan)) f.1) f.2)
    where
      at_visit : (v : box.Visit) → IsRightVisit (dir p plan) (axis p plan) (is_cell p plan) (S p plan) v → IsIn x (kept_given v) → Ended x
      at_visit (box.enter m b io) r k = absurd k
      at_visit (box.leave m b io) r k = (let f = in_some (λ c. if ends p plan kept keeps m b c then kept_vertex m (vertex b c) ∷ [] else []) x all_corners k in at_corner f.0 (ends p plan kept keeps m b f.0) refl f.2)
        where
          at_corner : (c : Corner) (t : Bool) → ends p plan kept keeps m b c ≡ t → IsIn x (if t then kept_vertex m (vertex b c) ∷ [] else []) → Ended x
          at_corner c true e (inl is) =
              let here = and_true (seen_at p plan m b) _ (and_true _ _ e).0 in
              let stored = (and_true (is_flat (dim_of p) (vertex b c)) _ here.1).1 in
              let met : IsHeldVertex p kept (vertex_of (dim_of p) p.depth m (vertex b c)) = record { vertex = is_vertex p plan kept keeps m r.cell r.level b r.inside here.0 c here.1; passes = stored; held = (cell_of (dim_of p) p.depth m b, run p plan kept keeps m r.cell r.level b r.inside here.0 c here.1) } in
              subst Ended (sym is) (record { cell = r.cell; low = r.level; stays = here.1; met = met })
          at_corner c true e (inr n) = absurd n
          at_corner c false e n = absurd n

  -- and each that it meets is given
  met_given : (v : VertexKey) → IsHeldVertex p kept v → IsIn v (flat_map given all)
  met_given v h =
      let c = h.held.0 in
      let member = h.held.1 in
      let is = keeps v h.passes in
      let low = cell_level p plan c (kept_cell p plan v c is member.cell member.touches) in
      let split = whole_splits (dim_of p) p.depth c.level low in
      let m : ℕ = axes (dim_of p) * (p.depth - c.level) in
      let vb : Box = record { x0 = plane v 0; x1 = plane v 1; x2 = plane v 2 } in
      let back : vertex_of (dim_of p) p.depth m vb ≡ v = (let e = split.2 ∙ member.touches.level in let s = three v.v h.vertex.shape in λ i. record { level = e i; v = s i }) in
      let member' = subst (λ w. InRun (dim_of p) w p.range p.depth c) (sym back) member in
      let is' = subst (λ w. is_kept p w ≡ true) (sym back) is in
      let s = run_seen p plan m split.0 split.1 vb is' c member' in
      let k = corner_at vb (box_of c) s.touching in
      let stays : kept_at (dim_of p) p.depth kept m vb ≡ true = and_both _ _ (flat_vertex (dim_of p) v h.vertex) (ap kept back ∙ h.passes) in
      let stays_k = subst (λ w. kept_at (dim_of p) p.depth kept m w ≡ true) (sym k.1) stays in
      let there = ends_once (dir p plan) (axis p plan) (is_cell p plan) (S p plan) (seen_at p plan) (kept_at (dim_of p) p.depth kept) (kept_unbroken p plan kept keeps) m (box_of c) k.0 split.0 split.1 s.inside (and_both _ _ s.visited stays_k) in
      let named = in_map (vertex_key p plan kept keeps) (kept_vertex m (vertex (box_of c) k.0)) (flat_map kept_given all) there in
      subst (λ w. IsIn w (flat_map given all)) (ap (λ b. vertex_of (dim_of p) p.depth m b) k.1 ∙ back) (subst (IsIn (vertex_of (dim_of p) p.depth m (vertex (box_of c) k.0))) (sym by_kept) named)

  given_met : (v : VertexKey) → IsIn v (flat_map given all) → IsHeldVertex p kept v
  given_met v h =
      let f = from_map (vertex_key p plan kept keeps) v (flat_map kept_given all) (subst (IsIn v) by_kept h) in
      subst (IsHeldVertex p kept) (sym f.2) (ended f.0 f.1).met

  pub given_lists : ListsVertices p kept (flat_map given all)
  given_lists = record { distinct = given_distinct p plan kept keeps; members = λ v. (given_met v, met_given v) }
