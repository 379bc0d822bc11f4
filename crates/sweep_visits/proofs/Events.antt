-- What a visit moves on the lanes and at the streams: by boxes, and by keys.
use Rattle.std.proofs.Common.{◌≡◌, inl, inr, ℕ, ◌+◌, ◌*◌, ◌≤◌, Bool, true, false, if◌then◌else◌, List, [], ◌∷◌, reverse, flat_map, Option, Some, None, arith, refl, sym, ap, ◌∙◌, eq-eqb, ne_eqb, eqb-true}
use Rattle.peano_keys.specs.declared.cell.CellKey.{CellKey}
use Rattle.peano_keys.specs.declared.vertex.VertexKey.{VertexKey}
use Rattle.peano_keys.specs.declared.dim.Dim.{Dim}
use Rattle.peano_keys.specs.declared.dim.Dim.TheVariants.{Two, Three}
use Rattle.peano_keys.specs.Dim.{axes}
use Rattle.peano_keys.specs.Vertex.{corner_of}
use Rattle.stack_law.specs.Boxes.{Axis, Side, Box, beyond, lane}
use Rattle.stack_law.specs.Domain.{cell_in}
use Rattle.stack_law.specs.Order.{IsInDomain}
use Rattle.stack_law.specs.Passings.{over_faces}
use Rattle.stack_law.specs.Stack.{Event}
use Rattle.stack_law.specs.Stack as stack
use Rattle.stack_walks.specs.Corners.{Corner, all_corners, vertex, given_at, taken_at}
use Rattle.stack_walks.proofs.Handing.{and_both}
use Rattle.sweep_visits.specs.Plan.{SweepPlan, IsSweepPlan, dim_of, corner_numbers, is_kept, is_stored, is_stored_in}
use Rattle.sweep_visits.specs.Runs.{next_in_run, previous_in_run}
use Rattle.sweep_visits.specs.Moves.{Passing, Move, put, take, arrives, departs, corner_in, corner_out, on_lanes, taken_by, put_by}
use Rattle.sweep_visits.proofs.Places.{cell_of, vertex_of, bound}
use Rattle.sweep_visits.proofs.Keyed.{is_flat}
use Rattle.sweep_visits.proofs.Parents.{or_left, or_right}
use Rattle.sweep_visits.proofs.Kept.{seen_at, kept_at}
use Rattle.sweep_visits.proofs.Corners.{over_none, over_one, name, HasWay, goes, comes, ends, begins, way_out, way_in, none_goes, none_comes, none_ends, none_begins}

-- the corners of a cell by number, and as boxes
pub flat_corners : {V : Type 0} (dim : Dim) (depth m : ℕ) (b : Box) (F : VertexKey → List V) → is_flat dim b ≡ true → flat_map (λ n. F (corner_of (cell_of dim depth m b) n)) (corner_numbers dim) ≡ flat_map (λ k. if is_flat dim (vertex b k) then F (vertex_of dim depth m (vertex b k)) else []) all_corners
flat_corners Two depth m b F flat = (let e = eqb-true b.x2 0 flat in rw (eq-eqb (b.x2 + 0) 0 (omega arith), ne_eqb (b.x2 + 1) 0 (λ f. omega arith)) refl)
flat_corners Three depth m b F flat = refl

pub flat_corners_back : {V : Type 0} (dim : Dim) (depth m : ℕ) (b : Box) (F : VertexKey → List V) → is_flat dim b ≡ true → flat_map (λ n. F (corner_of (cell_of dim depth m b) n)) (reverse (corner_numbers dim)) ≡ flat_map (λ k. if is_flat dim (vertex b k) then F (vertex_of dim depth m (vertex b k)) else []) (reverse all_corners)
flat_corners_back Two depth m b F flat = (let e = eqb-true b.x2 0 flat in rw (eq-eqb (b.x2 + 0) 0 (omega arith), ne_eqb (b.x2 + 1) 0 (λ f. omega arith)) refl)
flat_corners_back Three depth m b F flat = refl

module _ (p : SweepPlan) (plan : IsSweepPlan p) where
  abbrev pub is_new : VertexKey → Bool
  is_new v = is_stored p.new v

  abbrev pub is_old : VertexKey → Bool
  is_old v = is_stored_in p.old v

  pub keeps_all : (v : VertexKey) → is_kept p v ≡ true → is_kept p v ≡ true
  keeps_all v h = h

  pub keeps_new : (v : VertexKey) → is_new v ≡ true → is_kept p v ≡ true
  keeps_new v h = or_right _ _ h

  pub keeps_old : (v : VertexKey) → is_old v ≡ true → is_kept p v ≡ true
  keeps_old v h = or_left _ _ h

  module _ (m : ℕ) (c : cell_in (axes (dim_of p)) m ≡ true) (l : m ≤ axes (dim_of p) * p.depth) (b : Box) (inside : IsInDomain (bound (dim_of p) p.depth m) b) (here : seen_at p plan m b ≡ true) (k : Corner) where
    abbrev w : Box
    w = vertex b k

    abbrev K : Box → CellKey
    K q = cell_of (dim_of p) p.depth m q

    abbrev kv : VertexKey
    kv = vertex_of (dim_of p) p.depth m w

    abbrev pub out_moves : List Move
    out_moves = if is_flat (dim_of p) w then corner_out p (K b) kv else []

    abbrev pub in_moves : List Move
    in_moves = if is_flat (dim_of p) w then corner_in p (K b) kv else []

    no_put : (t : Bool) → [] ≡ on_lanes (if t then put kv ∷ [] else [])
    no_put true = refl
    no_put false = refl

    no_take : (t : Bool) → [] ≡ on_lanes (if t then take kv ∷ [] else [])
    no_take true = refl
    no_take false = refl

    pub lanes_out : over_faces (given_at Passing (name p) (goes p plan (is_kept p) keeps_all) (comes p plan (is_kept p) keeps_all) m b k) ≡ on_lanes out_moves
    lanes_out = by (is_flat (dim_of p) w) refl (is_kept p kv) refl
      where
        item : Axis → Side → Event Passing
        item i h = record { on = lane i h b; step = stack.push (name p m w (beyond i h b)) }

        none : kept_at (dim_of p) p.depth (is_kept p) m w ≡ false → over_faces (given_at Passing (name p) (goes p plan (is_kept p) keeps_all) (comes p plan (is_kept p) keeps_all) m b k) ≡ []
        none e = over_none (goes p plan (is_kept p) keeps_all m b k) item (none_goes p plan (is_kept p) keeps_all m c l b inside here k e)

        some : HasWay (ends p plan (is_kept p) keeps_all m b k) (goes p plan (is_kept p) keeps_all m b k) (next_in_run p kv (K b)) kv (K b) b K → over_faces (given_at Passing (name p) (goes p plan (is_kept p) keeps_all) (comes p plan (is_kept p) keeps_all) m b k) ≡ on_lanes (departs p kv (K b) (next_in_run p kv (K b)))
        some (inl e) = over_none (goes p plan (is_kept p) keeps_all m b k) item e.1 ∙ no_put (is_stored p.new kv) ∙ ap (λ o. on_lanes (departs p kv (K b) o)) (sym e.2)
        some (inr e) = over_one (goes p plan (is_kept p) keeps_all m b k) item e.1.0 e.1.1 e.1.2 ∙ ap (λ n. record { on = n; step = stack.push (name p m w (beyond e.1.0 e.1.1 b)) } ∷ []) (sym e.1.4) ∙ ap (λ o. on_lanes (departs p kv (K b) o)) (sym e.1.3)

        by : (f : Bool) → is_flat (dim_of p) w ≡ f → (t : Bool) → is_kept p kv ≡ t → over_faces (given_at Passing (name p) (goes p plan (is_kept p) keeps_all) (comes p plan (is_kept p) keeps_all) m b k) ≡ on_lanes (if f then (if t then departs p kv (K b) (next_in_run p kv (K b)) else []) else [])
        by false e t g = none (rw e refl)
        by true e false g = none (rw (e, g) refl)
        by true e true g = some (way_out p plan (is_kept p) keeps_all m c l b inside here k (and_both _ _ e g))

    pub lanes_in : over_faces (taken_at Passing (name p) (goes p plan (is_kept p) keeps_all) (comes p plan (is_kept p) keeps_all) m b k) ≡ on_lanes in_moves
    lanes_in = by (is_flat (dim_of p) w) refl (is_kept p kv) refl
      where
        item : Axis → Side → Event Passing
        item i h = record { on = lane i h b; step = stack.pop (name p m w b) }

        none : kept_at (dim_of p) p.depth (is_kept p) m w ≡ false → over_faces (taken_at Passing (name p) (goes p plan (is_kept p) keeps_all) (comes p plan (is_kept p) keeps_all) m b k) ≡ []
        none e = over_none (comes p plan (is_kept p) keeps_all m b k) item (none_comes p plan (is_kept p) keeps_all m c l b inside here k e)

        some : HasWay (begins p plan (is_kept p) keeps_all m b k) (comes p plan (is_kept p) keeps_all m b k) (previous_in_run p kv (K b)) kv (K b) b K → over_faces (taken_at Passing (name p) (goes p plan (is_kept p) keeps_all) (comes p plan (is_kept p) keeps_all) m b k) ≡ on_lanes (arrives p kv (K b) (previous_in_run p kv (K b)))
        some (inl e) = over_none (comes p plan (is_kept p) keeps_all m b k) item e.1 ∙ no_take (is_stored_in p.old kv) ∙ ap (λ o. on_lanes (arrives p kv (K b) o)) (sym e.2)
        some (inr e) = over_one (comes p plan (is_kept p) keeps_all m b k) item e.1.0 e.1.1 e.1.2 ∙ ap (λ n. record { on = n; step = stack.pop (name p m w b) } ∷ []) (sym e.1.4) ∙ ap (λ o. on_lanes (arrives p kv (K b) o)) (sym e.1.3)

        by : (f : Bool) → is_flat (dim_of p) w ≡ f → (t : Bool) → is_kept p kv ≡ t → over_faces (taken_at Passing (name p) (goes p plan (is_kept p) keeps_all) (comes p plan (is_kept p) keeps_all) m b k) ≡ on_lanes (if f then (if t then arrives p kv (K b) (previous_in_run p kv (K b)) else []) else [])
        by false e t g = none (rw e refl)
        by true e false g = none (rw (e, g) refl)
        by true e true g = some (way_in p plan (is_kept p) keeps_all m c l b inside here k (and_both _ _ e g))

    -- at the streams
    pub puts_out : (if ends p plan is_new keeps_new m b k then kv ∷ [] else []) ≡ put_by out_moves
    puts_out = by (is_flat (dim_of p) w) refl (is_stored p.new kv) refl
      where
        none : kept_at (dim_of p) p.depth is_new m w ≡ false → (if ends p plan is_new keeps_new m b k then kv ∷ [] else []) ≡ []
        none e = ap (λ t. if t then kv ∷ [] else []) (none_ends p plan is_new keeps_new m c l b inside here k e)

        quiet : (t : Bool) (o : Option CellKey) → is_stored p.new kv ≡ false → put_by (if t then departs p kv (K b) o else []) ≡ []
        quiet true None e = rw e refl
        quiet true (Some q) e = refl
        quiet false o e = refl

        some : HasWay (ends p plan is_new keeps_new m b k) (goes p plan is_new keeps_new m b k) (next_in_run p kv (K b)) kv (K b) b K → is_stored p.new kv ≡ true → (if ends p plan is_new keeps_new m b k then kv ∷ [] else []) ≡ put_by (departs p kv (K b) (next_in_run p kv (K b)))
        some (inl e) g = ap (λ t. if t then kv ∷ [] else []) e.0 ∙ ap (λ t. put_by (if t then put kv ∷ [] else [])) (sym g) ∙ ap (λ o. put_by (departs p kv (K b) o)) (sym e.2)
        some (inr e) g = ap (λ t. if t then kv ∷ [] else []) e.0 ∙ ap (λ o. put_by (departs p kv (K b) o)) (sym e.1.3)

        by : (f : Bool) → is_flat (dim_of p) w ≡ f → (t : Bool) → is_stored p.new kv ≡ t → (if ends p plan is_new keeps_new m b k then kv ∷ [] else []) ≡ put_by (if f then corner_out p (K b) kv else [])
        by false e t g = none (rw e refl)
        by true e false g = none (rw (e, g) refl) ∙ sym (quiet (is_kept p kv) (next_in_run p kv (K b)) g)
        by true e true g = some (way_out p plan is_new keeps_new m c l b inside here k (and_both _ _ e g)) g ∙ ap (λ t. put_by (if t then departs p kv (K b) (next_in_run p kv (K b)) else [])) (sym (keeps_new kv g))

    pub takes_in : (if begins p plan is_old keeps_old m b k then kv ∷ [] else []) ≡ taken_by in_moves
    takes_in = by (is_flat (dim_of p) w) refl (is_stored_in p.old kv) refl
      where
        none : kept_at (dim_of p) p.depth is_old m w ≡ false → (if begins p plan is_old keeps_old m b k then kv ∷ [] else []) ≡ []
        none e = ap (λ t. if t then kv ∷ [] else []) (none_begins p plan is_old keeps_old m c l b inside here k e)

        quiet : (t : Bool) (o : Option CellKey) → is_stored_in p.old kv ≡ false → taken_by (if t then arrives p kv (K b) o else []) ≡ []
        quiet true None e = rw e refl
        quiet true (Some q) e = refl
        quiet false o e = refl

        some : HasWay (begins p plan is_old keeps_old m b k) (comes p plan is_old keeps_old m b k) (previous_in_run p kv (K b)) kv (K b) b K → is_stored_in p.old kv ≡ true → (if begins p plan is_old keeps_old m b k then kv ∷ [] else []) ≡ taken_by (arrives p kv (K b) (previous_in_run p kv (K b)))
        some (inl e) g = ap (λ t. if t then kv ∷ [] else []) e.0 ∙ ap (λ t. taken_by (if t then take kv ∷ [] else [])) (sym g) ∙ ap (λ o. taken_by (arrives p kv (K b) o)) (sym e.2)
        some (inr e) g = ap (λ t. if t then kv ∷ [] else []) e.0 ∙ ap (λ o. taken_by (arrives p kv (K b) o)) (sym e.1.3)

        by : (f : Bool) → is_flat (dim_of p) w ≡ f → (t : Bool) → is_stored_in p.old kv ≡ t → (if begins p plan is_old keeps_old m b k then kv ∷ [] else []) ≡ taken_by (if f then corner_in p (K b) kv else [])
        by false e t g = none (rw e refl)
        by true e false g = none (rw (e, g) refl) ∙ sym (quiet (is_kept p kv) (previous_in_run p kv (K b)) g)
        by true e true g = some (way_in p plan is_old keeps_old m c l b inside here k (and_both _ _ e g)) g ∙ ap (λ t. taken_by (if t then arrives p kv (K b) (previous_in_run p kv (K b)) else [])) (sym (keeps_old kv g))
