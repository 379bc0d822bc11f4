-- Lanes never mix.
use Rattle.std.proofs.Common.{◌≡◌, ℕ, ◌-◌, ◌*◌, ◌/◌, leb, leb-true, Bool, true, false, if◌then◌else◌, List, [], ◌∷◌, flat_map, Some, arith, refl, sym, ap, subst, ◌∙◌, ⊎_elim, inl, inr}
use Rattle.std.proofs.lemmas.Bool.{cases_lt}
use Rattle.peano_keys.specs.Dim.{axes}
use Rattle.peano_keys.specs.Vertex.{plane}
use Rattle.peano_curve.specs.Splits.{box_of}
use Rattle.stack_law.specs.Boxes.{Axis, Side, Box, beyond}
use Rattle.stack_law.specs.Domain.{cell_in}
use Rattle.stack_law.specs.Domain as domain
use Rattle.stack_law.specs.Moments.{IsNamed}
use Rattle.stack_law.specs.Once.{IsIn}
use Rattle.stack_law.specs.Stack.{Event, run_all, on_lane, pushed, AreDistinct}
use Rattle.stack_law.specs.Visits.{visits, walls}
use Rattle.stack_law.proofs.Given.{given_once, at_each_moment}
use Rattle.stack_law.proofs.Ways.{ways_follow_the_order}
use Rattle.stack_walks.specs.Corners.{Corner, all_corners, vertex, by_corners, AllPass}
use Rattle.stack_walks.specs.Instances.{UseStacks}
use Rattle.stack_walks.proofs.Corners.{items_of, visits_same, no_more_corners, corners_pass_along_lanes}
use Rattle.stack_walks.proofs.GivenCorners.{and_true, in_some, distinct_at, corners_distinct, vertex_same}
use Rattle.stack_walks.proofs.Handing.{neighbours_tell_the_run}
use Rattle.stack_walks.proofs.Vertices.{all_pass}
use Rattle.sweep_visits.specs.Plan.{SweepPlan, IsSweepPlan, dim_of, is_kept}
use Rattle.sweep_visits.specs.Moves.{Passing, same_passing}
use Rattle.sweep_visits.specs.Laws.{LanesNeverMix}
use Rattle.sweep_visits.proofs.Places.{whole, above}
use Rattle.sweep_visits.proofs.Kept.{seen_at, kept_at, kept_unbroken}
use Rattle.sweep_visits.proofs.Corners.{name, goes, comes}
use Rattle.sweep_visits.proofs.Same.{passings_decided}
use Rattle.sweep_visits.proofs.Sweeps.{dir, axis, is_cell, S, all_kept, lanes_by_boxes}

module _ (p : SweepPlan) (plan : IsSweepPlan p) where
  abbrev going : ℕ → Box → Corner → Axis → Side → Bool
  going = goes p plan (is_kept p) (all_kept p plan)

  abbrev coming : ℕ → Box → Corner → Axis → Side → Bool
  coming = comes p plan (is_kept p) (all_kept p plan)

  pass : AllPass (dir p plan) (axis p plan) (is_cell p plan) (S p plan) going coming
  pass = all_pass (dir p plan) (axis p plan) (is_cell p plan) (S p plan) (seen_at p plan) (kept_at (dim_of p) p.depth (is_kept p)) going coming (neighbours_tell_the_run (dir p plan) (axis p plan) (is_cell p plan) (S p plan) (seen_at p plan) (kept_at (dim_of p) p.depth (is_kept p)) (kept_unbroken p plan (is_kept p) (all_kept p plan)))

  abbrev whole_list : List (Event Passing)
  whole_list = flat_map (by_corners Passing (name p) going coming) (visits (dir p plan) (axis p plan) (is_cell p plan) (S p plan) domain.root walls)

  -- the level and the receiver of a passing
  abbrev splits_of : Passing → ℕ
  splits_of x = axes (dim_of p) * (p.depth - x.cell.level)

  abbrev receiver_of : Passing → Box
  receiver_of x = box_of x.cell

  -- the corner of an item
  record From (x : Passing) (m : ℕ) (b : Box) (i : Axis) (h : Side) : Type 0 where
    corner : Corner
    is : x ≡ name p m (vertex b corner) (beyond i h b)
    seen : seen_at p plan m b ≡ true

  one_item : (x : Passing) (m : ℕ) (b : Box) (i : Axis) (h : Side) (c : Corner) (t : Bool) → going m b c i h ≡ t → IsIn x (if t then name p m (vertex b c) (beyond i h b) ∷ [] else []) → From x m b i h
  one_item x m b i h c true e (inl is) = record { corner = c; is = is; seen = (and_true (seen_at p plan m b) _ (and_true _ _ e).0).0 }
  one_item x m b i h c true e (inr k) = absurd k
  one_item x m b i h c false e k = absurd k

  from : (x : Passing) (m : ℕ) (b : Box) (i : Axis) (h : Side) → IsIn x (items_of Passing (name p) going coming m b i h) → From x m b i h
  from x m b i h k = (let f = in_some (λ c. if going m b c i h then name p m (vertex b c) (beyond i h b) ∷ [] else []) x all_corners k in one_item x m b i h f.0 (going m b f.0 i h) refl f.2)

  right_level : (m : ℕ) (b : Box) → seen_at p plan m b ≡ true → axes (dim_of p) * (p.depth - (p.depth - m / axes (dim_of p))) ≡ m
  right_level m b h =
      let c = (and_true (cell_in (axes (dim_of p)) m) _ h).0 in
      let l = leb-true m (axes (dim_of p) * p.depth) (and_true (leb m (axes (dim_of p) * p.depth)) _ (and_true (cell_in (axes (dim_of p)) m) _ h).1).0 in
      let low = (above (dim_of p) p.depth m c l).1 in
      let e : p.depth - (p.depth - m / axes (dim_of p)) ≡ m / axes (dim_of p) = omega arith in
      ap (λ k. axes (dim_of p) * k) e ∙ sym (whole (dim_of p) m c)

  named : IsNamed Passing same_passing splits_of receiver_of (items_of Passing (name p) going coming)
  named = record {
    level = λ m b i h x k. (let f = from x m b i h k in ap splits_of f.is ∙ right_level m b f.seen);
    receiver = λ m b i h x k. (let f = from x m b i h k in ap receiver_of f.is);
    distinct = λ m b i h. distinct_at Passing same_passing passings_decided.reflexive passings_decided.exact (λ c. going m b c i h) (λ c. name p m (vertex b c) (beyond i h b)) (λ c d e. vertex_same b c d (ap (λ (x : Passing). record { x0 = plane x.vertex 0; x1 = plane x.vertex 1; x2 = plane x.vertex 2 }) e)) all_corners corners_distinct;
  }

  emptied : run_all same_passing (λ k. []) whole_list ≡ Some (λ k. [])
  emptied = corners_pass_along_lanes Passing same_passing passings_decided.reflexive (dir p plan) (axis p plan) (is_cell p plan) (S p plan) (name p) going coming pass

  each : (k : ℕ) → AreDistinct same_passing (pushed (on_lane k whole_list))
  each k =
      ⊎_elim
      (λ below. rw (visits_same Passing (name p) going coming (dir p plan) (axis p plan) (is_cell p plan) (S p plan) pass k below (visits (dir p plan) (axis p plan) (is_cell p plan) (S p plan) domain.root walls) (ways_follow_the_order (dir p plan) (axis p plan) (is_cell p plan) (S p plan))) (given_once Passing same_passing passings_decided splits_of receiver_of (items_of Passing (name p) going coming) named (dir p plan) (axis p plan) (is_cell p plan) (S p plan) k below))
      (λ up. rw (no_more_corners Passing (name p) going coming k up (visits (dir p plan) (axis p plan) (is_cell p plan) (S p plan) domain.root walls)) tt)
      (cases_lt k 6)

  use_stacks : UseStacks Passing same_passing whole_list
  use_stacks = record { emptied = emptied; moments = λ done todo e. at_each_moment Passing same_passing passings_decided whole_list done todo each emptied e }

pub lanes_never_mix : LanesNeverMix
lanes_never_mix p plan = subst (UseStacks Passing same_passing) (sym (lanes_by_boxes p plan)) (use_stacks p plan)
