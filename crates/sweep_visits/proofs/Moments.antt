-- From moment to moment of a sweep.
use Rattle.std.proofs.Common.{◌≡◌, ◌≢◌, ℕ, Bool, true, false, if◌then◌else◌, flat_map, List, [], ◌∷◌, ◌++◌, map, reverse, Option, Some, None, refl, sym, ap, ◌∙◌, append_assoc, append-nil, eq-eqb, ne_eqb, ⊎_elim}
use Rattle.std.proofs.lemmas.Grind.{flat_map-append}
use Rattle.std.proofs.lemmas.List.{map-append, append_cancel_left, append_cancel_right}
use Rattle.std.proofs.lemmas.Bool.{cases_eq}
use mathlib.Core.List.{reverse-cons, reverse-reverse}
use mathlib.Core.Path.{fun_ext}
use Rattle.peano_keys.specs.declared.vertex.VertexKey.{VertexKey}
use Rattle.peano_keys.specs.declared.dim.Dim.{Dim}
use Rattle.peano_keys.specs.declared.dim.Dim.TheVariants.{Two, Three}
use Rattle.peano_keys.specs.Dim.{corners}
use Rattle.peano_keys.specs.Vertex.{corner_of}
use Rattle.stack_law.specs.Moments.{HoldsTheRest}
use Rattle.stack_law.specs.Stack.{Event, Step, on_lane, run, run_all, pushed, popped, without}
use Rattle.stack_law.specs.Stack as stack
use Rattle.stack_law.proofs.Given.{apart}
use Rattle.stack_law.proofs.Runs.{run-append}
use Rattle.stack_law.proofs.Seen.{on_lane-append}
use Rattle.sweep_visits.specs.Plan.{SweepPlan, IsSweepPlan, dim_of, corner_numbers}
use Rattle.sweep_visits.specs.Moves.{corner_in, corner_out, moves_at, Passing, Move, take, put, pop, push, moves_of, on_lanes, taken_by, put_by, input_part, output_part, lane_part, same_passing}
use Rattle.sweep_visits.specs.Moments.{passings_on, vertices_on, MovesLanes, EachMoveFindsItsVertex, SweepBeginsAndEnds, VisitsSplitMoves, arrivals_below, departures_from, CornersInTurn}
use Rattle.sweep_visits.proofs.Lanes.{lanes_never_mix}
use Rattle.sweep_visits.proofs.Same.{passings_decided}

-- the vertices of passings
abbrev vertices : List Passing → List VertexKey
vertices xs = map (λ x. x.vertex) xs

some_same : {A : Type 0} (s t : List A) → Some s ≡ Some t → s ≡ t
some_same {A} s t e = ap (λ (o : Option (List A)). elim o as (λ _. List A) [ Some y ↦ y | None ↦ [] ]) e

no_some : {A : Type 0} (s : List A) → None ≡ Some s → ⊥
no_some s e = absurd (cc)

-- one step on one lane
stepped_pop : (y : Passing) (s t : List Passing) → run same_passing s (stack.pop y ∷ []) ≡ Some t → s ≡ y ∷ t
stepped_pop y [] t e = absurd (no_some t e)
stepped_pop y (z ∷ s) t e = by (same_passing y z) refl e
  where
    by : (u : Bool) → same_passing y z ≡ u → (if u then Some s else None) ≡ Some t → z ∷ s ≡ y ∷ t
    by true f g = (let h = passings_decided.exact y z f in let k = some_same s t g in λ i. sym h i ∷ k i)
    by false f g = absurd (no_some t g)

module _ (p : SweepPlan) (plan : IsSweepPlan p) where
  rest_at : (made more : List Move) → moves_of p ≡ made ++ more → HoldsTheRest Passing same_passing (on_lanes made)
  rest_at made more e = (lanes_never_mix p plan).moments (on_lanes made) (on_lanes more) (ap on_lanes e ∙ flat_map-append lane_part made more)

  -- a lane, newest first
  standing_is : (made more : List Move) (e : moves_of p ≡ made ++ more) (k : ℕ) → passings_on made k ≡ reverse ((rest_at made more e).now k)
  standing_is made more e k = sym (reverse-reverse (passings_on made k)) ∙ ap reverse (sym ((rest_at made more e).rest k))

  module _ (made more : List Move) (x : Move) (e : moves_of p ≡ made ++ x ∷ more) where
    e' : moves_of p ≡ (made ++ x ∷ []) ++ more
    e' = e ∙ sym (append_assoc made (x ∷ []) more)

    abbrev now : ℕ → List Passing
    now = (rest_at made (x ∷ more) e).now

    abbrev then_now : ℕ → List Passing
    then_now = (rest_at (made ++ x ∷ []) more e').now

    split : (k : ℕ) → on_lane k (on_lanes (made ++ x ∷ [])) ≡ on_lane k (on_lanes made) ++ on_lane k (lane_part x)
    split k = ap (on_lane k) (flat_map-append lane_part made (x ∷ []) ∙ ap (λ es. on_lanes made ++ es) (append-nil (lane_part x))) ∙ on_lane-append k (on_lanes made) (lane_part x)

    one_step : (k : ℕ) → run same_passing (now k) (on_lane k (lane_part x)) ≡ Some (then_now k)
    one_step k =
        let first = apart Passing same_passing (on_lanes made) (λ k. []) now (rest_at made (x ∷ more) e).reached k in
        let both = apart Passing same_passing (on_lanes (made ++ x ∷ [])) (λ k. []) then_now (rest_at (made ++ x ∷ []) more e').reached k in
        sym (run-append Passing same_passing [] (now k) (on_lane k (on_lanes made)) (on_lane k (lane_part x)) first) ∙ ap (run same_passing []) (sym (split k)) ∙ both

    before : (k : ℕ) → passings_on made k ≡ reverse (now k)
    before k = standing_is made (x ∷ more) e k

    after : (k : ℕ) → passings_on (made ++ x ∷ []) k ≡ reverse (then_now k)
    after k = standing_is (made ++ x ∷ []) more e' k

    pub stays : (k : ℕ) → on_lane k (lane_part x) ≡ [] → passings_on (made ++ x ∷ []) k ≡ passings_on made k
    stays k none = (let h = some_same (now k) (then_now k) (ap (run same_passing (now k)) (sym none) ∙ one_step k) in after k ∙ ap reverse (sym h) ∙ sym (before k))

    pub gives : (k : ℕ) (y : Passing) → on_lane k (lane_part x) ≡ stack.push y ∷ [] → passings_on (made ++ x ∷ []) k ≡ passings_on made k ++ y ∷ []
    gives k y is = (let h = some_same (y ∷ now k) (then_now k) (ap (run same_passing (now k)) (sym is) ∙ one_step k) in after k ∙ ap reverse (sym h) ∙ reverse-cons y (now k) ∙ ap (λ s. s ++ y ∷ []) (sym (before k)))

    pub finds : (k : ℕ) (y : Passing) → on_lane k (lane_part x) ≡ stack.pop y ∷ [] → passings_on made k ≡ passings_on (made ++ x ∷ []) k ++ y ∷ []
    finds k y is = (let h = stepped_pop y (now k) (then_now k) (ap (run same_passing (now k)) (sym is) ∙ one_step k) in before k ∙ ap reverse h ∙ reverse-cons y (then_now k) ∙ ap (λ s. s ++ y ∷ []) (sym (after k)))

  pub here_only : (n : ℕ) (s : Step Passing) → on_lane n (record { on = n; step = s } ∷ []) ≡ s ∷ []
  here_only n s = rw (eq-eqb n n refl) refl

  pub not_there : (n k : ℕ) (s : Step Passing) → k ≢ n → on_lane k (record { on = n; step = s } ∷ []) ≡ []
  not_there n k s d = rw (ne_eqb n k (λ e. d (sym e))) refl

  -- what a move does to the vertices on the lanes
  lanes_move : (made more : List Move) (x : Move) → moves_of p ≡ made ++ x ∷ more → MovesLanes x (vertices_on made) (vertices_on (made ++ x ∷ []))
  lanes_move made more (take v) e = λ k. ap vertices (stays made more (take v) e k refl)
  lanes_move made more (put v) e = λ k. ap vertices (stays made more (put v) e k refl)
  lanes_move made more (pop n y) e = (ap vertices (finds made more (pop n y) e n y (here_only n (stack.pop y))) ∙ map-append (λ (x : Passing). x.vertex) _ (y ∷ []), λ k d. ap vertices (stays made more (pop n y) e k (not_there n k (stack.pop y) d)))
  lanes_move made more (push n y) e = (ap vertices (gives made more (push n y) e n y (here_only n (stack.push y))) ∙ map-append (λ (x : Passing). x.vertex) _ (y ∷ []), λ k d. ap vertices (stays made more (push n y) e k (not_there n k (stack.push y) d)))

-- lanes that differ from the right ones nowhere
lanes_found : (x : Move) (a a' b : ℕ → List VertexKey) → ((k : ℕ) → a k ≡ a' k) → MovesLanes x a' b → MovesLanes x a b
lanes_found (take v) a a' b e h = λ k. h k ∙ sym (e k)
lanes_found (put v) a a' b e h = λ k. h k ∙ sym (e k)
lanes_found (pop n y) a a' b e h = (e n ∙ h.0, λ k d. h.1 k d ∙ sym (e k))
lanes_found (push n y) a a' b e h = (h.0 ∙ ap (λ s. s ++ y.vertex ∷ []) (sym (e n)), λ k d. h.1 k d ∙ sym (e k))

lane_or : (n k : ℕ) (b c : ℕ → List VertexKey) → b n ≡ c n → (k ≢ n → b k ≡ c k) → b k ≡ c k
lane_or n k b c same other = ⊎_elim (λ e. ap b e ∙ same ∙ ap c (sym e)) other (cases_eq k n)

lanes_same : (x : Move) (a b c : ℕ → List VertexKey) → MovesLanes x a b → MovesLanes x a c → (k : ℕ) → b k ≡ c k
lanes_same (take v) a b c f g k = f k ∙ sym (g k)
lanes_same (put v) a b c f g k = f k ∙ sym (g k)
lanes_same (pop n y) a b c f g k = lane_or n k b c (append_cancel_right (b n) (c n) (y.vertex ∷ []) (sym f.0 ∙ g.0)) (λ d. f.1 k d ∙ sym (g.1 k d))
lanes_same (push n y) a b c f g k = lane_or n k b c (f.0 ∙ sym g.0) (λ d. f.1 k d ∙ sym (g.1 k d))

pub each_move_finds_its_vertex : EachMoveFindsItsVertex
each_move_finds_its_vertex p plan made more x a m = (
  (record { input = taken_by more; output = a.output ++ output_part x; lanes = vertices_on (made ++ x ∷ []) }, record { input = m.input; output = refl; lanes = found }),
  λ b d. record {
    moves = e' p plan made more x m.moves;
    input = append_cancel_left (input_part x) b.input (taken_by more) (sym d.input ∙ m.input);
    output = d.output ∙ ap (λ vs. vs ++ output_part x) m.output ∙ sym (flat_map-append output_part made (x ∷ []) ∙ ap (λ vs. put_by made ++ vs) (append-nil (output_part x)));
    lanes = lanes_same x a.lanes b.lanes (vertices_on (made ++ x ∷ [])) d.lanes found;
  },
)
  where
    found : MovesLanes x a.lanes (vertices_on (made ++ x ∷ []))
    found = lanes_found x a.lanes (vertices_on made) (vertices_on (made ++ x ∷ [])) m.lanes (lanes_move p plan made more x m.moves)

-- at the end no passing is on its way
pub all_arrived : (p : SweepPlan) → IsSweepPlan p → (k : ℕ) → passings_on (moves_of p) k ≡ []
all_arrived p plan k =
    standing_is p plan (moves_of p) [] whole k
    ∙ ap reverse (some_same ((rest_at p plan (moves_of p) [] whole).now k) []
    (sym (apart Passing same_passing (on_lanes (moves_of p)) (λ k. []) (rest_at p plan (moves_of p) [] whole).now (rest_at p plan (moves_of p) [] whole).reached k)
    ∙ apart Passing same_passing (on_lanes (moves_of p)) (λ k. []) (λ k. []) (lanes_never_mix p plan).emptied k))
  where
    whole : moves_of p ≡ moves_of p ++ []
    whole = sym (append-nil (moves_of p))

pub sweep_begins_and_ends : SweepBeginsAndEnds
sweep_begins_and_ends p plan = (
  record { moves = refl; input = refl; output = refl; lanes = λ k. refl },
  λ a m. (let e = fun_ext (λ k. m.lanes k ∙ ap vertices (all_arrived p plan k)) in λ i. record { input = m.input i; output = m.output i; lanes = e i }),
)

pub visits_split_moves : VisitsSplitMoves
visits_split_moves p made more e = ap (flat_map (moves_at p)) e ∙ flat_map-append (moves_at p) made more

pub corners_in_turn : CornersInTurn
corners_in_turn p c = (entering (dim_of p), leaving (dim_of p))
  where
    entering : (dim : Dim) → flat_map (λ n. corner_in p c (corner_of c n)) (reverse (corner_numbers dim)) ≡ arrivals_below p c (corners dim)
    entering Two = refl
    entering Three = refl

    leaving : (dim : Dim) → flat_map (λ n. corner_out p c (corner_of c n)) (corner_numbers dim) ≡ departures_from p c 0 (corners dim)
    leaving Two = refl
    leaving Three = refl
