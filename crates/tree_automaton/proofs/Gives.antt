-- Corners given one by one, and the record of a cell.
use Rattle.std.proofs.Common.{inl, inr, ◌≡◌, ℕ, zero, suc, ◌+◌, ◌<◌, Bool, true, false, List, [], ◌∷◌, ◌++◌, Option, Some, None, map, length, get_or, set, refl, ap, ap₂, sym, ◌∙◌, subst, arith, ⊎_elim, append-nil, append_assoc}
use Rattle.std.proofs.lemmas.Int.{ints}
use Rattle.std.specs.Prelude.{ℤ, pos, ◌≤ℤ◌, ◌+ℤ◌, if◌then◌else◌, cond, not, ◌||◌, slice_index_or, flat_map, count_by}
use Rattle.std.proofs.lemmas.Bool.{false≢true}
use Rattle.std.proofs.lemmas.List.{map-append, set-get_or}
use Rattle.std.proofs.lemmas.Grind.{flat_map-append}
use Rattle.std.proofs.lemmas.List.Sums.{sum_by-append}
use Rattle.stack_law.specs.Once.{IsIn}
use Rattle.peano_keys.specs.declared.cell.CellKey.{CellKey}
use Rattle.peano_keys.specs.declared.vertex.VertexKey.{VertexKey}
use Rattle.peano_keys.specs.Dim.{corners}
use Rattle.peano_keys.specs.Cell.{IsCell}
use Rattle.peano_keys.specs.Vertex.{IsVertex, corner_of}
use Rattle.peano_keys.specs.Grid.{Spacetree, IsStored, has_cell, is_refined}
use Rattle.peano_records.specs.declared.stored.Stored.{Stored}
use Rattle.peano_records.specs.declared.view.CellView.{CellView}
use Rattle.peano_records.specs.declared.view.Corner.{Corner}
use Rattle.peano_records.specs.declared.view.Corner.TheVariants.{Vertex, Hanging, Beyond}
use Rattle.peano_records.specs.Slots.{VertexRecord}
use Rattle.hanging_nodes.specs.Views.{HasSlots, IsStoredBefore}
use Rattle.vertex_stacks.specs.declared.kind.Kind.{Kind}
use Rattle.vertex_stacks.specs.Lists.{lane_at}
use Rattle.vertex_stacks.specs.Tales.{capped}
use Rattle.sweep_visits.specs.Plan.{SweepPlan, IsSweepPlan, dim_of, is_cell_in, is_held, is_kept, is_stored, is_stored_in, is_visited}
use Rattle.sweep_visits.specs.Visits.{Visit, leave, visits_of}
use Rattle.sweep_visits.specs.Runs.{next_in_run}
use Rattle.sweep_visits.specs.Moves.{Move, passing, corner_out}
use Rattle.sweep_visits.specs.Moments.{moves_by, departures_from}
use Rattle.sweep_visits.proofs.Tests.{stored_tells, stored_told}
use Rattle.sweep_streams.specs.Records.{written_at, left_at}
use Rattle.sweep_streams.proofs.Records.{each_held_cell_once}
use Rattle.sweep_streams.proofs.Lists.{sum-cons}
use Rattle.tree_automaton.specs.declared.decide.Course.{Course}
use Rattle.tree_automaton.specs.declared.decide.Exit.TheVariants as exit
use Rattle.tree_automaton.specs.TreeLists.{TreeLists}
use Rattle.tree_automaton.specs.Sweep.{TreeSweep, IsTreeSweep, is_owned_leaf, tells_new, served_by}
use Rattle.tree_automaton.specs.Story.{Call, Story, WasLeft, with_calls}
use Rattle.tree_automaton.specs.Moments.{HoldsVertices, HoldsCells, flag_of, record_by, record_of, records_of}
use Rattle.tree_automaton.specs.Decisions.{Decides, ExitIs}
use Rattle.tree_automaton.specs.Views.{VertexFits, CornerFits}
use Rattle.tree_automaton.specs.Visits.{LeaveAsks, LeaveGives, left_with, vertex_part}
use Rattle.tree_automaton.specs.Corners.{GiveAsks, GiveGives, GiveAllAsks, GivenBelow, MovesVertices, is_leaf_left}
use Rattle.tree_automaton.proofs.Stored.{and_both}
use Rattle.tree_automaton.proofs.Takes.{vertices_from, one_counted}
use Rattle.tree_automaton.proofs.Decided.{corner_vertex, sweep_plan}
use Rattle.tree_automaton.proofs.Entered.{old_dim}
use Rattle.tree_automaton.proofs.Holds.{was_put, was_pushed, holds_more}
use Rattle.tree_automaton.proofs.Moves.{goes_by_lane, goes_to_output, goes_nowhere, goes_not, comes_next, was_made, nothing_moves, made_is, moves_split, leave_moves}

or_left : (a b : Bool) → a ≡ true → (a || b) ≡ true
or_left true b e = refl
or_left false b e = absurd (false≢true e)

or_right : (a b : Bool) → b ≡ true → (a || b) ≡ true
or_right true b e = refl
or_right false b e = e

or_none : (a b : Bool) → (a ≡ true → ⊥) → (b ≡ true → ⊥) → (a || b) ≡ false
or_none true b x y = absurd (x refl)
or_none false true x y = absurd (y refl)
or_none false false x y = refl

module _ (p : TreeSweep) (w : VertexKey) (plan : IsTreeSweep p) (vertex : IsVertex (dim_of p.plan) w) where
  kept_by : (o : Option Spacetree) (s : VertexRecord) → p.plan.old ≡ o → HasSlots (dim_of p.plan) o p.plan.new (tells_new p.serves) w s → (is_stored_in o w || is_stored p.plan.new w) ≡ true
  kept_by None s e has = or_right (is_stored_in None w) (is_stored p.plan.new w) (stored_told p.plan.new w vertex has.0)
  kept_by (Some t) s e has = ⊎_elim
      (λ old. or_left (is_stored t w) (is_stored p.plan.new w) (stored_told t w (old_dim p t w plan vertex e) old))
      (λ new. or_right (is_stored t w) (is_stored p.plan.new w) (stored_told p.plan.new w vertex new))
      has.0

  -- a record that fits is of a kept vertex
  pub fits_kept : (s : VertexRecord) → s.key ≡ w → VertexFits p s → is_kept p.plan w ≡ true
  fits_kept s key fits = kept_by p.plan.old s refl (subst (λ k. HasSlots (dim_of p.plan) p.plan.old p.plan.new (tells_new p.serves) k s) key fits.slots)

  stored_not : (o : Option Spacetree) → ¬ IsStoredBefore o w → is_stored_in o w ≡ true → ⊥
  stored_not None not test = false≢true test
  stored_not (Some t) not test = not (stored_tells t w test)

  pub hangs_kept : (¬ IsStoredBefore p.plan.old w) → (¬ IsStored p.plan.new w) → is_kept p.plan w ≡ false
  hangs_kept before after = or_none (is_stored_in p.plan.old w) (is_stored p.plan.new w) (stored_not p.plan.old before) (λ t. after (stored_tells p.plan.new w t))

module _ (m : Story) (made more : List Move) (course : Course) (parent : Option CellView) (c : CellKey) (n : ℕ) (s : TreeLists) where
  abbrev w : VertexKey
  w = corner_of c n

  module _ (v : Stored) (asks : GiveAsks m made more course parent c n (Vertex v) s) (cell : IsCell course.dim c) (below : n < corners course.dim) where
    pub is_kept_here : is_kept m.sweep.plan w ≡ true
    is_kept_here = fits_kept m.sweep w asks.decides.sweep (subst (λ x. IsVertex x w) (sym asks.decides.is.dim) (corner_vertex course.dim c n cell below)) v asks.fits.0 asks.fits.1

    was_left : (to : Option CellKey) → next_in_run m.sweep.plan w c ≡ to → WasLeft m w to v
    was_left to next = let t = asks.told v refl in record { call = t.call; among = t.among; cell = c; visit = t.visit; next = next; number = n; below = subst (λ d. n < corners d) (sym asks.decides.is.dim) below; place = refl; corner = t.corner }

    pub to_a_lane : (lane : ℕ) (t : TreeLists) → lane < 6 → ExitIs m.sweep.plan c w (exit.Lane lane) → t ≡ record s { lanes = record s.lanes { lanes = set s.lanes.lanes lane (lane_at s.lanes lane ++ v ∷ []); spare = t.lanes.spare; pushed = capped (s.lanes.pushed + 1) } } → GiveGives m made more c n t
    to_a_lane lane t six is others =
        let move = goes_by_lane m.sweep.plan c w is.0 lane is_kept_here is.1 is.2 in
        was_made m t.lanes made more _ _ (sym move) (was_pushed m (sweep_plan m.sweep asks.decides.sweep) made more s.lanes lane (passing w is.0) t.lanes v six (comes_next m s.lanes made more _ _ move asks.holds) (record { key = asks.fits.0; fits = asks.fits.1; left = was_left (Some is.0) is.1 }) (ap (λ x. x.lanes) others))

    pub to_the_output : (t : TreeLists) → ExitIs m.sweep.plan c w exit.Output → t ≡ record s { lanes = record s.lanes { output = s.lanes.output ++ v ∷ []; spare = t.lanes.spare; put = capped (s.lanes.put + 1) } } → GiveGives m made more c n t
    to_the_output t is others =
        let move = goes_to_output m.sweep.plan c w is_kept_here is.0 is.1 in
        was_made m t.lanes made more _ _ (sym move) (was_put m (sweep_plan m.sweep asks.decides.sweep) made more s.lanes w t.lanes v (comes_next m s.lanes made more _ _ move asks.holds) (record { key = asks.fits.0; fits = asks.fits.1; left = was_left None is.0 }) (ap (λ x. x.lanes) others))

    pub given_up : ExitIs m.sweep.plan c w exit.GivenUp → GiveGives m made more c n s
    given_up is = nothing_moves m s.lanes made more _ (goes_nowhere m.sweep.plan c w is_kept_here is.0 is.1) asks.holds

  pub was_hanging : (k : Corner) → ((v : Stored) → k ≡ Vertex v → ⊥) → IsCell course.dim c → n < corners course.dim → GiveAsks m made more course parent c n k s → GiveGives m made more c n s
  was_hanging (Vertex v) not cell below asks = absurd (not v refl)
  was_hanging Beyond not cell below asks = absurd asks.fits
  was_hanging (Hanging k) not cell below asks =
      let vertex = subst (λ x. IsVertex x w) (sym asks.decides.is.dim) (corner_vertex course.dim c n cell below) in
      nothing_moves m s.lanes made more _ (goes_not m.sweep.plan c w (hangs_kept m.sweep w asks.decides.sweep vertex asks.fits.1 asks.fits.2)) asks.holds

pub begin_giving : (m : Story) (made more : List Move) (course : Course) (parent : Option CellView) (c : CellKey) (cs : List Corner) (s : TreeLists) → GiveAllAsks m made more course parent c cs s → GivenBelow m more c 0 (corners course.dim) s
begin_giving m made more course parent c cs s asks = record { made = made; holds = asks.holds }

module _ (m : Story) (made more : List Move) (course : Course) (parent : Option CellView) (c : CellKey) (n rest : ℕ) (cs : List Corner) (s t : TreeLists) (asks : GiveAllAsks m made more course parent c cs s) (below : n < corners course.dim) (dim : t.lanes.dim ≡ s.lanes.dim) (so_far : GivenBelow m more c n (suc rest) t) where
  -- the moves of the corners above one
  abbrev pub after : List Move
  after = departures_from m.sweep.plan c (n + 1) rest ++ more

  pub next_gives : (k : Corner) → k ≡ slice_index_or cs n Beyond → GiveAsks m so_far.made after course parent c n k t
  next_gives k is = record {
    decides = asks.decides;
    dim = dim ∙ asks.dim;
    holds = subst (λ ms. HoldsVertices m so_far.made ms t.lanes) (append_assoc (corner_out m.sweep.plan c (corner_of c n)) (departures_from m.sweep.plan c (n + 1) rest) more) so_far.holds;
    fits = subst (CornerFits m.sweep (corner_of c n)) (sym is) (asks.fits n below);
    told = λ v e. asks.told n v below (sym is ∙ e);
  }

  pub one_given : (u : TreeLists) → GiveGives m so_far.made after c n u → GivenBelow m more c (n + 1) rest u
  one_given u one = record { made = so_far.made ++ corner_out m.sweep.plan c (corner_of c n); holds = one }

pub get_or_any : {A : Type 0} (xs : List A) (n : ℕ) (d e : A) → n < length xs → get_or xs n d ≡ get_or xs n e
get_or_any [] n d e h = absurd (omega arith)
get_or_any (x ∷ xs) zero d e h = refl
get_or_any (x ∷ xs) (suc n) d e h = get_or_any xs n d e (omega arith)

-- the vertices from a corner on are that corner's and those after it
pub from_here : (cs : List Corner) (n : ℕ) → n < length cs → vertices_from n cs ≡ vertex_part (get_or cs n Beyond) + vertices_from (n + 1) cs
from_here cs n inside = ap (vertices_from n) (sym (set-get_or cs n Beyond)) ∙ one_counted cs n (get_or cs n Beyond) inside

pub records_more : (xs ys : List Call) → records_of (xs ++ ys) ≡ records_of xs ++ records_of ys
records_more [] ys = refl
records_more (x ∷ xs) ys = ap (λ l. record_of x.visit x.made ++ l) (records_more xs ys) ∙ sym (append_assoc (record_of x.visit x.made) (records_of xs) (records_of ys))

-- the record of a cell of a grid has its flag
flags_by : (t : Spacetree) (c : CellKey) (task : ℕ) (h : Bool) → map flag_of (record_by (if h then Some (is_refined t c) else None) task) ≡ map (is_refined t) (if h then c ∷ [] else [])
flags_by t c task true = refl
flags_by t c task false = refl

pub count_last : {A : Type 0} (f : A → Bool) (xs : List A) (x : A) → count_by f (xs ++ x ∷ []) ≡ (if f x then count_by f xs + 1 else count_by f xs)
count_last f xs x = sum_by-append (λ y. cond (f y) 1 0) xs (x ∷ []) ∙ (ap (λ n. count_by f xs + n) (sum-cons (λ y. cond (f y) 1 0) x []) ∙ by (f x))
  where
    by : (b : Bool) → count_by f xs + (cond b 1 0 + 0) ≡ (if b then count_by f xs + 1 else count_by f xs)
    by true = refl
    by false = omega arith

capped_more' : (n : ℕ) → capped (capped n + 1) ≡ capped (n + 1)
capped_more' n = omega arith

-- one more cell is counted where it is a leaf that the tree owns
leaf_counted : (p : SweepPlan) (c : CellKey) (h : Bool) (cs : List CellKey) (n : ℕ) → n ≡ capped (count_by (is_owned_leaf p) cs) → (if is_leaf_left p c (if h then Some (is_refined p.new c) else None) then capped (n + 1) else n) ≡ capped (count_by (is_owned_leaf p) (cs ++ (if h then c ∷ [] else [])))
leaf_counted p c false cs n e = e ∙ ap (λ l. capped (count_by (is_owned_leaf p) l)) (sym (append-nil cs))
leaf_counted p c true cs n e = by (is_owned_leaf p c) ∙ ap capped (sym (count_last (is_owned_leaf p) cs c))
  where
    by : (b : Bool) → (if b then capped (n + 1) else n) ≡ capped (if b then count_by (is_owned_leaf p) cs + 1 else count_by (is_owned_leaf p) cs)
    by true = ap (λ i. capped (i + 1)) e ∙ capped_more' (count_by (is_owned_leaf p) cs)
    by false = e

-- a cell that is left next is visited
pub left_is_visited : (p : SweepPlan) (made more : List Visit) (c : CellKey) → IsSweepPlan p → visits_of p ≡ made ++ leave c ∷ more → is_visited p c ≡ true
left_is_visited p made more c plan e =
    let among : IsIn c (flat_map left_at (visits_of p)) = subst (λ vs. IsIn c (flat_map left_at vs)) (sym e) (in_middle made) in
    let held = ((each_held_cell_once p plan).1.members c).0 among in
    and_both (is_held p c) (is_cell_in p.old c || has_cell p.new c) held.held held.passes
  where
    in_right : (xs ys : List CellKey) → IsIn c ys → IsIn c (xs ++ ys)
    in_right [] ys h = h
    in_right (x ∷ xs) ys h = inr (in_right xs ys h)

    in_middle : (vs : List Visit) → IsIn c (flat_map left_at (vs ++ leave c ∷ more))
    in_middle [] = inl refl
    in_middle (v ∷ vs) = in_right (left_at v) (flat_map left_at (vs ++ leave c ∷ more)) (in_middle vs)

module _ (m : Story) (made more : List Visit) (parent : Option CellView) (c : CellKey) (view : CellView) (kind : Kind) (s : TreeLists) (course : Course) (is : course ≡ record { dim = s.lanes.dim; depth = s.depth; range = s.range; dir = s.dir; serves = served_by kind }) (asks : LeaveAsks m made more parent c view kind s) where
  pub leaves : Decides m.sweep course parent c
  leaves = subst (λ x. Decides m.sweep x parent c) (sym is) (record {
    sweep = asks.before.sweep;
    is = record { dim = sym asks.before.of.dim; depth = sym asks.before.of.depth; range = sym asks.before.of.range; dir = sym asks.before.of.dir; serves = sym asks.before.served };
    above = asks.before.above;
    there = left_is_visited m.sweep.plan made more c (sweep_plan m.sweep asks.before.sweep) asks.during.visits;
  })

  -- the story with this leave
  abbrev pub told_with : CellView → Story
  told_with given = with_calls m (left_with c given view ∷ [])

  abbrev pub moved : List Move
  moved = moves_by m.sweep.plan made

  abbrev pub to_move : List Move
  to_move = moves_by m.sweep.plan more

  pub give_asks : (given : CellView) → GiveAllAsks (told_with given) moved to_move course parent c view.corners s
  give_asks given = record {
    decides = leaves;
    dim = ap (λ x. x.dim) (sym is);
    holds = subst (λ d. HoldsVertices (told_with given) moved (departures_from m.sweep.plan c 0 (corners d) ++ to_move) s.lanes) leaves.is.dim
        (subst (λ ms. HoldsVertices (told_with given) moved (ms ++ to_move) s.lanes) (leave_moves m.sweep.plan c)
        (holds_more m (left_with c given view ∷ []) moved (moves_by m.sweep.plan (leave c ∷ more)) s.lanes asks.during.vertices));
    fits = λ n below. asks.fits.each n (subst (λ x. n < corners x) (sym leaves.is.dim) below);
    told = λ n v below e. record {
      call = left_with c given view;
      among = record { before = m.calls; after = []; place = refl };
      visit = refl;
      corner = e;
    };
  }

  module _ (t u : TreeLists) (gives : (given : CellView) → GivenBelow (told_with given) to_move c (corners course.dim) 0 t) (others : MovesVertices s t) (same : u ≡ record t { written = u.written; cell_room = u.cell_room; counted = u.counted }) (written : u.written ≡ t.written ++ record_by view.will view.task) (counted : u.counted ≡ (if is_leaf_left m.sweep.plan c view.will then capped (t.counted + 1) else t.counted)) where
    abbrev wrote : List CellKey
    wrote = flat_map (written_at m.sweep.plan) made

    abbrev writes : List CellKey
    writes = if has_cell m.sweep.plan.new c then c ∷ [] else []

    visits : visits_of m.sweep.plan ≡ (made ++ leave c ∷ []) ++ more
    visits = asks.during.visits ∙ sym (append_assoc made (leave c ∷ []) more)

    writes_more : flat_map (written_at m.sweep.plan) (made ++ leave c ∷ []) ≡ wrote ++ writes
    writes_more = flat_map-append (written_at m.sweep.plan) made (leave c ∷ []) ∙ ap (λ l. wrote ++ l) (append-nil writes)

    was_written : u.written ≡ s.written ++ record_by view.will view.task
    was_written = written ∙ ap (λ z. z.written ++ record_by view.will view.task) others.lists

    records : (given : CellView) → HoldsCells (told_with given) (made ++ leave c ∷ []) more u
    records given = record {
      cells = ap (λ z. z.cells) same ∙ (ap (λ z. z.cells) others.lists ∙ asks.during.records.cells);
      flags = ap (map flag_of) was_written ∙ (map-append flag_of s.written (record_by view.will view.task) ∙ (ap₂ (λ x y. x ++ y) asks.during.records.flags (ap (λ o. map flag_of (record_by o view.task)) asks.fits.view.will ∙ flags_by m.sweep.plan.new c view.task (has_cell m.sweep.plan.new c)) ∙ (sym (map-append (is_refined m.sweep.plan.new) wrote writes) ∙ ap (map (is_refined m.sweep.plan.new)) (sym writes_more))));
      written = was_written ∙ (ap₂ (λ x y. x ++ y) asks.during.records.written (sym (append-nil (record_by view.will view.task))) ∙ sym (records_more m.calls (left_with c given view ∷ [])));
      counted = counted ∙ (ap (λ o. if is_leaf_left m.sweep.plan c o then capped (t.counted + 1) else t.counted) asks.fits.view.will ∙ (leaf_counted m.sweep.plan c (has_cell m.sweep.plan.new c) wrote t.counted (ap (λ z. z.counted) others.lists ∙ asks.during.records.counted) ∙ ap (λ l. capped (count_by (is_owned_leaf m.sweep.plan) l)) (sym writes_more)));
    }

    pub left : LeaveGives m made more c view u
    left given = record {
      visits = visits;
      vertices = subst (HoldsVertices (told_with given) (moves_by m.sweep.plan (made ++ leave c ∷ [])) to_move) (sym (ap (λ z. z.lanes) same)) (made_is (told_with given) t.lanes (gives given).made (moves_by m.sweep.plan (made ++ leave c ∷ [])) to_move (moves_split m.sweep.plan (made ++ leave c ∷ []) more visits) (gives given).holds);
      records = records given;
    }

-- what is left to give and what was given are what there was
pub spare_kept : (cs : List Corner) (n : ℕ) (k : Corner) (a b d : ℤ) (all : ℕ) → n < length cs → k ≡ get_or cs n Beyond → (a +ℤ pos (vertices_from n cs)) ≤ℤ (b +ℤ pos all) → b ≤ℤ (d +ℤ pos (vertex_part k)) → (a +ℤ pos (vertices_from (n + 1) cs)) ≤ℤ (d +ℤ pos all)
spare_kept cs n k a b d all inside here old one =
    let now : vertices_from n cs ≡ vertex_part k + vertices_from (n + 1) cs = from_here cs n inside ∙ ap (λ j. vertex_part j + vertices_from (n + 1) cs) (sym here) in
    omega (arith, ints, now, old, one)

-- room for all is room for one
pub room_for_one : (cs : List Corner) (n : ℕ) (k : Corner) (a b : ℤ) (all : ℕ) → n < length cs → k ≡ get_or cs n Beyond → (a +ℤ pos (vertices_from n cs)) ≤ℤ (b +ℤ pos all) → pos all ≤ℤ a → pos (vertex_part k) ≤ℤ b
room_for_one cs n k a b all inside here old room =
    let now : vertices_from n cs ≡ vertex_part k + vertices_from (n + 1) cs = from_here cs n inside ∙ ap (λ j. vertex_part j + vertices_from (n + 1) cs) (sym here) in
    omega (arith, ints, now, old, room)
