-- Corners taken one by one.
use Rattle.std.proofs.Common.{◌≡◌, ℕ, zero, suc, ◌+◌, ◌<◌, ◌≤◌, true, List, [], ◌∷◌, ◌++◌, Option, Some, None, length, get_or, set, drop, refl, ap, sym, ◌∙◌, subst, arith, ⊎_elim, append_assoc}
use Rattle.std.proofs.lemmas.Bool.{cases_eq, false≢true}
use Rattle.std.proofs.lemmas.List.{get_or-set_same, get_or-set_other, drop-set}
use Rattle.peano_keys.specs.declared.cell.CellKey.{CellKey}
use Rattle.peano_keys.specs.declared.vertex.VertexKey.{VertexKey}
use Rattle.peano_keys.specs.Dim.{corners}
use Rattle.peano_keys.specs.Vertex.{corner_of}
use Rattle.peano_records.specs.declared.stored.Stored.{Stored}
use Rattle.peano_records.specs.declared.view.CellView.{CellView}
use Rattle.peano_records.specs.declared.view.Corner.{Corner}
use Rattle.peano_records.specs.declared.view.Corner.TheVariants.{Vertex, Hanging, Beyond}
use Rattle.peano_records.specs.Slots.{fresh}
use Rattle.vertex_stacks.specs.Lists.{SweepLists, lane_at}
use Rattle.vertex_stacks.specs.Tales.{capped}
use Rattle.sweep_visits.specs.Plan.{is_stored_in, is_stored}
use Rattle.sweep_visits.specs.Moves.{Move, pop, passing, corner_in}
use Rattle.sweep_visits.specs.Moments.{arrivals_below}
use Rattle.tree_automaton.specs.declared.kinds.Serves.TheVariants.{Plain}
use Rattle.tree_automaton.specs.declared.decide.Course.{Course}
use Rattle.tree_automaton.specs.declared.decide.Entry.TheVariants as entry
use Rattle.tree_automaton.specs.TreeLists.{TreeLists, page_count}
use Rattle.tree_automaton.specs.Sweep.{GridsServe}
use Rattle.tree_automaton.specs.Story.{Story}
use Rattle.tree_automaton.specs.Moments.{HoldsVertices}
use Rattle.tree_automaton.specs.Decisions.{Decides, EntryIs}
use Rattle.tree_automaton.specs.Visits.{CornerTaken, ComesFrom, vertex_part, vertices_in}
use Rattle.tree_automaton.specs.Corners.{CornerAsks, CornerGives, CornersAsk, CornersGive, AreBeyond, MovesVertices}
use Rattle.tree_automaton.proofs.Decided.{sweep_plan, plain_stays}
use Rattle.tree_automaton.proofs.Moves.{comes_by_lane, comes_by_input, comes_new, comes_not, comes_next, was_made, nothing_moves}
use Rattle.tree_automaton.proofs.Holds.{taken, take_there, popped, pop_there}

-- only the lanes changed
pub only_lanes : (s t : TreeLists) (l : SweepLists) → t ≡ record s { lanes = l } → l.dim ≡ s.lanes.dim → l.tale ≡ s.lanes.tale → page_count s.lanes ≤ page_count t.lanes → MovesVertices s t
only_lanes s t l e dim tale pages = record {
  lists = e ∙ ap (λ x. record s { lanes = x }) (sym (ap (λ x. x.lanes) e));
  dim = ap (λ x. x.lanes.dim) e ∙ dim;
  tale = ap (λ x. x.lanes.tale) e ∙ tale;
  pages = pages;
}

pub none_moved : (s : TreeLists) → MovesVertices s s
none_moved s = record { lists = refl; dim = refl; tale = refl; pages = omega arith }

pub moved_again : (s t u : TreeLists) → MovesVertices s t → MovesVertices t u → MovesVertices s u
moved_again s t u x y = record {
  lists = y.lists ∙ ap (λ (z : TreeLists). record z { lanes = u.lanes }) x.lists;
  dim = y.dim ∙ x.dim;
  tale = y.tale ∙ x.tale;
  pages = (let a = x.pages in let b = y.pages in omega (arith, a, b));
}

-- as many pages are no fewer
pub as_many_pages : (a b : ℕ) → b ≡ a → a ≤ b
as_many_pages a b e = omega (arith, e)

module _ (m : Story) (made more : List Move) (course : Course) (parent : Option CellView) (c : CellKey) (n : ℕ) (s : TreeLists) (asks : CornerAsks m made more course parent c n s) where
  abbrev w : VertexKey
  w = corner_of c n

  by_lane : (lane : ℕ) → EntryIs m.sweep.plan c w (entry.Lane lane) → corner_in m.sweep.plan c w ≡ pop lane (passing w c) ∷ []
  by_lane lane is = comes_by_lane m.sweep.plan c w is.1.0 lane is.0 is.1.1 is.1.2

  pub lane_there : (lane : ℕ) → EntryIs m.sweep.plan c w (entry.Lane lane) → lane_at s.lanes lane ≡ [] → ⊥
  lane_there lane is none = pop_there m (sweep_plan m.sweep asks.decides.sweep) made more s.lanes lane (passing w c) (comes_next m s.lanes made more _ _ (by_lane lane is) asks.holds) none

  pub input_there : EntryIs m.sweep.plan c w entry.Input → s.lanes.input ≡ [] → ⊥
  input_there is none = take_there m (sweep_plan m.sweep asks.decides.sweep) made more s.lanes w (comes_next m s.lanes made more _ _ (comes_by_input m.sweep.plan c w is.0 is.1 is.2) asks.holds) none

  from_lane : (lane : ℕ) (t : TreeLists) (v : Stored) → EntryIs m.sweep.plan c w (entry.Lane lane) → lane_at s.lanes lane ≡ lane_at t.lanes lane ++ v ∷ [] → t ≡ record s { lanes = record s.lanes { lanes = set s.lanes.lanes lane (lane_at t.lanes lane); spare = t.lanes.spare } } → CornerGives m made more c n t (Vertex v)
  from_lane lane t v is last others =
      let done = popped m (sweep_plan m.sweep asks.decides.sweep) made more s.lanes lane (passing w c) t.lanes v (comes_next m s.lanes made more _ _ (by_lane lane is) asks.holds) last (ap (λ x. x.lanes) others) in
      record {
        holds = was_made m t.lanes made more _ _ (sym (by_lane lane is)) done.0;
        corner_is = (is.0, subst (λ o. ComesFrom m c w o (is_stored_in m.sweep.plan.old w) v) (sym is.1.1) done.1);
      }

  from_input : (t : TreeLists) (v : Stored) → EntryIs m.sweep.plan c w entry.Input → s.lanes.input ≡ v ∷ t.lanes.input → t ≡ record s { lanes = record s.lanes { input = t.lanes.input; spare = t.lanes.spare; taken = capped (s.lanes.taken + 1) } } → CornerGives m made more c n t (Vertex v)
  from_input t v is first others =
      let move = comes_by_input m.sweep.plan c w is.0 is.1 is.2 in
      let done = taken m (sweep_plan m.sweep asks.decides.sweep) made more s.lanes w t.lanes v (comes_next m s.lanes made more _ _ move asks.holds) first (ap (λ x. x.lanes) others) in
      record {
        holds = was_made m t.lanes made more _ _ (sym move) done.0;
        corner_is = (is.0, subst (λ o. ComesFrom m c w o (is_stored_in m.sweep.plan.old w) v) (sym is.1) (subst (λ b. ComesFrom m c w None b v) (sym is.2) done.1));
      }

  -- the same of the corner to which the vertex came
  pub lane_gives : (lane : ℕ) (t : TreeLists) (v : Stored) (corner : Corner) → corner ≡ Vertex v → EntryIs m.sweep.plan c w (entry.Lane lane) → lane_at s.lanes lane ≡ lane_at t.lanes lane ++ v ∷ [] → t ≡ record s { lanes = record s.lanes { lanes = set s.lanes.lanes lane (lane_at t.lanes lane); spare = t.lanes.spare } } → CornerGives m made more c n t corner
  lane_gives lane t v corner at is last others = subst (CornerGives m made more c n t) (sym at) (from_lane lane t v is last others)

  pub input_gives : (t : TreeLists) (v : Stored) (corner : Corner) → corner ≡ Vertex v → EntryIs m.sweep.plan c w entry.Input → s.lanes.input ≡ v ∷ t.lanes.input → t ≡ record s { lanes = record s.lanes { input = t.lanes.input; spare = t.lanes.spare; taken = capped (s.lanes.taken + 1) } } → CornerGives m made more c n t corner
  input_gives t v corner at is first others = subst (CornerGives m made more c n t) (sym at) (from_input t v is first others)

  pub made_new : (v : Stored) (k : VertexKey) → EntryIs m.sweep.plan c w entry.Made → k ≡ w → v ≡ fresh course.dim k → CornerGives m made more c n s (Vertex v)
  made_new v k is key new = record {
    holds = nothing_moves m s.lanes made more _ (comes_new m.sweep.plan c w is.0 is.1 is.2) asks.holds;
    corner_is = (is.0, subst (λ o. ComesFrom m c w o (is_stored_in m.sweep.plan.old w) v) (sym is.1) (subst (λ b. ComesFrom m c w None b v) (sym is.2) (new ∙ (ap (λ k. fresh course.dim k) key ∙ ap (λ d. fresh d w) (sym asks.decides.is.dim)))));
  }

  pub left_hanging : (k : VertexKey) → EntryIs m.sweep.plan c w entry.Hanging → k ≡ w → CornerGives m made more c n s (Hanging k)
  left_hanging k is key = record { holds = nothing_moves m s.lanes made more _ (comes_not m.sweep.plan c w is) asks.holds; corner_is = (is, key) }

  -- in a plain sweep no vertex is made
  pub none_made : EntryIs m.sweep.plan c w entry.Made → course.serves ≡ Plain → ⊥
  none_made is plain =
      let one : m.sweep.plan.old ≡ Some m.sweep.plan.new = subst (λ s. GridsServe s m.sweep.plan) (asks.decides.is.serves ∙ plain) asks.decides.sweep.serve in
      let stays : true ≡ is_stored m.sweep.plan.new w = plain_stays m.sweep course parent c w asks.decides plain is.0 in
      false≢true (sym is.2 ∙ (ap (λ o. is_stored_in o w) one ∙ sym stays))

pub begin_taking : (m : Story) (made more : List Move) (course : Course) (parent : Option CellView) (c : CellKey) (s : TreeLists) (cs : List Corner) → CornersAsk m made more course parent c s → CornersGive m more course c (corners course.dim) s cs
begin_taking m made more course parent c s cs asks = record {
  made = made;
  holds = asks.holds;
  each = λ n least below. absurd (omega (arith, least, below));
}

module _ (m : Story) (more : List Move) (course : Course) (c : CellKey) (k : ℕ) (t : TreeLists) (cs : List Corner) (so_far : CornersGive m more course c (suc k) t cs) where
  -- the moves of the corners below one
  abbrev pub rest : List Move
  rest = arrivals_below m.sweep.plan c k ++ more

  -- the next corner can be taken
  pub next_asks : (parent : Option CellView) → Decides m.sweep course parent c → t.lanes.dim ≡ course.dim → CornerAsks m so_far.made rest course parent c k t
  next_asks parent decides dim = record {
    decides = decides;
    dim = dim;
    holds = subst (λ ms. HoldsVertices m so_far.made ms t.lanes) (append_assoc (corner_in m.sweep.plan c (corner_of c k)) (arrivals_below m.sweep.plan c k) more) so_far.holds;
  }

  -- one corner more was taken
  pub one_taken : (u : TreeLists) (corner : Corner) → k < length cs → CornerGives m so_far.made rest c k u corner → CornersGive m more course c k u (set cs k corner)
  one_taken u corner inside one = record {
    made = so_far.made ++ corner_in m.sweep.plan c (corner_of c k);
    holds = one.holds;
    each = λ n least below. ⊎_elim
        (λ same. let P : ℕ → Type 0 = λ j. CornerTaken m c (corner_of c j) (get_or (set cs k corner) j Beyond) in subst P (sym same) (subst (CornerTaken m c (corner_of c k)) (sym (get_or-set_same cs k corner Beyond inside)) one.corner_is))
        (λ other. subst (CornerTaken m c (corner_of c n)) (sym (get_or-set_other cs k n corner Beyond other)) (so_far.each n (omega (arith, least, other)) below))
        (cases_eq n k);
  }

-- how many vertices there are among the corners from a number on
abbrev pub vertices_from : ℕ → List Corner → ℕ
vertices_from n cs = vertices_in (drop n cs)

-- places beyond the corners have none
pub none_beyond : (n : ℕ) (cs : List Corner) → AreBeyond n cs → vertices_from n cs ≡ 0
none_beyond zero [] h = refl
none_beyond (suc n) [] h = refl
none_beyond zero (x ∷ cs) h =
    let first : vertex_part x ≡ 0 = ap vertex_part (h 0 (omega arith)) in
    let rest : vertices_in cs ≡ 0 = none_beyond 0 cs (λ k least. h (suc k) (omega arith)) in
    omega (arith, first, rest)
none_beyond (suc n) (x ∷ cs) h = none_beyond n cs (λ k least. h (suc k) (omega (arith, least)))

-- one corner more
pub one_counted : (cs : List Corner) (k : ℕ) (corner : Corner) → k < length cs → vertices_from k (set cs k corner) ≡ vertex_part corner + vertices_from (k + 1) cs
one_counted cs k corner inside = ap vertices_in (drop-set cs k corner inside)

-- places beyond the corners stay so
pub beyond_stays : (count : ℕ) (cs : List Corner) (k : ℕ) (corner : Corner) → k < count → AreBeyond count cs → AreBeyond count (set cs k corner)
beyond_stays count cs k corner below h = λ n least. get_or-set_other cs k n corner Beyond (λ e. omega (arith, below, least, e)) ∙ h n least
