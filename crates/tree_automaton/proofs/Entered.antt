-- A cell that was entered: its record, its corners, its sides and the value that it carries.
use Rattle.peano_keys.proofs.Positions.{cell_stands_in_slot}
use Rattle.peano_keys.proofs.Anchors.{home_is_stored}
use Rattle.hanging_nodes.proofs.TwoGrids.{refined_there}
use Rattle.vertex_stacks.specs.declared.kind.Kind.{Kind}
use Rattle.peano_keys.specs.declared.dim.Dim.TheVariants.{Two, Three}
use Rattle.std.proofs.Common.{lit<, ◌%◌, ◌≡◌, ℕ, ◌<◌, ◌≤◌, Bool, true, false, List, [], ◌∷◌, ◌++◌, Option, Some, None, length, refl, ap, sym, ◌∙◌, subst, arith, ⊎_elim, inl, inr, ne_eqb}
use Rattle.std.specs.Prelude.{◌||◌, ◌==◌, if◌then◌else◌, slice_index_or}
use Rattle.std.proofs.lemmas.Bool.{cases_Bool, false≢true}
use Rattle.peano_keys.specs.declared.dim.Dim.{Dim}
use Rattle.peano_keys.specs.declared.cell.CellKey.{CellKey}
use Rattle.peano_keys.specs.declared.vertex.VertexKey.{VertexKey}
use Rattle.peano_keys.specs.Dim.{corners}
use Rattle.peano_keys.specs.Cell.{IsCell, at, parent_of}
use Rattle.peano_keys.specs.Vertex.{IsVertex, corner_of, inner_bit, home_of, slot_from, adjacent_of}
use Rattle.peano_keys.specs.Grid.{Spacetree, IsStored, has_cell, is_refined}
use Rattle.peano_keys.specs.Field.{value_of, sides_of}
use Rattle.peano_records.specs.declared.view.CellView.{CellView}
use Rattle.peano_records.specs.declared.view.CellRecord.{CellRecord}
use Rattle.peano_records.specs.declared.view.Corner.{Corner}
use Rattle.peano_records.specs.declared.view.Corner.TheVariants.{Vertex, Hanging, Beyond}
use Rattle.peano_records.specs.AtRest.{SaysOfCells, HoldsCell}
use Rattle.peano_records.specs.Tells.{corner_at}
use Rattle.hanging_nodes.specs.Views.{HasSlots, IsStoredBefore}
use Rattle.hanging_nodes.specs.Sides.{IsCornerOf, KnowsSides}
use Rattle.std.specs.Prelude.{map, flat_map, count_by}
use Rattle.std.proofs.Common.{append-nil, append_assoc}
use Rattle.std.proofs.lemmas.Grind.{flat_map-append}
use Rattle.stack_law.specs.Once.{IsIn}
use Rattle.peano_records.specs.declared.stored.Stored.{Stored}
use Rattle.vertex_stacks.specs.Tales.{capped}
use Rattle.sweep_visits.specs.Plan.{SweepPlan, IsSweepPlan, dim_of, is_cell_in, is_refined_in, is_held, is_visited, is_kept, is_stored, is_stored_in}
use Rattle.sweep_visits.specs.Visits.{Visit, enter, visits_of}
use Rattle.sweep_visits.specs.Runs.{previous_in_run}
use Rattle.sweep_visits.specs.Moves.{Move}
use Rattle.sweep_visits.specs.Moments.{moves_by, arrivals_below}
use Rattle.sweep_visits.proofs.Tests.{stored_tells, stored_told}
use Rattle.sweep_streams.specs.Records.{read_at, written_at, entered_at}
use Rattle.sweep_streams.proofs.Records.{each_held_cell_once}
use Rattle.tree_automaton.specs.declared.kinds.Serves.{Serves}
use Rattle.tree_automaton.specs.declared.kinds.Serves.TheVariants.{Raising, Adapting, Plain}
use Rattle.tree_automaton.specs.declared.decide.Course.{Course}
use Rattle.tree_automaton.specs.TreeLists.{TreeLists}
use Rattle.tree_automaton.specs.Sweep.{TreeSweep, IsTreeSweep, GridsServe, flag_in, record_in, is_owned_leaf, served_by, tells_new}
use Rattle.tree_automaton.specs.Story.{Story}
use Rattle.tree_automaton.specs.Moments.{HoldsVertices, HoldsCells, IsDuring, flag_of}
use Rattle.tree_automaton.specs.Decisions.{Decides}
use Rattle.tree_automaton.specs.Views.{KnowsField, HasValues, CornerFits, CornerGiven, value_in, value_at_home}
use Rattle.tree_automaton.specs.Visits.{CornerTaken, ComesFrom, EnterAsks, EnterGives, FirstWill, will_first}
use Rattle.tree_automaton.specs.Corners.{ReadAsks, ReadGives, AreTaken, AreBeyond, CornersAsk, CornersGive, MovesVertices}
use Rattle.tree_automaton.proofs.Stored.{and_second, and_both, not_kept, not_kept_before}
use Rattle.tree_automaton.proofs.Decided.{corner_vertex, old_grid, sweep_plan}
use Rattle.tree_automaton.proofs.Moves.{enter_moves, made_is, moves_split}

-- the old grid has the plan's dimension
pub old_dim : (p : TreeSweep) (t : Spacetree) (w : VertexKey) → IsTreeSweep p → IsVertex (dim_of p.plan) w → p.plan.old ≡ Some t → IsVertex t.dim w
old_dim p t w plan vertex e = subst (λ d. IsVertex d w) (sym (old_grid p t plan e).old_dim) vertex

before_not : (p : TreeSweep) (w : VertexKey) (o : Option Spacetree) → IsTreeSweep p → IsVertex (dim_of p.plan) w → p.plan.old ≡ o → is_stored_in o w ≡ false → ¬ IsStoredBefore o w
before_not p w None plan vertex is e stored = stored
before_not p w (Some t) plan vertex is e stored = false≢true (sym e ∙ stored_told t w (old_dim p t w plan vertex is) stored)

or_second : (a b : Bool) → (a || b) ≡ true → a ≡ false → b ≡ true
or_second true b e f = absurd (false≢true (sym f))
or_second false b e f = e

-- a corner as it was taken is one as a visitor is given it
module _ (m : Story) (c : CellKey) (w : VertexKey) (plan : IsTreeSweep m.sweep) (vertex : IsVertex (dim_of m.sweep.plan) w) where
  by_way : (s : Stored) (o : Option CellKey) (b : Bool) → is_kept m.sweep.plan w ≡ true → is_stored_in m.sweep.plan.old w ≡ b → ComesFrom m c w o b s → CornerGiven m.sweep w (Vertex s)
  by_way s (Some q) b kept e from = (from.key, inl from.fits)
  by_way s None true kept e from = (from.key, inl from.fits)
  by_way s None false kept e from = (
    ap (λ x. x.key) from,
    inr (record {
      fresh = from;
      stored = stored_tells m.sweep.plan.new w (or_second (is_stored_in m.sweep.plan.old w) (is_stored m.sweep.plan.new w) kept e);
      first = before_not m.sweep w m.sweep.plan.old plan vertex refl e;
    }),
  )

  pub given : (k : Corner) → CornerTaken m c w k → CornerGiven m.sweep w k
  given (Vertex s) taken = by_way s (previous_in_run m.sweep.plan w c) (is_stored_in m.sweep.plan.old w) taken.0 refl taken.1
  given (Hanging k) taken = (taken.1, not_kept_before m.sweep.plan w (λ t e. old_dim m.sweep t w plan vertex e) taken.0, not_kept m.sweep.plan w vertex taken.0)
  given Beyond taken = absurd taken

-- in a plain sweep a corner that was given is one of the grid and the field
plain_corner : (p : TreeSweep) (w : VertexKey) (k : Corner) → p.plan.old ≡ Some p.plan.new → p.serves ≡ Plain → CornerGiven p w k → IsCornerOf p.plan.new p.field w k
plain_corner p w (Vertex s) one plain (key, inl fits) =
    let stored : IsStored p.plan.new s.key = ⊎_elim (λ x. x) (λ x. x) (subst (λ o. HasSlots (dim_of p.plan) o p.plan.new (tells_new p.serves) s.key s) one fits.slots).0 in
    (key, subst (IsStored p.plan.new) key stored, subst (λ v. HasValues v p s) plain fits.values)
plain_corner p w (Vertex s) one plain (key, inr made) = absurd (made.first (subst (λ o. IsStoredBefore o w) (sym one) made.stored))
plain_corner p w (Hanging k) one plain given = (given.0, given.2)
plain_corner p w Beyond one plain given = given

-- a visited cell of a plain sweep is one of the grid
pub plain_has : (p : TreeSweep) (c : CellKey) → p.plan.old ≡ Some p.plan.new → is_visited p.plan c ≡ true → has_cell p.plan.new c ≡ true
plain_has p c one there = either (has_cell p.plan.new c) (subst (λ o. (is_cell_in o c || has_cell p.plan.new c) ≡ true) one (and_second (is_held p.plan c) (is_cell_in p.plan.old c || has_cell p.plan.new c) there))
  where
    either : (b : Bool) → (b || b) ≡ true → b ≡ true
    either true e = refl
    either false e = e

-- below the root a cell of a grid has a refined parent
parent_refined : (t : Spacetree) (c : CellKey) → 0 < c.level → has_cell t c ≡ true → is_refined t (parent_of c) ≡ true
parent_refined t c below has = let not : c.level ≡ 0 → ⊥ = λ e. omega (arith, e, below) in subst (λ b. (b || is_refined t (parent_of c)) ≡ true) (ne_eqb c.level 0 not) has

module _ (m : Story) (course : Course) (c : CellKey) (view : CellView) (d : Decides m.sweep course (Some view) c) (plain : course.serves ≡ Plain) where
  served : m.sweep.serves ≡ Plain
  served = d.is.serves ∙ plain

  one_grid : m.sweep.plan.old ≡ Some m.sweep.plan.new
  one_grid = subst (λ s. GridsServe s m.sweep.plan) served d.sweep.serve

  pub knows : (cs : List Corner) → IsCell course.dim c → AreTaken m c cs → KnowsSides m.sweep.plan.new m.sweep.field c view.sides cs
  knows cs cell taken = record {
    refined = parent_refined m.sweep.plan.new c d.above.0 (plain_has m.sweep c one_grid d.there);
    sides = sides_known;
    corners = λ n below. plain_corner m.sweep (corner_of c n) (slice_index_or cs n Beyond) one_grid served
        (given m c (corner_of c n) d.sweep (corner_vertex (dim_of m.sweep.plan) c n (subst (λ x. IsCell x c) (sym d.is.dim) cell) below) (slice_index_or cs n Beyond) (taken n below));
  }
    where
      sides_known : view.sides ≡ sides_of m.sweep.plan.new m.sweep.field (parent_of c)
      sides_known = (subst (λ s. KnowsField s m.sweep (parent_of c) view) served d.above.1.view.field).0

slot_below : (dim : Dim) (n : ℕ) → slot_from dim n < corners dim
slot_below Two n = omega arith
slot_below Three n = omega arith

inner_below : (x : ℕ) → inner_bit x < 2
inner_below x = ⊎_elim (λ e. let h : (x % 3 == 0) ≡ true = e in rw h (lit< tt)) (λ e. let h : (x % 3 == 0) ≡ false = e in rw h (lit< tt)) (cases_Bool (x % 3 == 0))

home_below : (dim : Dim) (c : CellKey) → home_of dim c < corners dim
home_below Two c = let a = inner_below (at c 0) in let b = inner_below (at c 1) in omega (arith, a, b)
home_below Three c = let a = inner_below (at c 0) in let b = inner_below (at c 1) in let d = inner_below (at c 2) in omega (arith, a, b, d)

-- the slot of a stored corner has the value of its cell
value_of_corner : (p : TreeSweep) (c : CellKey) (n : ℕ) (k : Corner) → p.serves ≡ Plain → IsCell (dim_of p.plan) c → n < corners (dim_of p.plan) → IsStored p.plan.new (corner_of c n) → CornerFits p (corner_of c n) k → value_in (dim_of p.plan) n k ≡ value_of p.plan.new p.field c
value_of_corner p c n (Vertex s) plain cell below stored fits =
    let values : SaysOfCells (dim_of p.plan) s (HoldsCell p.plan.new p.field) = subst (λ v. HasValues v p s) plain fits.1.values in
    let here : adjacent_of (dim_of p.plan) s.key (slot_from (dim_of p.plan) n) ≡ Some c = ap (λ w. adjacent_of (dim_of p.plan) w (slot_from (dim_of p.plan) n)) fits.0 ∙ cell_stands_in_slot (dim_of p.plan) c n cell below in
    (values (slot_from (dim_of p.plan) n) c (slot_below (dim_of p.plan) n) here).value
value_of_corner p c n (Hanging l) plain cell below stored fits = absurd (fits.2 stored)
value_of_corner p c n Beyond plain cell below stored fits = absurd fits

-- what a cell carries is its parent's value
pub carries : (p : TreeSweep) (course : Course) (c : CellKey) (view : CellView) → Decides p course (Some view) c → course.serves ≡ Plain → value_at_home course.dim view ≡ value_of p.plan.new p.field (parent_of c)
carries p course c view d plain =
    let served : p.serves ≡ Plain = d.is.serves ∙ plain in
    let one : p.plan.old ≡ Some p.plan.new = subst (λ s. GridsServe s p.plan) served d.sweep.serve in
    let up : is_refined p.plan.new (parent_of c) ≡ true = parent_refined p.plan.new c d.above.0 (plain_has p c one d.there) in
    let cell : IsCell (dim_of p.plan) (parent_of c) = d.sweep.new_grid.cells (parent_of c) up in
    let there : has_cell p.plan.new (parent_of c) ≡ true = refined_there p.plan.depth p.plan.new (parent_of c) d.sweep.new_grid up in
    let home = home_of (dim_of p.plan) (parent_of c) in
    let below : home < corners (dim_of p.plan) = home_below (dim_of p.plan) (parent_of c) in
    let value = value_of_corner p (parent_of c) home (corner_at view home) served cell below (home_is_stored p.plan.new (parent_of c) cell there) (d.above.1.each home below) in
    ap (λ x. value_in x (home_of x view.key) (corner_at view (home_of x view.key))) (sym d.is.dim) ∙ (ap (λ k. value_in (dim_of p.plan) (home_of (dim_of p.plan) k) (corner_at view (home_of (dim_of p.plan) k))) d.above.1.view.key ∙ value)

-- an enter writes no record
pub enters_write_none : (p : SweepPlan) (made : List Visit) (c : CellKey) → flat_map (written_at p) (made ++ enter c ∷ []) ≡ flat_map (written_at p) made
enters_write_none p made c = flat_map-append (written_at p) made (enter c ∷ []) ∙ append-nil (flat_map (written_at p) made)

module _ (m : Story) (made more : List Visit) (course : Course) (parent : Option CellView) (c : CellKey) (s : TreeLists) (asks : ReadAsks m made more course parent c s) where
  -- the records that come next, where it is known whether the cell is one of the old grid
  come : (b : Bool) → is_cell_in m.sweep.plan.old c ≡ b → s.cells ≡ map (record_in m.sweep) ((if b then c ∷ [] else []) ++ flat_map (read_at m.sweep.plan) more)
  come b e = asks.holds.cells ∙ ap (λ b. map (record_in m.sweep) ((if b then c ∷ [] else []) ++ flat_map (read_at m.sweep.plan) more)) e

  -- the cell streams after the record was read
  after_read : (t : TreeLists) → t ≡ record s { cells = t.cells; live = false } → t.cells ≡ map (record_in m.sweep) (flat_map (read_at m.sweep.plan) more) → HoldsCells m (made ++ enter c ∷ []) more t
  after_read t is cells = record {
    cells = cells;
    flags = ap (λ z. map flag_of z.written) is ∙ (asks.holds.flags ∙ ap (map (is_refined m.sweep.plan.new)) (sym (enters_write_none m.sweep.plan made c)));
    written = ap (λ z. z.written) is ∙ asks.holds.written;
    counted = ap (λ z. z.counted) is ∙ (asks.holds.counted ∙ ap (λ cs. capped (count_by (is_owned_leaf m.sweep.plan) cs)) (sym (enters_write_none m.sweep.plan made c)));
  }

  -- a cell of no old grid has no record
  pub read_none : (t : TreeLists) → false ≡ is_cell_in m.sweep.plan.old c → t ≡ record s { live = false } → ReadGives m made more c t None 0
  read_none t out is = record {
    holds = after_read t (is ∙ ap (λ x. record s { cells = x; live = false }) (sym (ap (λ z. z.cells) is))) (ap (λ z. z.cells) is ∙ come false (sym out));
    was_is = ap (λ x. if x then Some (is_refined_in m.sweep.plan.old c) else None) out;
    task_is = λ e. absurd (false≢true (out ∙ e));
  }

  -- a cell of the old grid has the record that comes next
  pub read_some : (t : TreeLists) (r : CellRecord) → true ≡ is_cell_in m.sweep.plan.old c → s.cells ≡ r ∷ t.cells → t ≡ record s { cells = t.cells; live = false } → ReadGives m made more c t (Some r.refined) r.task
  read_some t r there first is =
      let rest = map (record_in m.sweep) (flat_map (read_at m.sweep.plan) more) in
      let e : r ∷ t.cells ≡ record_in m.sweep c ∷ rest = sym first ∙ come true (sym there) in
      let one : r ≡ record_in m.sweep c = head_is r (record_in m.sweep c) t.cells rest e in
      record {
        holds = after_read t is (tail_is r (record_in m.sweep c) t.cells rest e);
        was_is = ap (λ x. Some x.refined) one ∙ ap (λ x. if x then Some (is_refined_in m.sweep.plan.old c) else None) there;
        task_is = λ _. ap (λ x. x.task) one;
      }
    where
      head_is : (x y : CellRecord) (xs ys : List CellRecord) → x ∷ xs ≡ y ∷ ys → x ≡ y
      head_is x y xs ys e = cc

      tail_is : (x y : CellRecord) (xs ys : List CellRecord) → x ∷ xs ≡ y ∷ ys → xs ≡ ys
      tail_is x y xs ys e = cc

  pub no_record : true ≡ is_cell_in m.sweep.plan.old c → s.cells ≡ [] → ⊥
  no_record there none = empty (record_in m.sweep c) (map (record_in m.sweep) (flat_map (read_at m.sweep.plan) more)) (sym none ∙ come true (sym there))
    where
      empty : (x : CellRecord) (xs : List CellRecord) → [] ≡ x ∷ xs → ⊥
      empty x xs e = cc

-- a cell that is entered or left next is visited
pub entered_is_visited : (p : SweepPlan) (made more : List Visit) (c : CellKey) → IsSweepPlan p → visits_of p ≡ made ++ enter c ∷ more → is_visited p c ≡ true
entered_is_visited p made more c plan e =
    let among : IsIn c (flat_map entered_at (visits_of p)) = subst (λ vs. IsIn c (flat_map entered_at vs)) (sym e) (in_middle made) in
    let held = ((each_held_cell_once p plan).0.members c).0 among in
    and_both (is_held p c) (is_cell_in p.old c || has_cell p.new c) held.held held.passes
  where
    in_right : (xs ys : List CellKey) → IsIn c ys → IsIn c (xs ++ ys)
    in_right [] ys h = h
    in_right (x ∷ xs) ys h = inr (in_right xs ys h)

    in_middle : (vs : List Visit) → IsIn c (flat_map entered_at (vs ++ enter c ∷ more))
    in_middle [] = inl refl
    in_middle (v ∷ vs) = in_right (entered_at v) (flat_map entered_at (vs ++ enter c ∷ more)) (in_middle vs)

module _ (m : Story) (made more : List Visit) (parent : Option CellView) (c : CellKey) (kind : Kind) (s : TreeLists) (course : Course) (is : course ≡ record { dim = s.lanes.dim; depth = s.depth; range = s.range; dir = s.dir; serves = served_by kind }) (asks : EnterAsks m made more parent c kind s) where
  pub decides : Decides m.sweep course parent c
  decides = subst (λ x. Decides m.sweep x parent c) (sym is) (record {
    sweep = asks.before.sweep;
    is = record { dim = sym asks.before.of.dim; depth = sym asks.before.of.depth; range = sym asks.before.of.range; dir = sym asks.before.of.dir; serves = sym asks.before.served };
    above = asks.before.above;
    there = entered_is_visited m.sweep.plan made more c (sweep_plan m.sweep asks.before.sweep) asks.during.visits;
  })

  pub read_asks : ReadAsks m made more course parent c s
  read_asks = record { decides = decides; holds = asks.during.records }

  abbrev pub moved : List Move
  moved = moves_by m.sweep.plan made

  abbrev pub to_move : List Move
  to_move = moves_by m.sweep.plan more

  module _ (r : TreeLists) (was : Option Bool) (task : ℕ) (gives : ReadGives m made more c r was task) (same : r ≡ record s { cells = r.cells; live = false }) where
    pub corners_ask : CornersAsk m moved to_move course parent c r
    corners_ask = record {
      decides = decides;
      dim = ap (λ x. x.lanes.dim) same ∙ ap (λ x. x.dim) (sym is);
      holds = subst (λ l. HoldsVertices m moved (arrivals_below m.sweep.plan c (corners course.dim) ++ to_move) l) (sym (ap (λ z. z.lanes) same))
          (subst (λ d. HoldsVertices m moved (arrivals_below m.sweep.plan c (corners d) ++ to_move) s.lanes) decides.is.dim
          (subst (λ ms. HoldsVertices m moved (ms ++ to_move) s.lanes) (enter_moves m.sweep.plan c) asks.during.vertices));
    }

    module _ (t : TreeLists) (cs : List Corner) (eight : length cs ≡ 8) (taken : CornersGive m to_move course c 0 t cs) (others : MovesVertices r t) where
      pub are_taken : AreTaken m c cs
      are_taken n below = taken.each n (omega arith) (subst (λ x. n < corners x) decides.is.dim below)

      visits : visits_of m.sweep.plan ≡ (made ++ enter c ∷ []) ++ more
      visits = asks.during.visits ∙ sym (append_assoc made (enter c ∷ []) more)

      during : IsDuring m (made ++ enter c ∷ []) more t
      during = record {
        visits = visits;
        vertices = made_is m t.lanes taken.made (moves_by m.sweep.plan (made ++ enter c ∷ [])) to_move (moves_split m.sweep.plan (made ++ enter c ∷ []) more visits) taken.holds;
        records = subst (HoldsCells m (made ++ enter c ∷ []) more) (sym others.lists) (let h = gives.holds in record { cells = h.cells; flags = h.flags; written = h.written; counted = h.counted });
      }

      will_is : (v : Serves) (will : Option Bool) → m.sweep.serves ≡ v → will ≡ will_first v was → FirstWill v m.sweep c will
      will_is Raising will e f = f
      will_is Adapting will e f = f
      will_is Plain will e f = f ∙ (gives.was_is ∙ ap (λ o. flag_in o c) (subst (λ s. GridsServe s m.sweep.plan) e asks.before.sweep.serve))

      field_is : (v : Serves) (view : CellView) → m.sweep.serves ≡ v → (course.serves ≡ Plain → view.sides ≡ sides_of m.sweep.plan.new m.sweep.field c) → (course.serves ≡ Plain → 0 < c.level → view.carried ≡ value_of m.sweep.plan.new m.sweep.field (parent_of c)) → KnowsField v m.sweep c view
      field_is Raising view e sides carried = tt
      field_is Adapting view e sides carried = tt
      field_is Plain view e sides carried = (sides (sym decides.is.serves ∙ e), carried (sym decides.is.serves ∙ e))

      pub entered : AreBeyond (corners course.dim) cs → (view : CellView) → view.key ≡ c → view.was ≡ was → view.will ≡ will_first course.serves was → view.corners ≡ cs → view.task ≡ task → (course.serves ≡ Plain → view.sides ≡ sides_of m.sweep.plan.new m.sweep.field c) → (course.serves ≡ Plain → 0 < c.level → view.carried ≡ value_of m.sweep.plan.new m.sweep.field (parent_of c)) → EnterGives m made more c t view
      entered beyond view key was_ will corners_ task_ sides carried = record {
        during = during;
        view = record {
          key = key;
          was = was_ ∙ gives.was_is;
          will = will_is m.sweep.serves view.will refl (will ∙ ap (λ v. will_first v was) (sym decides.is.serves));
          eight = ap length corners_ ∙ eight;
          each = λ n below. subst (λ x. CornerTaken m c (corner_of c n) (slice_index_or x n Beyond)) (sym corners_) (are_taken n below);
          beyond = λ n least. subst (λ x. slice_index_or x n Beyond ≡ Beyond) (sym corners_) (beyond n (subst (λ d. corners d ≤ n) decides.is.dim least));
          field = field_is m.sweep.serves view refl sides carried;
          task = λ e. task_ ∙ gives.task_is e;
        };
      }
