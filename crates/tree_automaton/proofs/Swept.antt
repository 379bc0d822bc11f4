-- A store at rest as a sweep begins, and after it.
use Rattle.std.proofs.Common.{◌≡◌, ℕ, zero, suc, ◌-◌, ◌^◌, ◌<◌, ◌≤◌, Bool, true, false, List, [], ◌∷◌, ◌++◌, map, length, get_or, refl, ap, ap₂, sym, ◌∙◌, subst, arith, append-nil, append_assoc}
use Rattle.std.specs.Prelude.{◌||◌, Some, None, reverse, pos, ◌≤ℤ◌}
use Rattle.std.proofs.lemmas.List.{reverse-reverse, length-map, length-reverse}
use Rattle.peano_keys.specs.declared.cell.CellKey.{CellKey}
use Rattle.peano_keys.specs.declared.vertex.VertexKey.{VertexKey}
use Rattle.peano_keys.specs.Cell.{root}
use Rattle.peano_keys.specs.Grid.{is_refined}
use Rattle.peano_records.specs.declared.stored.Stored.{Stored}
use Rattle.peano_records.specs.declared.view.CellView.{CellView}
use Rattle.vertex_stacks.specs.declared.kind.Kind.{Kind}
use Rattle.vertex_stacks.specs.Lists.{IsDrained, held, held_by, lane_at}
use Rattle.vertex_stacks.specs.Notes.{Note}
use Rattle.vertex_stacks.specs.Tales.{capped, with_note}
use Rattle.stack_law.specs.Once.{IsIn}
use Rattle.sweep_visits.specs.Plan.{is_cell_in, is_stored_in}
use Rattle.sweep_visits.specs.Visits.{visits_of}
use Rattle.sweep_visits.specs.Runs.{turned_round}
use Rattle.sweep_visits.specs.Moves.{same_cell, same_vertex, moves_of, taken_by, put_by}
use Rattle.sweep_visits.proofs.Same.{cells_decided}
use Rattle.sweep_streams.specs.Counts.{pushed_by}
use Rattle.sweep_streams.specs.Records.{read_by, written_by}
use Rattle.sweep_streams.proofs.Records.{records_are_of_held_cells}
use Rattle.sweep_streams.proofs.Lists.{same_length}
use Rattle.sweep_streams.proofs.Pushes.{streams_are_stored}
use Rattle.sweep_visits.proofs.Same.{vertices_decided}
use Rattle.tree_automaton.specs.declared.kinds.Serves.TheVariants.{Plain}
use Rattle.tree_automaton.specs.TreeLists.{TreeLists, IsRoomy, page_count, room_in}
use Rattle.tree_automaton.specs.Sweep.{TreeSweep, IsTreeSweep, GridsServe, cell_visits, record_in, served_by}
use Rattle.tree_automaton.specs.Promises.{Meaning}
use Rattle.tree_automaton.specs.Story.{Story, IsOfInput, IsOfOutput, IsOnLane, Matched, with_calls}
use Rattle.tree_automaton.specs.Moments.{IsDuring, flag_of}
use Rattle.tree_automaton.specs.Sweeps.{AllFit, IsAtRestFor, HasRoom, SweepAsks, SweepGives, VisitsGive, WalkAsks, begun, key_of, no_lanes}
use Rattle.tree_automaton.proofs.Decided.{sweep_plan}
use Rattle.sweep_visits.proofs.Moments.{all_arrived}
use Rattle.tree_automaton.proofs.Visited.{visits_root}
use Rattle.tree_automaton.proofs.Chains.{during_next, during_joined}

-- each vertex of the input is one of it
input_holds : (m : Story) (before l : List Stored) → m.start ≡ before ++ l → AllFit m.sweep l → Matched (IsOfInput m) (map key_of l) l
input_holds m before [] e fits = tt
input_holds m before (v ∷ l) e fits = (record { key = refl; fits = fits.0; among = record { before = before; after = l; place = e } }, input_holds m (before ++ v ∷ []) l (e ∙ sym (append_assoc before (v ∷ []) l)) fits.1)

none_matched : {A B : Type 0} (R : A → B → Type 0) (ys : List B) → Matched R [] ys → ys ≡ []
none_matched R [] h = refl
none_matched R (y ∷ ys) h = absurd h

no_lane : (n : ℕ) → get_or no_lanes n [] ≡ []
no_lane zero = refl
no_lane (suc zero) = refl
no_lane (suc (suc zero)) = refl
no_lane (suc (suc (suc zero))) = refl
no_lane (suc (suc (suc (suc zero)))) = refl
no_lane (suc (suc (suc (suc (suc zero))))) = refl
no_lane (suc (suc (suc (suc (suc (suc n)))))) = refl

-- so many empty lanes
abbrev nones : {A : Type 0} → ℕ → List (List A)
nones zero = []
nones (suc k) = [] ∷ nones k

all_none : {A : Type 0} (ls : List (List A)) (k : ℕ) → length ls ≡ k → ((n : ℕ) → get_or ls n [] ≡ []) → ls ≡ nones k
all_none [] zero e none = refl
all_none [] (suc k) e none = absurd (omega arith)
all_none (l ∷ ls) zero e none = absurd (omega arith)
all_none (l ∷ ls) (suc k) e none = ap₂ (λ x xs. x ∷ xs) (none 0) (all_none ls k (omega arith) (λ n. none (suc n)))

-- in a plain sweep as many records are written as are read
pub as_many : (p : TreeSweep) → IsTreeSweep p → p.serves ≡ Plain → length (written_by p.plan) ≡ length (read_by p.plan)
as_many p sweep plain =
    let one : p.plan.old ≡ Some p.plan.new = subst (λ v. GridsServe v p.plan) plain sweep.serve in
    let both = records_are_of_held_cells p.plan (sweep_plan p sweep) in
    let to : (c : CellKey) → IsIn c (written_by p.plan) → IsIn c (read_by p.plan) = λ c h. let k = (both.1.members c).0 h in (both.0.members c).1 (record { cell = k.cell; held = k.held; passes = ap (λ o. is_cell_in o c) one ∙ k.passes }) in
    let from : (c : CellKey) → IsIn c (read_by p.plan) → IsIn c (written_by p.plan) = λ c h. let k = (both.0.members c).0 h in (both.1.members c).1 (record { cell = k.cell; held = k.held; passes = sym (ap (λ o. is_cell_in o c) one) ∙ k.passes }) in
    same_length same_cell cells_decided (written_by p.plan) (read_by p.plan) both.1.distinct both.0.distinct to from

-- and as many vertices are put as are taken
pub as_many_vertices : (p : TreeSweep) → IsTreeSweep p → p.serves ≡ Plain → length (put_by (moves_of p.plan)) ≡ length (taken_by (moves_of p.plan))
as_many_vertices p sweep plain =
    let one : p.plan.old ≡ Some p.plan.new = subst (λ v. GridsServe v p.plan) plain sweep.serve in
    let both = streams_are_stored p.plan (sweep_plan p sweep) in
    let to : (v : VertexKey) → IsIn v (put_by (moves_of p.plan)) → IsIn v (taken_by (moves_of p.plan)) = λ v h. let k = (both.1.members v).0 h in (both.0.members v).1 (record { vertex = k.vertex; passes = ap (λ o. is_stored_in o v) one ∙ k.passes; held = k.held }) in
    let from : (v : VertexKey) → IsIn v (taken_by (moves_of p.plan)) → IsIn v (put_by (moves_of p.plan)) = λ v h. let k = (both.0.members v).0 h in (both.1.members v).1 (record { vertex = k.vertex; passes = sym (ap (λ o. is_stored_in o v) one) ∙ k.passes; held = k.held }) in
    same_length same_vertex vertices_decided (put_by (moves_of p.plan)) (taken_by (moves_of p.plan)) both.1.distinct both.0.distinct to from

-- a roomy store at rest holds no more vertices than it has room for
pub held_is_stored : (p : TreeSweep) (s : TreeLists) → IsAtRestFor p s → s.stored < 2 ^ 64 - 1 → held s.lanes ≤ s.stored
held_is_stored p s rest few =
    let out : length s.lanes.output ≡ 0 = ap length rest.output in
    let on_lanes : held_by s.lanes.lanes ≡ 0 = ap held_by rest.lanes in
    let all : s.stored ≡ capped (length s.lanes.input) = rest.stored in
    omega (arith, out, on_lanes, all, few)

-- after a sweep of one grid the store is roomy
pub roomy_after : (p : TreeSweep) (s u t : TreeLists) → IsTreeSweep p → p.serves ≡ Plain → IsAtRestFor p s → s.stored < 2 ^ 64 - 1 → length s.cells ≤ u.cell_room → u.cell_room ≤ t.cell_room → s.stored ≤ room_in s.lanes.dim (page_count u.lanes) → page_count u.lanes ≤ page_count t.lanes → t.lanes.dim ≡ s.lanes.dim → t.stored ≡ capped (length (put_by (moves_of p.plan))) → map flag_of (reverse t.cells) ≡ map (is_refined p.plan.new) (written_by p.plan) → IsRoomy t
roomy_after p s u t sweep plain rest few cells more_cells room more_pages dim stored flags =
    let many : length (put_by (moves_of p.plan)) ≡ length (taken_by (moves_of p.plan)) = as_many_vertices p sweep plain in
    let input : length s.lanes.input ≡ length (taken_by (moves_of p.plan)) = sym (length-map s.lanes.input key_of) ∙ ap length rest.input in
    let same : t.stored ≡ s.stored = stored ∙ (ap capped (many ∙ sym input) ∙ sym rest.stored) in
    let read : length s.cells ≡ length (read_by p.plan) = ap length rest.cells ∙ length-map (read_by p.plan) (record_in p) in
    let wrote : length t.cells ≡ length (written_by p.plan) = sym (length-reverse t.cells) ∙ (sym (length-map (reverse t.cells) flag_of) ∙ (ap length flags ∙ length-map (written_by p.plan) (is_refined p.plan.new))) in
    let both : length (written_by p.plan) ≡ length (read_by p.plan) = as_many p sweep plain in
    let own : s.stored ≤ room_in t.lanes.dim (page_count u.lanes) = subst (λ d. s.stored ≤ room_in d (page_count u.lanes)) (sym dim) room in
    record {
      exact = omega (arith, same, few);
      vertices = omega (arith, same, own, more_pages);
      records = omega (arith, read, wrote, both, cells, more_cells);
    }

module _ (p : TreeSweep) (meaning : Meaning) (kind : Kind) (s : TreeLists) (asks : SweepAsks p meaning kind s) (u : TreeLists) (ready : u ≡ record s { lanes = record s.lanes { spare = u.lanes.spare }; live = false; cell_room = u.cell_room }) where
  abbrev pub start : Story
  start = begun p s.lanes.input s.lanes.tale

  -- the store at its first moment
  first_moment : IsDuring start [] (visits_of p.plan) (record s { lanes = record s.lanes { spare = u.lanes.spare }; live = false; cell_room = u.cell_room })
  first_moment = record {
    visits = refl;
    vertices = record {
      moves = refl;
      input = subst (λ vs. Matched (IsOfInput start) vs s.lanes.input) asks.rest.input (input_holds start [] s.lanes.input refl asks.rest.fits);
      output = subst (λ o. Matched (IsOfOutput start) [] o) (sym asks.rest.output) tt;
      six = ap (λ l. length l) asks.rest.lanes;
      lanes = λ k. subst (λ l. Matched (IsOnLane start) [] l) (sym (ap (λ l. get_or l k []) asks.rest.lanes ∙ no_lane k)) tt;
      taken = asks.rest.taken;
      put = asks.rest.put;
      pushed = asks.rest.pushed;
      tale = refl;
    };
    records = record {
      cells = asks.rest.cells;
      flags = ap (map flag_of) asks.rest.written;
      written = asks.rest.written;
      counted = asks.rest.counted;
    };
  }

  all_visits : visits_of p.plan ≡ cell_visits p.plan root ++ []
  all_visits = sym (visits_root p.plan) ∙ sym (append-nil (cell_visits p.plan root))

  pub walk_asks : WalkAsks start meaning [] [] None root kind u
  walk_asks = record {
    before = record {
      served = asks.served;
      sweep = asks.sweep;
      of = record { dim = ap (λ z. z.lanes.dim) ready ∙ asks.rest.of.dim; depth = ap (λ z. z.depth) ready ∙ asks.rest.of.depth; range = ap (λ z. z.range) ready ∙ asks.rest.of.range; dir = ap (λ z. z.dir) ready ∙ asks.rest.of.dir; tree = ap (λ z. z.tree) ready ∙ asks.rest.of.tree };
      above = refl;
    };
    above = tt;
    for_sweep = asks.for_sweep;
    cell = or_true (is_cell_in p.plan.old root);
    during = during_next start [] _ _ u all_visits (subst (IsDuring start [] (visits_of p.plan)) (sym ready) first_moment);
  }
    where
      or_true : (b : Bool) → (b || true) ≡ true
      or_true true = refl
      or_true false = refl

  -- there is room for a plain sweep once it is made
  pub has_room : served_by kind ≡ Plain → meaning.may_want ≡ false → pos 0 ≤ℤ u.lanes.spare → length s.cells ≤ u.cell_room → HasRoom p meaning u
  has_room plain wants spare room =
      let own : p.serves ≡ Plain = sym asks.served ∙ plain in
      let many : length s.cells ≡ length (read_by p.plan) = ap length asks.rest.cells ∙ length-map (read_by p.plan) (record_in p) in
      let same = as_many p asks.sweep own in
      record { plain = own; wants_none = wants; vertices = spare; cells = omega (arith, many, same, room) }

  module _ {A : Type 0} (entered left : A → CellView → CellView → A → Type 0) (w : TreeLists) (x y : A) (gives : VisitsGive entered left start [] (cell_visits p.plan root) [] w x y) where
    abbrev told : Story
    told = with_calls start gives.calls

    last_moment : IsDuring told (visits_of p.plan) [] w
    last_moment = during_joined told (cell_visits p.plan root) (visits_of p.plan) [] w (visits_root p.plan) gives.during

    lane_empty : (k : ℕ) → lane_at w.lanes k ≡ []
    lane_empty k = none_matched (IsOnLane told) (lane_at w.lanes k) (subst (λ ps. Matched (IsOnLane told) ps (lane_at w.lanes k)) (all_arrived p.plan (sweep_plan p asks.sweep) k) (last_moment.vertices.lanes k))

    pub drained : IsDrained w.lanes
    drained = record {
      input = none_matched (IsOfInput told) w.lanes.input last_moment.vertices.input;
      lanes = λ n below. lane_empty n;
    }

    pub all_read : w.cells ≡ []
    all_read = last_moment.records.cells

    pub swept : (step : ℕ) (t : TreeLists) (note : Note) → note ≡ record { step = step; kind = kind; tree = w.tree; taken = w.lanes.taken; put = w.lanes.put; pushed = w.lanes.pushed } → t ≡ record w { cells = reverse w.written; written = []; lanes = record w.lanes { input = reverse w.lanes.output; output = []; spare = t.lanes.spare; taken = 0; put = 0; pushed = 0; tale = with_note w.lanes.tale note }; dir = turned_round w.dir; live = true; cell_room = t.cell_room; stored = w.lanes.put; leaves = w.counted; counted = 0 } → SweepGives entered left p step kind s.lanes.input s.lanes.tale t x y note
    swept step t note note_is turned = record {
      calls = gives.calls;
      visits_are = gives.visits_are ∙ visits_root p.plan;
      chain = gives.chain;
      fit = gives.fit;
      note_is = note_is ∙ note_same w.tree w.lanes.taken w.lanes.put w.lanes.pushed gives.of.tree last_moment.vertices.taken last_moment.vertices.put last_moment.vertices.pushed;
      cells = ap (λ z. z.cells) turned ∙ ap (λ l. reverse l) last_moment.records.written;
      flags = ap (λ z. map flag_of (reverse z.cells)) turned ∙ (ap (map flag_of) (reverse-reverse w.written) ∙ last_moment.records.flags);
      written = ap (λ z. z.written) turned;
      input = subst (λ l. Matched (IsOfOutput told) (put_by (moves_of p.plan)) l) (sym (ap (λ z. reverse z.lanes.input) turned ∙ reverse-reverse w.lanes.output)) last_moment.vertices.output;
      output = ap (λ z. z.lanes.output) turned;
      lanes = ap (λ z. z.lanes.lanes) turned ∙ all_none w.lanes.lanes 6 last_moment.vertices.six lane_empty;
      taken = ap (λ z. z.lanes.taken) turned;
      put = ap (λ z. z.lanes.put) turned;
      pushed = ap (λ z. z.lanes.pushed) turned;
      tale_is = ap (λ z. z.lanes.tale) turned ∙ ap (λ z. with_note z note) last_moment.vertices.tale;
      of = record {
        dim = ap (λ z. z.lanes.dim) turned ∙ gives.of.dim;
        depth = ap (λ z. z.depth) turned ∙ gives.of.depth;
        range = ap (λ z. z.range) turned ∙ gives.of.range;
        dir = ap (λ z. z.dir) turned ∙ ap turned_round gives.of.dir;
        tree = ap (λ z. z.tree) turned ∙ gives.of.tree;
      };
      live = ap (λ z. z.live) turned;
      stored = ap (λ z. z.stored) turned ∙ last_moment.vertices.put;
      leaves = ap (λ z. z.leaves) turned ∙ last_moment.records.counted;
      counted = ap (λ z. z.counted) turned;
    }
      where
        note_same : (tree taken put pushed : ℕ) → tree ≡ p.tree → taken ≡ capped (length (taken_by (moves_of p.plan))) → put ≡ capped (length (put_by (moves_of p.plan))) → pushed ≡ capped (length (pushed_by (moves_of p.plan))) → ◌≡◌ {A = Note} (record { step = step; kind = kind; tree = tree; taken = taken; put = put; pushed = pushed }) (record { step = step; kind = kind; tree = p.tree; taken = capped (length (taken_by (moves_of p.plan))); put = capped (length (put_by (moves_of p.plan))); pushed = capped (length (pushed_by (moves_of p.plan))) })
        note_same tree taken put pushed a b c d = ap (λ z. record { step = step; kind = kind; tree = z; taken = taken; put = put; pushed = pushed }) a ∙ (ap (λ z. record { step = step; kind = kind; tree = p.tree; taken = z; put = put; pushed = pushed }) b ∙ ap₂ (λ z w. record { step = step; kind = kind; tree = p.tree; taken = capped (length (taken_by (moves_of p.plan))); put = z; pushed = w }) c d)
