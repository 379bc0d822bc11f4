-- A whole primary sweep of a tree.
use Rattle.std.proofs.Common.{◌≡◌, ◌||◌, ℕ, ◌<◌, ◌≤◌, ◌↔◌, true, false, Some, None, length, refl, ap, sym, ◌∙◌, subst, arith}
use Rattle.std.specs.Prelude.{flat_map}
use Rattle.std.proofs.lemmas.Bool.{false≢true}
use Rattle.std.specs.FinSet as set
use Rattle.peano_keys.specs.declared.cell.CellKey.{CellKey}
use Rattle.peano_keys.specs.Cell.{IsCell}
use Rattle.peano_keys.specs.Grid.{Spacetree, has_cell}
use Rattle.peano_keys.specs.Field.{States, value_of}
use Rattle.peano_keys.specs.declared.dim.Dim.{Dim}
use Rattle.peano_records.specs.declared.slot.Slot.{Slot}
use Rattle.peano_curve.specs.declared.order.Direction.{Direction}
use Rattle.curve_cuts.specs.Cuts.{Cuts, Held, Owns, IsCutGrid, range_of}
use Rattle.curve_cuts.specs.Enclave.{OwnsLeaf, IsSkeleton, IsEnclave}
use Rattle.curve_cuts.specs.Keys.{cuts_of}
use Rattle.curve_cuts.proofs.Cuts.{owner_holds}
use Rattle.solver_api.specs.Step.{IsLeafOf, new_state, marks_of}
use Rattle.spacetree.specs.Fields.{IsFieldOn}
use Rattle.spacetree.specs.Leaves.{is_among}
use Rattle.spacetree.proofs.Leaves.{leaf_there}
use Rattle.peano_curve.specs.Run.{HoldsCell}
use Rattle.stack_law.specs.Once.{IsIn}
use Rattle.sweep_visits.specs.Plan.{SweepPlan, IsSweepPlan, dim_of, is_cell_in}
use Rattle.sweep_visits.specs.Runs.{turned_round}
use Rattle.sweep_visits.proofs.Tests.{held_told}
use Rattle.sweep_visits.specs.Visits.{enter}
use Rattle.sweep_streams.specs.Records.{IsHeldCell, in_grids, entered_at}
use Rattle.sweep_streams.proofs.Records.{each_held_cell_once}
use Rattle.sweep_streams.specs.Streams.{ComesAfter}
use Rattle.vertex_stacks.specs.declared.kind.Kind.TheVariants as kind
use Rattle.vertex_stacks.specs.Notes.{Note}
use Rattle.tree_automaton.specs.declared.kinds.Serves.TheVariants.{Plain}
use Rattle.tree_automaton.specs.Noted.{note_of}
use Rattle.tree_automaton.specs.TreeLists.{TreeLists}
use Rattle.tree_automaton.specs.Sweep.{TreeSweep}
use Rattle.tree_automaton.specs.Promises.{Meaning}
use Rattle.tree_automaton.specs.Story.{Call, IsAmong}
use Rattle.tree_automaton.specs.Sweeps.{SweepAsks, SweepGives}
use Rattle.tree_automaton.specs.Views.{ViewFits}
use Rattle.tree_automaton.specs.AtRest.{CanSweep, HasLists, StandsFor, plain_plan}
use Rattle.tree_automaton.proofs.Decided.{sweep_plan}
use Rattle.tree_automaton.proofs.Rests.{store_can_be_swept}
use Rattle.step_phases.specs.Stores.{TreeSays}
use Rattle.step_phases.specs.Change.{Change}
use Rattle.step_phases.specs.Phases.{AtRest}
use Rattle.step_phases.specs.Sweeps.{IsSwept, PrimaryChanges}
use Rattle.step_phases.proofs.Sweeps.{primary_sweep, says_less}
use Rattle.spacetree.specs.Counts.{CountsCells}
use Rattle.step_world.specs.Failing.{FailsAmong}
use Rattle.swept_slots.specs.Copies.{copies}
use Rattle.swept_slots.specs.Laws.{IsSweptTree}
use Rattle.swept_slots.proofs.Swept.{plain_swept, swept_less, if_held}
use Rattle.swept_slots.proofs.Stores.{rest_is_said, said_is_rest}
use Rattle.swept_slots.proofs.Visited.{enter_held, enter_view}
use Rattle.step_sweeps.specs.declared.tally.Tally.{Tally}
use Rattle.step_sweeps.specs.Kernels.{Kernel, IsChangeBy}
use Rattle.step_sweeps.specs.Primaries.{PrimaryWork, Computes, PrimaryEnters, PrimaryLeaves}
use Rattle.step_sweeps.specs.Sweeps.{StandsOn, IsPrimarySwept}
use Rattle.step_sweeps.specs.Tasks.{HasPlaces, SpawnedAll}
use Rattle.step_sweeps.proofs.Plain.{view_fits}
use Rattle.step_sweeps.proofs.PrimarySlots.{each_visit, IsKnownLeaf, known_leaf}
use Rattle.step_sweeps.proofs.PrimaryTally.{IsJudged, seen, least_found}
use Rattle.step_sweeps.proofs.LeastFailing.{Among, served_join}
use Rattle.step_sweeps.proofs.SpawnCounts.{IsSorted, all_spawned, fewer_cells}

-- what the visitor of a primary sweep means
abbrev pub plain_meaning : Dim → Meaning
plain_meaning dim = record { serves = Plain; dim = dim; new_grid = record { dim = dim; refined = set.empty }; may_want = false; loan = 0 }

-- a store that stands for a grid and a field can be asked for a sweep that changes neither
pub can_sweep : (k : Cuts) (parts : ℕ) (dir : Direction) (g : Spacetree) (f : States) (s : TreeLists) (meaning : Meaning) → StandsOn k parts dir g f s → meaning.serves ≡ Plain → meaning.dim ≡ k.dim → CanSweep (plain_plan k.depth (range_of k s.tree) dir g) s.tree f meaning kind.Primary s
can_sweep k parts dir g f s meaning on serves dim = store_can_be_swept k.depth (range_of k s.tree) s.tree dir g f s meaning kind.Primary on.grid.deepest on.grid.grid on.stands refl serves (dim ∙ sym on.grid.dim)

-- the change by a kernel that keeps the grid
abbrev still : Kernel → Spacetree → States → Change
still k g f = record { old = g; new = g; value = value_of g f; mark = marks_of k.marked g f; next = new_state k.updated g f; last = value_of g f }

module _ {S : Type 0} (kernel : S → Kernel) (start end : PrimaryWork S) (p : TreeSweep) (step : ℕ) (s t : TreeLists) (note : Note)
    (serves : p.serves ≡ Plain) (one : p.plan.old ≡ Some p.plan.new) (none : start.failing ≡ None)
    (tree : IsSweptTree (PrimaryEnters kernel) (PrimaryLeaves kernel) (cuts_of start.keys) start.tree p step kind.Primary s t start end note)
    (fits : IsCutGrid (cuts_of start.keys) p.plan.new) (field : IsFieldOn (kernel start.solver).parts p.plan.new p.field) where
  abbrev k : Cuts
  k = cuts_of start.keys

  abbrev made_with : Kernel
  made_with = kernel start.solver

  abbrev g : Spacetree
  g = p.plan.new

  is_plan : IsSweepPlan p.plan
  is_plan = sweep_plan p tree.sweep

  away : (w : Change) (c : CellKey) (x : Slot) → ¬ Held k start.tree c → PrimaryChanges k w start.tree c x x
  away w c x apart = record { status = refl; value = refl; intent = refl; mark = λ owns leaf. absurd (apart (owner_holds k start.tree c owns)); next = λ skeleton. absurd (apart (owner_holds k start.tree c skeleton.0.owns)) }

  -- what it changed
  pub slots_swept : (w : Change) → IsChangeBy made_with g p.field w → IsSwept k g start.tree (PrimaryChanges k w start.tree) (copies s.lanes.input) (copies t.lanes.input)
  slots_swept w change v has = swept_less k _ (PrimaryChanges k w start.tree) v (copies s.lanes.input v) (copies t.lanes.input v)
      (if_held k start.tree (PrimaryChanges k w start.tree) (PrimaryChanges k w start.tree) (λ c a b h. h) (away w))
      (plain_swept (PrimaryEnters kernel) (PrimaryLeaves kernel) k start.tree p step kind.Primary s t start end note (PrimaryChanges k w start.tree) tree one
      (each_visit kernel start end p serves one is_plan s.lanes.input s.lanes.tale tree.gives.calls tree.gives.visits_are tree.gives.fit tree.gives.chain w change tree.tree.dim fits field) v has)

  still_by : IsChangeBy made_with g p.field (still made_with g p.field)
  still_by = record { old = refl; marks = λ c leaf. refl; leaves = λ c leaf. refl }

  known : (c : CellKey) (call : Call) → IsAmong call tree.gives.calls → IsHeldCell p.plan (in_grids p.plan) c → ViewFits p c call.given → IsKnownLeaf kernel start end p serves one is_plan s.lanes.input s.lanes.tale tree.gives.calls tree.gives.visits_are tree.gives.fit tree.gives.chain (still made_with g p.field) still_by tree.tree.dim fits field c call.given
  known c call among held view = known_leaf kernel start end p serves one is_plan s.lanes.input s.lanes.tale tree.gives.calls tree.gives.visits_are tree.gives.fit tree.gives.chain (still made_with g p.field) still_by tree.tree.dim fits field c call.given held view

  owned_leaf : (c : CellKey) → OwnsLeaf k g start.tree c → IsLeafOf g c
  owned_leaf c own = record { cell = subst (λ d. IsCell d c) (sym fits.dim) own.cell; leaf = own.leaf }

  -- what a view tells of a cell as it is entered
  judged : (call : Call) → IsAmong call tree.gives.calls → (c : CellKey) → call.visit ≡ enter c → IsJudged made_with k start.tree (IsSkeleton k g start.tree) (new_state made_with.updated g p.field) c call.given
  judged call among c is =
      let held = enter_held p is_plan s.lanes.input s.lanes.tale tree.gives.calls tree.gives.visits_are tree.gives.fit c call among is in
      let view = view_fits p serves one c call.given (enter_view p is_plan s.lanes.input s.lanes.tale tree.gives.calls tree.gives.visits_are tree.gives.fit c call among is) in
      let knows = known c call among held view in
      let owned : Computes made_with k start.tree call.given → OwnsLeaf k g start.tree c = λ computed. record {
        cell = subst (λ d. IsCell d c) fits.dim held.cell;
        leaf = knows.leaf computed.own.leaf;
        owns = subst (Owns k start.tree) view.view.key computed.own.owns;
      } in
      record {
        key = view.view.key;
        enclave = λ computed decides skeleton. false≢true (sym ((knows.kind true decides (owned computed)).1 skeleton));
        skeleton = λ computed decides. (knows.kind false decides (owned computed)).0 refl;
        computed = λ skeleton. knows.computed skeleton.0.owns skeleton.0.leaf;
        new = λ skeleton. knows.new skeleton.0.leaf;
      }

  -- and of which kind it is
  sorted : (call : Call) → IsAmong call tree.gives.calls → (c : CellKey) → call.visit ≡ enter c → IsSorted made_with k start.tree (IsEnclave k g start.tree) c call.given
  sorted call among c is =
      let held = enter_held p is_plan s.lanes.input s.lanes.tale tree.gives.calls tree.gives.visits_are tree.gives.fit c call among is in
      let view = view_fits p serves one c call.given (enter_view p is_plan s.lanes.input s.lanes.tale tree.gives.calls tree.gives.visits_are tree.gives.fit c call among is) in
      let knows = known c call among held view in
      let owned : Computes made_with k start.tree call.given → OwnsLeaf k g start.tree c = λ computed. record {
        cell = subst (λ d. IsCell d c) fits.dim held.cell;
        leaf = knows.leaf computed.own.leaf;
        owns = subst (Owns k start.tree) view.view.key computed.own.owns;
      } in
      record {
        enclave = λ computed decides. (owned computed, λ border. false≢true (sym ((knows.kind true decides (owned computed)).1 (owned computed, border))));
        skeleton = λ computed decides enclave. enclave.1 (((knows.kind false decides (owned computed)).0 refl).1);
        computed = λ enclave. knows.computed enclave.0.owns enclave.0.leaf;
      }

  -- each leaf that the tree owns is entered
  owned_seen : (c : CellKey) → OwnsLeaf k g start.tree c → IsIn c (seen tree.gives.calls)
  owned_seen c own =
      let leaf = owned_leaf c own in
      subst (λ l. IsIn c (flat_map entered_at l)) (sym tree.gives.visits_are)
      (((each_held_cell_once p.plan is_plan).0.members c).1 (record { cell = leaf.cell; held = held_told p.plan c (own_held c own.owns); passes = passes c (leaf_there g c leaf) }))
    where
      own_held : (q : CellKey) → Owns k start.tree q → HoldsCell (dim_of p.plan) p.plan.depth p.plan.range q
      own_held q owns = subst (λ d. HoldsCell d p.plan.depth p.plan.range q) (sym tree.tree.dim) (subst (λ n. HoldsCell k.dim n p.plan.range q) (sym tree.tree.depth) (subst (λ r. HoldsCell k.dim k.depth r q) (sym tree.tree.range) (owner_holds k start.tree q owns)))

      passes : (q : CellKey) → has_cell g q ≡ true → in_grids p.plan q ≡ true
      passes q there = subst (λ o. (is_cell_in o q || has_cell g q) ≡ true) (sym one) (ap (λ b. b || b) there)

  pub least_skeleton : FailsAmong (IsSkeleton k g start.tree) (new_state made_with.updated g p.field) end.failing
  least_skeleton = served_join (new_state made_with.updated g p.field) (Among (seen tree.gives.calls) (IsSkeleton k g start.tree)) (IsSkeleton k g start.tree) end.failing
      (λ c h. h.1) (λ c skeleton fails no. no (owned_seen c skeleton.0, skeleton))
      (least_found kernel start tree.gives.calls (IsSkeleton k g start.tree) (new_state made_with.updated g p.field) judged p s.lanes.input s.lanes.tale end none tree.gives.fit tree.gives.chain)

  -- where there are places, each enclave leaf is spawned
  pub each_spawned : start.tasks.spawned ≡ 0 → HasPlaces k g start.tree start.tasks.size → SpawnedAll k g start.tree start.tasks.size end.tasks.spawned
  each_spawned unspawned places =
      let have = all_spawned kernel start p tree.gives.calls tree.gives.visits_are (each_held_cell_once p.plan is_plan).0.distinct (IsEnclave k g start.tree) sorted s.lanes.input s.lanes.tale end unspawned tree.gives.fit tree.gives.chain in
      let members : (c : CellKey) → (is_among have.found c ≡ true) ↔ IsEnclave k g start.tree c = λ c. ((λ h. ((have.are.members c).0 h).1), (λ enclave. (have.are.members c).1 (owned_seen c enclave.0, enclave))) in
      let counted : CountsCells (IsEnclave k g start.tree) (length have.found) = record { cells = have.found; members = members; once = have.are.once; count = refl } in
      let few : length have.found ≤ places.0 = fewer_cells (IsEnclave k g start.tree) (λ c. Owns k start.tree c × IsLeafOf g c) (length have.found) places.0 (λ c enclave. (enclave.0.owns, owned_leaf c enclave.0)) counted places.1 in
      let room : places.0 ≤ start.tasks.size = places.2 in
      let count = have.count in
      (record { cells = have.found; members = members; once = have.are.once; count = omega (arith, few, room, count) }, omega (arith, few, room, count))

module _ {S : Type 0} (kernel : S → Kernel) (start end : PrimaryWork S) (dir : Direction) (g : Spacetree) (f : States) (step : ℕ) (s t : TreeLists) (note : Note) (meaning : Meaning)
    (on : StandsOn (cuts_of start.keys) (kernel start.solver).parts dir g f s) (same_tree : start.tree ≡ s.tree) (none : start.failing ≡ None)
    (asked : CanSweep (plain_plan (cuts_of start.keys).depth (range_of (cuts_of start.keys) s.tree) dir g) s.tree f meaning kind.Primary s)
    (gives : SweepGives (PrimaryEnters kernel) (PrimaryLeaves kernel) asked.sweep step kind.Primary s.lanes.input s.lanes.tale t start end note)
    (rest : (q : SweepPlan) → IsSweepPlan q → ComesAfter asked.sweep.plan q → HasLists q asked.sweep.tree t) where
  abbrev cuts : Cuts
  cuts = cuts_of start.keys

  abbrev with_kernel : Kernel
  with_kernel = kernel start.solver

  abbrev p : TreeSweep
  p = asked.sweep

  new_is : p.plan.new ≡ g
  new_is = ap (λ (x : SweepPlan). x.new) asked.plan_is

  one_grid : p.plan.old ≡ Some p.plan.new
  one_grid = ap (λ (x : SweepPlan). x.old) asked.plan_is ∙ ap Some (sym new_is)

  swept : IsSweptTree (PrimaryEnters kernel) (PrimaryLeaves kernel) cuts start.tree p step kind.Primary s t start end note
  swept = record {
    sweep = asked.asks.sweep;
    tree = record {
      dim = ap (λ (x : SweepPlan). x.new.dim) asked.plan_is ∙ on.grid.dim;
      depth = ap (λ (x : SweepPlan). x.depth) asked.plan_is;
      range = ap (λ (x : SweepPlan). x.range) asked.plan_is ∙ ap (range_of cuts) (sym same_tree);
    };
    keys = asked.asks.rest.input;
    gives = gives;
  }

  fits_plan : IsCutGrid cuts p.plan.new
  fits_plan = subst (IsCutGrid cuts) (sym new_is) on.grid

  field_plan : IsFieldOn with_kernel.parts p.plan.new p.field
  field_plan = subst (λ x. IsFieldOn with_kernel.parts x p.field) (sym new_is) (subst (IsFieldOn with_kernel.parts g) (sym asked.field_is) on.field)

  abbrev Slots : Spacetree → States → ℕ → Type 0
  Slots h e n = (w : Change) → IsChangeBy with_kernel h e w → IsSwept cuts h n (PrimaryChanges cuts w n) (copies s.lanes.input) (copies t.lanes.input)

  slots : Slots g f s.tree
  slots = subst (Slots g f) same_tree (subst (λ e. Slots g e start.tree) asked.field_is (subst (λ h. Slots h p.field start.tree) new_is (slots_swept kernel start end p step s t note (sym asked.asks.served) one_grid none swept fits_plan field_plan)))

  failing : FailsAmong (IsSkeleton cuts g s.tree) (new_state with_kernel.updated g f) end.failing
  failing = subst (λ n. FailsAmong (IsSkeleton cuts g n) (new_state with_kernel.updated g f) end.failing) same_tree (subst (λ e. FailsAmong (IsSkeleton cuts g start.tree) (new_state with_kernel.updated g e) end.failing) asked.field_is (subst (λ h. FailsAmong (IsSkeleton cuts h start.tree) (new_state with_kernel.updated h p.field) end.failing) new_is (least_skeleton kernel start end p step s t note (sym asked.asks.served) one_grid none swept fits_plan field_plan)))

  abbrev Spawned : Spacetree → ℕ → Type 0
  Spawned h n = start.tasks.spawned ≡ 0 → HasPlaces cuts h n start.tasks.size → SpawnedAll cuts h n start.tasks.size end.tasks.spawned

  pub spawned_there : Spawned g s.tree
  spawned_there = subst (Spawned g) same_tree (subst (λ h. Spawned h start.tree) new_is (each_spawned kernel start end p step s t note (sym asked.asks.served) one_grid none swept fits_plan field_plan))

  abbrev next : SweepPlan
  next = plain_plan cuts.depth (range_of cuts s.tree) (turned_round dir) g

  lists : HasLists next s.tree t
  lists = subst (λ n. HasLists next n t) asked.tree_is (rest next (record { depth = on.grid.deepest; old = (on.grid.grid, refl); new = on.grid.grid }) (record {
    depth = sym (ap (λ (x : SweepPlan). x.depth) asked.plan_is);
    range = sym (ap (λ (x : SweepPlan). x.range) asked.plan_is);
    dir = sym (ap (λ (x : SweepPlan). turned_round x.dir) asked.plan_is);
    old = ap Some (sym new_is);
  }))

  says : TreeSays cuts g s.tree (AtRest g (value_of g f)) (copies t.lanes.input)
  says v has = says_less cuts v _ (AtRest g (value_of g f)) (copies t.lanes.input v) (λ c x h. h.rest)
      (primary_sweep cuts (still with_kernel g f) s.tree (copies s.lanes.input) (copies t.lanes.input)
      (rest_is_said cuts g f s.tree s.tree dir s on.grid on.stands)
      (slots (still with_kernel g f) (record { old = refl; marks = λ c leaf. refl; leaves = λ c leaf. refl })) v has)

  noted_by : SweepPlan → ℕ → Note
  noted_by x n = note_of x kind.Primary step n

  -- what a primary sweep makes of a tree
  pub primary_swept : IsPrimarySwept with_kernel cuts dir g f step s t note (record { failing = end.failing; splits = 0; merges = 0 })
  unfolding noted_by
  primary_swept = record {
    tree = lists.tree;
    stands = record {
      grid = on.grid;
      field = on.field;
      tree = subst (λ n. n < cuts.trees) (sym lists.tree) on.tree;
      stands = subst (λ n. StandsFor cuts.depth (range_of cuts n) n (turned_round dir) g f t) (sym lists.tree) (said_is_rest cuts g f s.tree s.tree (turned_round dir) t on.grid on.tree lists says);
    };
    slots = slots;
    failing = failing;
    noted = record {
      counts = gives.note_is ∙ (ap (λ x. noted_by x p.tree) asked.plan_is ∙ ap (noted_by (plain_plan cuts.depth (range_of cuts s.tree) dir g)) asked.tree_is);
      tale = gives.tale_is;
    };
  }

-- so of the visitor that was made for the sweep
pub primary_told : {S : Type 0} (kernel : S → Kernel) (start end made : PrimaryWork S) (dir : Direction) (g : Spacetree) (f : States) (step : ℕ) (s t : TreeLists) (note : Note) (tally : Tally) → start ≡ made → made.failing ≡ None → made.tree ≡ s.tree → StandsOn (cuts_of made.keys) (kernel made.solver).parts dir g f s →
    ((q : TreeSweep) → SweepAsks q (plain_meaning start.keys.dim) kind.Primary s → SweepGives (PrimaryEnters kernel) (PrimaryLeaves kernel) q step kind.Primary s.lanes.input s.lanes.tale t start end note) →
    ((q : TreeSweep) → SweepAsks q (plain_meaning start.keys.dim) kind.Primary s → (n : SweepPlan) → IsSweepPlan n → ComesAfter q.plan n → HasLists n q.tree t) →
    tally ≡ record { failing = end.failing; splits = 0; merges = 0 } → IsPrimarySwept (kernel made.solver) (cuts_of made.keys) dir g f step s t note tally
primary_told kernel start end made dir g f step s t note tally is none tree on done rest tally_is =
    subst (λ y. y.failing ≡ None → y.tree ≡ s.tree → StandsOn (cuts_of y.keys) (kernel y.solver).parts dir g f s → IsPrimarySwept (kernel y.solver) (cuts_of y.keys) dir g f step s t note tally) is
    (λ none_here tree_here on_here.
    let asked = can_sweep (cuts_of start.keys) (kernel start.solver).parts dir g f s (plain_meaning start.keys.dim) on_here refl refl in
    subst (IsPrimarySwept (kernel start.solver) (cuts_of start.keys) dir g f step s t note) (sym tally_is)
    (primary_swept kernel start end dir g f step s t note (plain_meaning start.keys.dim) on_here tree_here none_here asked (done asked.sweep asked.asks) (rest asked.sweep asked.asks)))
    none tree on

-- and so is what it spawned
pub spawned_told : {S : Type 0} (kernel : S → Kernel) (start end made : PrimaryWork S) (dir : Direction) (g : Spacetree) (f : States) (step : ℕ) (s t : TreeLists) (note : Note) → start ≡ made → made.failing ≡ None → made.tree ≡ s.tree → StandsOn (cuts_of made.keys) (kernel made.solver).parts dir g f s →
    ((q : TreeSweep) → SweepAsks q (plain_meaning start.keys.dim) kind.Primary s → SweepGives (PrimaryEnters kernel) (PrimaryLeaves kernel) q step kind.Primary s.lanes.input s.lanes.tale t start end note) →
    ((q : TreeSweep) → SweepAsks q (plain_meaning start.keys.dim) kind.Primary s → (n : SweepPlan) → IsSweepPlan n → ComesAfter q.plan n → HasLists n q.tree t) →
    made.tasks.spawned ≡ 0 → HasPlaces (cuts_of made.keys) g s.tree made.tasks.size → SpawnedAll (cuts_of made.keys) g s.tree made.tasks.size end.tasks.spawned
spawned_told kernel start end made dir g f step s t note is none tree on done rest unspawned places =
    subst (λ y. y.failing ≡ None → y.tree ≡ s.tree → StandsOn (cuts_of y.keys) (kernel y.solver).parts dir g f s → y.tasks.spawned ≡ 0 → HasPlaces (cuts_of y.keys) g s.tree y.tasks.size → SpawnedAll (cuts_of y.keys) g s.tree y.tasks.size end.tasks.spawned) is
    (λ none_here tree_here on_here.
    let asked = can_sweep (cuts_of start.keys) (kernel start.solver).parts dir g f s (plain_meaning start.keys.dim) on_here refl refl in
    spawned_there kernel start end dir g f step s t note (plain_meaning start.keys.dim) on_here tree_here none_here asked (done asked.sweep asked.asks) (rest asked.sweep asked.asks))
    none tree on unspawned places
