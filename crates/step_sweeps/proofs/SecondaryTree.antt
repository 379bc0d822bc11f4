-- A whole secondary sweep of a tree.
use Rattle.std.proofs.Common.{◌≡◌, ◌||◌, ℕ, ℤ, ◌<◌, Bool, true, false, List, Option, Some, None, length, map, refl, ap, sym, ◌∙◌, subst}
use Rattle.std.specs.Prelude.{flat_map}
use Rattle.std.proofs.lemmas.List.Elements.{All-weaker}
use Rattle.peano_keys.specs.declared.cell.CellKey.{CellKey}
use Rattle.peano_keys.specs.Cell.{IsCell}
use Rattle.peano_keys.specs.Grid.{has_cell, is_refined}
use Rattle.peano_keys.specs.declared.state.State.{State}
use Rattle.peano_keys.specs.State.{count_of}
use Rattle.peano_keys.specs.Field.{States, value_of, state_like, component_of, mean_under}
use Rattle.peano_keys.specs.Sums.{cell_weight, floor_of}
use Rattle.mean_values.specs.NextSums.{TellsMerges}
use Rattle.mean_values.specs.Steps.{HasFloors}
use Rattle.cell_sums.proofs.Means.{count_of_like, like_at}
use Rattle.spacetree.proofs.Values.{count_of_value}
use Rattle.tree_sums.specs.Partials.{tree_partial}
use Rattle.peano_keys.specs.Next.{Splits, Merges}
use Rattle.peano_curve.specs.Run.{HoldsCell}
use Rattle.hanging_nodes.proofs.TwoGrids.{refined_there, leaf_not}
use Rattle.spacetree.proofs.Leaves.{leaf_there}
use Rattle.stack_law.specs.Once.{IsIn}
use Rattle.peano_curve.specs.declared.order.Direction.{Direction}
use Rattle.peano_records.specs.declared.slot.Slot.{Slot}
use Rattle.peano_records.specs.declared.stored.Stored.{Stored}
use Rattle.peano_records.specs.declared.view.CellView.{CellView}
use Rattle.peano_records.specs.declared.view.Corner.TheVariants.{Vertex}
use Rattle.peano_records.specs.AtRest.{SaysOfCells}
use Rattle.peano_records.specs.Tells.{corner_at}
use Rattle.curve_cuts.specs.Cuts.{Cuts, Held, Owns, range_of}
use Rattle.curve_cuts.specs.Enclave.{IsEnclave}
use Rattle.curve_cuts.specs.Keys.{cuts_of}
use Rattle.curve_cuts.proofs.Cuts.{owner_holds}
use Rattle.sweep_visits.specs.Plan.{SweepPlan, IsSweepPlan}
use Rattle.sweep_visits.specs.Runs.{turned_round}
use Rattle.sweep_visits.specs.Moves.{moves_of, taken_by}
use Rattle.sweep_visits.specs.Visits.{Visit, visits_of}
use Rattle.sweep_visits.proofs.Tests.{held_told}
use Rattle.sweep_streams.specs.Records.{ListsCells, in_grids, entered_at, left_at}
use Rattle.sweep_streams.proofs.Records.{each_held_cell_once}
use Rattle.sweep_streams.specs.Streams.{ComesAfter}
use Rattle.vertex_stacks.specs.declared.kind.Kind.TheVariants as kind
use Rattle.vertex_stacks.specs.Notes.{Note}
use Rattle.tree_automaton.specs.declared.kinds.Serves.TheVariants.{Plain}
use Rattle.tree_automaton.specs.Noted.{note_of}
use Rattle.tree_automaton.specs.TreeLists.{TreeLists}
use Rattle.tree_automaton.specs.Sweep.{TreeSweep, IsTreeSweep}
use Rattle.tree_automaton.specs.Promises.{Meaning, SameCorner}
use Rattle.tree_automaton.specs.Story.{IsAmong, with_calls}
use Rattle.tree_automaton.specs.Sweeps.{SweepAsks, SweepGives, begun, key_of, visit_of}
use Rattle.tree_automaton.specs.AtRest.{CanSweep, HasLists, plain_plan}
use Rattle.tree_automaton.proofs.Rests.{store_can_be_swept}
use Rattle.step_phases.specs.Stores.{TreeSays}
use Rattle.step_phases.specs.Change.{Change, Gives}
use Rattle.step_phases.specs.Phases.{AtRest, AfterFirst}
use Rattle.step_phases.specs.Sweeps.{IsSwept, SecondaryChanges}
use Rattle.step_phases.proofs.Sweeps.{says_less}
use Rattle.step_calls.specs.Visitors.{SecondaryCall}
use Rattle.step_calls.proofs.Visitors.{secondary_at}
use Rattle.swept_slots.specs.Changes.{ChangesOneCell, EachVisitChanges}
use Rattle.swept_slots.specs.Copies.{copies}
use Rattle.swept_slots.specs.Laws.{IsSweptTree}
use Rattle.swept_slots.proofs.Swept.{plain_swept, swept_less, if_held}
use Rattle.swept_slots.proofs.Stores.{said_is_rest, has_vertex, said_each, all_in}
use Rattle.swept_slots.proofs.Visited.{among_in}
use Rattle.step_sweeps.specs.Kernels.{Kernel}
use Rattle.step_sweeps.specs.Secondaries.{SecondaryWork, SecondaryEnters, SecondaryLeaves}
use Rattle.peano_records.specs.declared.partials.Partial.{Partial}
use Rattle.step_sweeps.specs.Sweeps.{CountsOwn, IsMarked, IsSecondarySwept, IsTallied, AreNewStatesOf, HaveWords, IsPartialOf, ArePartialsOf, SummedChanges, IsSummed}
use Rattle.step_sweeps.specs.Tasks.{TasksSeen, Turns, SpawnedAll, CollectedAll}
use Rattle.step_sweeps.specs.declared.tally.Tally.{Tally}
use Rattle.step_sweeps.proofs.HalfwaySlots.{Halfway, first_is_halfway, changed_twice}
use Rattle.step_sweeps.proofs.HalfwayViews.{IsKnown, plain_sweep, plain_is_plan}
use Rattle.step_sweeps.proofs.HalfwayStory.{Did, IsSoFar, HasBegun, IsServed, TakesSums, all_told}
use Rattle.step_sweeps.proofs.TreeSums.{word_same, now, has}
use Rattle.step_sweeps.proofs.SameSums.{same_partial}
use Rattle.step_sweeps.proofs.HandedOut.{TellsCell}
use Rattle.step_sweeps.proofs.TakenMeans.{with_means, leaf_next, refined_next, states_with, marked_with, tally_without}
use Rattle.step_sweeps.proofs.OwnSlots.{some_same}
use Rattle.step_sweeps.proofs.LeastFailing.{Among, served_join}
use Rattle.step_sweeps.proofs.OwnCounts.{HaveCounted}
use Rattle.step_sweeps.proofs.GatherCounts.{all_gathered}
use Rattle.step_sweeps.proofs.PrimaryTree.{plain_meaning}

-- a store that has the marks and the new values of all leaves can be asked for a sweep that changes neither grid nor field
pub can_finish : (kernel : Kernel) (k : Cuts) (dir : Direction) (w : Change) (f : States) (s : TreeLists) (meaning : Meaning) → IsMarked kernel k dir w f s → meaning.serves ≡ Plain → meaning.dim ≡ k.dim → CanSweep (plain_plan k.depth (range_of k s.tree) dir w.old) s.tree f meaning kind.Secondary s
can_finish kernel k dir w f s meaning is serves dim =
    let rests : TreeSays k w.old s.tree (AtRest w.old (value_of w.old f)) (copies s.lanes.input) = λ v has. says_less k v (AfterFirst k w) (AtRest w.old (value_of w.old f)) (copies s.lanes.input v) (λ c x h. record { status = h.rest.status; value = h.rest.value ∙ is.change.values c; stay = h.rest.stay }) (is.says v has) in
    store_can_be_swept k.depth (range_of k s.tree) s.tree dir w.old f s meaning kind.Secondary is.grid.deepest is.grid.grid (said_is_rest k w.old f s.tree s.tree dir s is.grid is.tree is.lists rests) refl serves (dim ∙ sym is.grid.dim)

-- its records are as a secondary sweep finds them
pub records_known : (kernel : Kernel) (k : Cuts) (dir : Direction) (w : Change) (f : States) (s : TreeLists) → IsMarked kernel k dir w f s → (r : Stored) → IsAmong r s.lanes.input → IsKnown k w r
records_known kernel k dir w f s is r among =
    let at = among_in r s.lanes.input among in
    record {
      stored = (has_vertex k w.old s.tree s.tree dir s is.grid is.lists is.tree r at).stored;
      says = all_in (λ x. SaysOfCells w.old.dim x (Halfway k w)) s.lanes.input (said_each k w.old s.tree s.tree dir s is.grid is.lists (AfterFirst k w) (λ x. SaysOfCells w.old.dim x (Halfway k w)) is.tree is.says (λ x h j q inside here. first_is_halfway k w q _ (h.inside j q inside here))) r at;
    }

-- a sweep in the words of its plan
pub is_plain : (q : TreeSweep) (plan : SweepPlan) (number : ℕ) (f : States) → q.serves ≡ Plain → q.plan ≡ plan → q.tree ≡ number → q.field ≡ f → q ≡ record { serves = Plain; plan = plan; tree = number; field = f; task = q.task }
is_plain q plan number f serves plan_is tree field =
    ap (λ x. record q { serves = x }) serves
    ∙ (ap (λ x. record q { serves = Plain; plan = x }) plan_is
    ∙ (ap (λ x. record q { serves = Plain; plan = plan; tree = x }) tree
    ∙ ap (λ x. record q { serves = Plain; plan = plan; tree = number; field = x }) field))

module _ {S : Type 0} (kernel : S → Kernel) (start end : SecondaryWork S) (dir : Direction) (w : Change) (f : States) (step : ℕ) (s t : TreeLists) (note : Note) (task : CellKey → ℕ)
    (is : IsMarked (kernel start.solver) (cuts_of start.keys) dir w f s) (same_tree : start.tree ≡ s.tree) (fresh : HasBegun start)
    (merging : CellKey → Bool) (states : States) (takes : TakesSums (cuts_of start.keys) start.tree w (kernel start.solver).parts merging states)
    (tree : IsSweptTree (SecondaryEnters kernel) (SecondaryLeaves (λ x. (kernel x).parts)) (cuts_of start.keys) start.tree (plain_sweep (cuts_of start.keys) start.tree dir w.old f s.tree task) step kind.Secondary s t start end note) where
  abbrev k : Cuts
  k = cuts_of start.keys

  abbrev p : TreeSweep
  p = plain_sweep k start.tree dir w.old f s.tree task

  in_range : start.tree < k.trees
  in_range = subst (λ n. n < k.trees) (sym same_tree) is.tree

  -- what is so after all calls
  told : IsSoFar kernel start w dir f s.tree task is.grid is.change.grid in_range merging states takes is.field is.by fresh s.lanes.input s.lanes.tale tree.gives.calls tree.gives.visits_are tree.gives.fit (records_known (kernel start.solver) k dir w f s is) tree.gives.calls end
  told = all_told kernel start w dir f s.tree task is.grid is.change.grid in_range merging states takes is.field is.by fresh s.lanes.input s.lanes.tale tree.gives.calls tree.gives.visits_are tree.gives.fit (records_known (kernel start.solver) k dir w f s is) end tree.gives.chain

  -- the two calls at a cell
  each_visit : EachVisitChanges (with_calls (begun p s.lanes.input s.lanes.tale) tree.gives.calls) (SecondaryChanges k w start.tree)
  each_visit c n a b low changed =
      let first : ChangesOneCell w.old.dim c (SecondaryCall k w start.tree false c) a changed.between = subst (λ v. Did kernel start w dir f s.tree task is.grid is.change.grid in_range merging states takes is.field is.by fresh s.lanes.input s.lanes.tale tree.gives.calls tree.gives.visits_are tree.gives.fit (records_known (kernel start.solver) k dir w f s is) v changed.entering.given changed.entering.made) changed.enters (told.did changed.entering changed.entering_among) n a changed.between low changed.given changed.kept in
      let second : ChangesOneCell w.old.dim c (SecondaryCall k w start.tree true c) changed.between b = subst (λ v. Did kernel start w dir f s.tree task is.grid is.change.grid in_range merging states takes is.field is.by fresh s.lanes.input s.lanes.tale tree.gives.calls tree.gives.visits_are tree.gives.fit (records_known (kernel start.solver) k dir w f s is) v changed.leaving.given changed.leaving.made) changed.leaves (told.did changed.leaving changed.leaving_among) n changed.between b low (ap (λ (v : CellView). corner_at v n) changed.same ∙ changed.kept) changed.made in
      let same : SameCorner (Vertex a) (Vertex changed.between) = subst (λ y. SameCorner (Vertex a) y) changed.kept (subst (λ x. SameCorner x (corner_at changed.entering.made n)) changed.given (changed.keeps.corners_stay n)) in
      changed_twice w.old.dim c (SecondaryCall k w start.tree false c) (SecondaryCall k w start.tree true c) (SecondaryChanges k w start.tree c) a changed.between b same.0 first second
      (λ x y z one two. secondary_at k w start.tree c x z (record { mid = y; entered = one; left = two }))

  away : (c : CellKey) (x : Slot) → ¬ Held k start.tree c → SecondaryChanges k w start.tree c x x
  away c x apart = record { status = refl; value = refl; mark = refl; next = λ owns. absurd (apart (owner_holds k start.tree c owns)); intent = λ owns. absurd (apart (owner_holds k start.tree c owns)) }

  -- what the sweep changed
  pub finished_slots : IsSwept k w.old start.tree (SecondaryChanges k w start.tree) (copies s.lanes.input) (copies t.lanes.input)
  finished_slots v has = swept_less k _ (SecondaryChanges k w start.tree) v (copies s.lanes.input v) (copies t.lanes.input v)
      (if_held k start.tree (SecondaryChanges k w start.tree) (SecondaryChanges k w start.tree) (λ c a b h. h) away)
      (plain_swept (SecondaryEnters kernel) (SecondaryLeaves (λ x. (kernel x).parts)) k start.tree p step kind.Secondary s t start end note (SecondaryChanges k w start.tree) tree refl each_visit v has)

  -- each cell of its own that is of a kind was seen
  counted : (g : Visit → List CellKey) (P : CellKey → Type 0) (n : ℕ) → ListsCells p.plan (in_grids p.plan) (flat_map g (visits_of p.plan)) → ((c : CellKey) → P c → IsCell w.old.dim c × (has_cell w.old c ≡ true)) → HaveCounted (flat_map g (map visit_of tree.gives.calls)) (λ c. Owns k start.tree c × P c) n → CountsOwn k start.tree P n
  counted g P n lists there have = record {
    count = length have.found;
    counts = record {
      cells = have.found;
      members = λ c. (
        (λ h. ((have.are.members c).0 h).1),
        (λ h.
            let here = there c h.1 in
            (have.are.members c).1 (
              subst (λ l. IsIn c (flat_map g l)) (sym tree.gives.visits_are) ((lists.members c).1 (record {
                cell = here.0;
                held = held_told p.plan c (subst (λ d. HoldsCell d k.depth (range_of k start.tree) c) (sym is.grid.dim) (owner_holds k start.tree c h.0));
                passes = ap (λ b. b || b) here.1;
              })),
              h,
            )),
      );
      once = have.are.once;
      count = refl;
    };
    told = have.count;
  }

  -- each enclave leaf was entered
  seen_in : (c : CellKey) → IsEnclave k w.old start.tree c → IsIn c (flat_map entered_at (map visit_of tree.gives.calls))
  seen_in c enclave =
      let cell : IsCell w.old.dim c = subst (λ d. IsCell d c) (sym is.grid.dim) enclave.0.cell in
      subst (λ l. IsIn c (flat_map entered_at l)) (sym tree.gives.visits_are) (((each_held_cell_once p.plan (plain_is_plan k start.tree dir w.old is.grid)).0.members c).1 (record {
        cell = cell;
        held = held_told p.plan c (subst (λ d. HoldsCell d k.depth (range_of k start.tree) c) (sym is.grid.dim) (owner_holds k start.tree c enclave.0.owns));
        passes = ap (λ b. b || b) (leaf_there w.old c (record { cell = cell; leaf = enclave.0.leaf }));
      }))

  -- so they are counted
  pub finished_tally : IsTallied k w start.tree (record { failing = end.failing; splits = end.splits; merges = end.merges })
  finished_tally =
      let seen = each_held_cell_once p.plan (plain_is_plan k start.tree dir w.old is.grid) in
      record {
        failing = served_join w.next (Among (flat_map entered_at (map visit_of tree.gives.calls)) (IsEnclave k w.old start.tree)) (IsEnclave k w.old start.tree) end.failing (λ c h. h.1) (λ c enclave fails no. no (seen_in c enclave, enclave)) told.failing;
        splits = counted entered_at (Splits w.old w.mark) end.splits seen.0 (λ c h. (h.cell, leaf_there w.old c (record { cell = h.cell; leaf = h.leaf }))) told.splits;
        merges = counted left_at (Merges w.old w.mark) end.merges seen.1 (λ c h. (is.grid.grid.cells c h.refined, refined_there k.depth w.old c is.grid.grid h.refined)) told.merges;
      }

  -- and each is gathered
  pub finished_tasks : (before : TasksSeen S) → Turns before start.tasks → SpawnedAll k w.old start.tree before.left before.spawned → CollectedAll end.tasks.seat before.spawned
  finished_tasks before turns spawned = all_gathered k w.old start.tree (flat_map entered_at (map visit_of tree.gives.calls)) before start.tasks end.tasks turns spawned seen_in told.gathered

  -- each cell of the grid that the tree holds was left
  left_in : (c : CellKey) → IsCell w.old.dim c → has_cell w.old c ≡ true → Held k start.tree c → IsIn c (flat_map left_at (map visit_of tree.gives.calls))
  left_in c cell there held = subst (λ l. IsIn c (flat_map left_at l)) (sym tree.gives.visits_are) (((each_held_cell_once p.plan (plain_is_plan k start.tree dir w.old is.grid)).1.members c).1 (record {
    cell = cell;
    held = held_told p.plan c (subst (λ d. HoldsCell d k.depth (range_of k start.tree) c) (sym is.grid.dim) held);
    passes = ap (λ b. b || b) there;
  }))

  module _ (served : IsServed w (kernel start.solver).parts merging states) where
    -- the new states of the tree's own leaves have 64 bits
    pub finished_words : HaveWords k w.old states start.tree
    finished_words c owns leaf i = told.words served c (left_in c leaf.cell (leaf_there w.old c leaf) (owner_holds k start.tree c owns)) owns leaf.leaf i

    -- so what the tree has of a cell is by these states
    pub same_has : (i : ℕ) (c : CellKey) → IsCell w.old.dim c → has_cell w.old c ≡ true → has k w.old merging states start.tree i c ≡ tree_partial k w.old merging (component_of states i) start.tree c
    same_has i c cell there = same_partial k w.old merging start.tree (now k w.old merging states start.tree i) (component_of states i) is.grid (λ q owns leaf. word_same (component_of states i q) (finished_words q owns leaf i)) c cell there

    -- and the partials are those of the tree
    pub finished_partials : ArePartialsOf k w.old merging states start.tree end.partials
    finished_partials =
        let handed = told.handed served in
        record {
          once = handed.once;
          cells = λ c. (
            (λ h. (handed.here c h).1),
            (λ shared. handed.all c (left_in c (is.grid.grid.cells c shared.refined) (refined_there k.depth w.old c is.grid.grid shared.refined) shared.held) shared),
          );
          each = All-weaker (TellsCell k w.old merging start.tree (λ i c. has k w.old merging states start.tree i c)) (IsPartialOf k w.old merging states start.tree)
              (λ x h. record {
                sums = λ i small. h.sums i small ∙ same_has i x.key (is.grid.grid.cells x.key h.shared.refined) (refined_there k.depth w.old x.key is.grid.grid h.shared.refined);
                merges = h.merges;
              })
              end.partials handed.each;
        }

module _ {S : Type 0} (kernel : S → Kernel) (start end : SecondaryWork S) (dir : Direction) (w : Change) (f : States) (step : ℕ) (s t : TreeLists) (note : Note) (meaning : Meaning)
    (is : IsMarked (kernel start.solver) (cuts_of start.keys) dir w f s) (same_tree : start.tree ≡ s.tree) (fresh : HasBegun start)
    (asked : CanSweep (plain_plan (cuts_of start.keys).depth (range_of (cuts_of start.keys) s.tree) dir w.old) s.tree f meaning kind.Secondary s)
    (gives : SweepGives (SecondaryEnters kernel) (SecondaryLeaves (λ x. (kernel x).parts)) asked.sweep step kind.Secondary s.lanes.input s.lanes.tale t start end note)
    (rest : (q : SweepPlan) → IsSweepPlan q → ComesAfter asked.sweep.plan q → HasLists q asked.sweep.tree t) where
  abbrev cuts : Cuts
  cuts = cuts_of start.keys

  abbrev q : TreeSweep
  q = asked.sweep

  plain : q ≡ plain_sweep cuts start.tree dir w.old f s.tree q.task
  plain = is_plain q (plain_plan cuts.depth (range_of cuts start.tree) dir w.old) s.tree f (sym asked.asks.served) (asked.plan_is ∙ ap (λ n. plain_plan cuts.depth (range_of cuts n) dir w.old) (sym same_tree)) asked.tree_is asked.field_is

  swept : IsSweptTree (SecondaryEnters kernel) (SecondaryLeaves (λ x. (kernel x).parts)) cuts start.tree (plain_sweep cuts start.tree dir w.old f s.tree q.task) step kind.Secondary s t start end note
  swept = record {
    sweep = subst IsTreeSweep plain asked.asks.sweep;
    tree = record { dim = is.grid.dim; depth = refl; range = refl };
    keys = subst (λ (x : TreeSweep). map key_of s.lanes.input ≡ taken_by (moves_of x.plan)) plain asked.asks.rest.input;
    gives = subst (λ x. SweepGives (SecondaryEnters kernel) (SecondaryLeaves (λ x. (kernel x).parts)) x step kind.Secondary s.lanes.input s.lanes.tale t start end note) plain gives;
  }

  -- a change without new values of refined cells
  abbrev bare : Change
  bare = with_means w (λ c. None)

  bare_takes : TakesSums cuts start.tree bare (kernel start.solver).parts (λ c. false) f
  bare_takes c x refined e = absurd (no_value (sym (refined_next w (λ q. None) c refined) ∙ e))
    where
      no_value : ◌≡◌ {A = Option State} None (Some x) → ⊥
      no_value h = cc

  bare_is : IsMarked (kernel start.solver) cuts dir bare f s
  bare_is = marked_with w (λ c. None) (kernel start.solver) cuts dir f s is

  pub gathered_there : (before : TasksSeen S) → Turns before start.tasks → SpawnedAll cuts w.old s.tree before.left before.spawned → CollectedAll end.tasks.seat before.spawned
  gathered_there before turns spawned = finished_tasks kernel start end dir bare f step s t note q.task bare_is same_tree fresh (λ c. false) f bare_takes swept before turns (subst (λ n. SpawnedAll cuts w.old n before.left before.spawned) (sym same_tree) spawned)

  tallied : IsTallied cuts w s.tree (record { failing = end.failing; splits = end.splits; merges = end.merges })
  tallied = subst (λ n. IsTallied cuts w n (record { failing = end.failing; splits = end.splits; merges = end.merges })) same_tree
      (tally_without w (λ c. None) cuts start.tree (record { failing = end.failing; splits = end.splits; merges = end.merges })
      (finished_tally kernel start end dir bare f step s t note q.task bare_is same_tree fresh (λ c. false) f bare_takes swept))

  -- where all leaves have new states, one in which each refined cell takes the floors of what the tree has of it
  module _ (states : States) (merging : CellKey → Bool) (new_states : AreNewStatesOf w (kernel start.solver).parts states) (tells : TellsMerges w.old w.mark merging) where
    abbrev parts : ℕ
    parts = (kernel start.solver).parts

    abbrev floors : CellKey → ℕ → ℤ
    floors c i = floor_of (has cuts w.old merging states start.tree i c) (cell_weight cuts.depth w.old.dim c)

    abbrev mean_at : CellKey → State
    mean_at c = state_like (mean_under cuts.depth w.old states c) (floors c)

    abbrev full : Change
    full = with_means w (λ c. Some (mean_at c))

    mean_count : (c : CellKey) → is_refined w.old c ≡ true → count_of (mean_at c) ≡ parts
    mean_count c refined = count_of_like (mean_under cuts.depth w.old states c) (floors c) ∙ count_of_value cuts.depth parts w.old states c is.grid.deepest is.grid.grid new_states.field (is.grid.grid.cells c refined) (refined_there cuts.depth w.old c is.grid.grid refined)

    mean_floors : (c : CellKey) → is_refined w.old c ≡ true → HasFloors parts (cell_weight cuts.depth w.old.dim c) (λ i. has cuts w.old merging states start.tree i c) (mean_at c)
    mean_floors c refined = record { count = mean_count c refined; each = λ i below. like_at (mean_under cuts.depth w.old states c) (floors c) i (subst (λ n. i < n) (sym (mean_count c refined)) below) }

    full_served : IsServed full parts merging states
    full_served = (states_with w (λ c. Some (mean_at c)) parts states new_states, tells)

    full_takes : TakesSums cuts start.tree full parts merging states
    full_takes c x refined e = (full_served, subst (HasFloors parts (cell_weight cuts.depth w.old.dim c) (λ i. has cuts w.old merging states start.tree i c)) (some_same (mean_at c) x (sym (refined_next w (λ q. Some (mean_at q)) c refined) ∙ e)) (mean_floors c refined))

    full_is : IsMarked (kernel start.solver) cuts dir full f s
    full_is = marked_with w (λ c. Some (mean_at c)) (kernel start.solver) cuts dir f s is

    by_partials : (c : CellKey) (x : State) → is_refined w.old c ≡ true → x ≡ mean_at c → HasFloors parts (cell_weight cuts.depth w.old.dim c) (λ i. tree_partial cuts w.old merging (component_of states i) start.tree c) x
    by_partials c x refined e =
        let here = is.grid.grid.cells c refined in
        let there = refined_there cuts.depth w.old c is.grid.grid refined in
        subst (HasFloors parts (cell_weight cuts.depth w.old.dim c) (λ i. tree_partial cuts w.old merging (component_of states i) start.tree c)) (sym e) (record {
          count = (mean_floors c refined).count;
          each = λ i below. (mean_floors c refined).each i below ∙ ap (λ z. floor_of z (cell_weight cuts.depth w.old.dim c)) (same_has kernel start end dir full f step s t note q.task full_is same_tree fresh merging states full_takes swept full_served i c here there);
        })

    full_slots : IsSwept cuts w.old start.tree (SummedChanges cuts parts w merging states start.tree) (copies s.lanes.input) (copies t.lanes.input)
    full_slots v at = swept_less cuts (SecondaryChanges cuts full start.tree) (SummedChanges cuts parts w merging states start.tree) v (copies s.lanes.input v) (copies t.lanes.input v)
        (λ c x y h. record {
          status = h.status;
          value = h.value;
          mark = h.mark;
          leaf = λ owns leaf. subst (λ o. Gives o y.next) (leaf_next w (λ q. Some (mean_at q)) c (leaf_not w.old c leaf)) (h.next owns);
          refined = λ owns refined. by_partials c y.next refined (h.next owns (mean_at c) (refined_next w (λ q. Some (mean_at q)) c refined));
          intent = h.intent;
        })
        (finished_slots kernel start end dir full f step s t note q.task full_is same_tree fresh merging states full_takes swept v at)

    summed_there : IsSummed cuts parts w merging states s t end.partials
    summed_there = record {
      slots = subst (λ n. IsSwept cuts w.old n (SummedChanges cuts parts w merging states n) (copies s.lanes.input) (copies t.lanes.input)) same_tree full_slots;
      handed = subst (λ n. ArePartialsOf cuts w.old merging states n end.partials) same_tree (finished_partials kernel start end dir full f step s t note q.task full_is same_tree fresh merging states full_takes swept full_served);
      words = subst (λ n. HaveWords cuts w.old states n) same_tree (finished_words kernel start end dir full f step s t note q.task full_is same_tree fresh merging states full_takes swept full_served);
    }

  abbrev next : SweepPlan
  next = plain_plan cuts.depth (range_of cuts s.tree) (turned_round dir) w.old

  lists : HasLists next s.tree t
  lists = subst (λ n. HasLists next n t) asked.tree_is (rest next (record { depth = is.grid.deepest; old = (is.grid.grid, refl); new = is.grid.grid }) (record {
    depth = sym (ap (λ (x : SweepPlan). x.depth) asked.plan_is);
    range = sym (ap (λ (x : SweepPlan). x.range) asked.plan_is);
    dir = sym (ap (λ (x : SweepPlan). turned_round x.dir) asked.plan_is);
    old = sym (ap (λ (x : SweepPlan). Some x.new) asked.plan_is);
  }))

  noted_by : SweepPlan → ℕ → Note
  noted_by x n = note_of x kind.Secondary step n

  -- what a secondary sweep makes of a tree
  pub secondary_swept : IsSecondarySwept cuts (kernel start.solver).parts dir w step s t note (record { failing = end.failing; splits = end.splits; merges = end.merges }) end.partials
  unfolding noted_by
  secondary_swept = record {
    lists = lists;
    summed = λ states merging new_states tells. summed_there states merging new_states tells;
    noted = record {
      counts = gives.note_is ∙ (ap (λ x. noted_by x q.tree) asked.plan_is ∙ ap (noted_by (plain_plan cuts.depth (range_of cuts s.tree) dir w.old)) asked.tree_is);
      tale = gives.tale_is;
    };
    tallied = tallied;
  }

-- so of the visitor that was made for the sweep
pub secondary_told : {S : Type 0} (kernel : S → Kernel) (start end made : SecondaryWork S) (dir : Direction) (w : Change) (f : States) (step : ℕ) (s t : TreeLists) (note : Note) (tally : Tally) (partials : List Partial) → start ≡ made → HasBegun made → made.tree ≡ s.tree → IsMarked (kernel made.solver) (cuts_of made.keys) dir w f s →
    ((q : TreeSweep) → SweepAsks q (plain_meaning start.keys.dim) kind.Secondary s → SweepGives (SecondaryEnters kernel) (SecondaryLeaves (λ x. (kernel x).parts)) q step kind.Secondary s.lanes.input s.lanes.tale t start end note) →
    ((q : TreeSweep) → SweepAsks q (plain_meaning start.keys.dim) kind.Secondary s → (n : SweepPlan) → IsSweepPlan n → ComesAfter q.plan n → HasLists n q.tree t) →
    tally ≡ record { failing = end.failing; splits = end.splits; merges = end.merges } → partials ≡ end.partials → IsSecondarySwept (cuts_of made.keys) (kernel made.solver).parts dir w step s t note tally partials
secondary_told kernel start end made dir w f step s t note tally partials is fresh tree marked done rest tally_is partials_are =
    subst (λ (y : SecondaryWork _). HasBegun y → y.tree ≡ s.tree → IsMarked (kernel y.solver) (cuts_of y.keys) dir w f s → IsSecondarySwept (cuts_of y.keys) (kernel y.solver).parts dir w step s t note tally partials) is
    (λ fresh_here tree_here marked_here.
    let asked = can_finish (kernel start.solver) (cuts_of start.keys) dir w f s (plain_meaning start.keys.dim) marked_here refl refl in
    subst (λ x. IsSecondarySwept (cuts_of start.keys) (kernel start.solver).parts dir w step s t note x partials) (sym tally_is)
    (subst (IsSecondarySwept (cuts_of start.keys) (kernel start.solver).parts dir w step s t note (record { failing = end.failing; splits = end.splits; merges = end.merges })) (sym partials_are)
    (secondary_swept kernel start end dir w f step s t note (plain_meaning start.keys.dim) marked_here tree_here fresh_here asked (done asked.sweep asked.asks) (rest asked.sweep asked.asks))))
    fresh tree marked

-- and so are its tasks
pub gathered_told : {S : Type 0} (kernel : S → Kernel) (start end made : SecondaryWork S) (dir : Direction) (w : Change) (f : States) (step : ℕ) (s t : TreeLists) (note : Note) (before : TasksSeen S) → start ≡ made → HasBegun made → made.tree ≡ s.tree → IsMarked (kernel made.solver) (cuts_of made.keys) dir w f s →
    ((q : TreeSweep) → SweepAsks q (plain_meaning start.keys.dim) kind.Secondary s → SweepGives (SecondaryEnters kernel) (SecondaryLeaves (λ x. (kernel x).parts)) q step kind.Secondary s.lanes.input s.lanes.tale t start end note) →
    ((q : TreeSweep) → SweepAsks q (plain_meaning start.keys.dim) kind.Secondary s → (n : SweepPlan) → IsSweepPlan n → ComesAfter q.plan n → HasLists n q.tree t) →
    Turns before made.tasks → SpawnedAll (cuts_of made.keys) w.old s.tree before.left before.spawned → CollectedAll end.tasks.seat before.spawned
gathered_told kernel start end made dir w f step s t note before is fresh tree marked done rest turns spawned =
    subst (λ (y : SecondaryWork _). HasBegun y → y.tree ≡ s.tree → IsMarked (kernel y.solver) (cuts_of y.keys) dir w f s → Turns before y.tasks → SpawnedAll (cuts_of y.keys) w.old s.tree before.left before.spawned → CollectedAll end.tasks.seat before.spawned) is
    (λ fresh_here tree_here marked_here turns_here spawned_here.
    let asked = can_finish (kernel start.solver) (cuts_of start.keys) dir w f s (plain_meaning start.keys.dim) marked_here refl refl in
    gathered_there kernel start end dir w f step s t note (plain_meaning start.keys.dim) marked_here tree_here fresh_here asked (done asked.sweep asked.asks) (rest asked.sweep asked.asks) before turns_here spawned_here)
    fresh tree marked turns spawned
