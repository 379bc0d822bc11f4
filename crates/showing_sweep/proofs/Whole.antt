-- A whole sweep that gathers rows: the store after it, what it shows and its note, of the visitor that was made for it.
use Rattle.std.proofs.Common.{◌≡◌, ℕ, ◌<◌, [], Some, map, refl, ap, sym, ◌∙◌, subst}
use Rattle.peano_keys.specs.Grid.{Spacetree}
use Rattle.peano_keys.specs.Field.{States, value_of}
use Rattle.peano_curve.specs.declared.order.Direction.{Direction}
use Rattle.curve_cuts.specs.Cuts.{Cuts, range_of}
use Rattle.curve_cuts.specs.Keys.{cuts_of}
use Rattle.sweep_visits.specs.Plan.{SweepPlan, IsSweepPlan}
use Rattle.sweep_visits.specs.Runs.{turned_round}
use Rattle.sweep_visits.specs.Moves.{moves_of, taken_by}
use Rattle.sweep_streams.specs.Streams.{ComesAfter}
use Rattle.vertex_stacks.specs.declared.kind.Kind.{Kind}
use Rattle.vertex_stacks.specs.Notes.{Note}
use Rattle.vertex_stacks.specs.Tales.{capped}
use Rattle.tree_automaton.specs.Noted.{note_of}
use Rattle.tree_automaton.specs.TreeLists.{TreeLists}
use Rattle.tree_automaton.specs.Sweep.{TreeSweep, IsTreeSweep}
use Rattle.tree_automaton.specs.Promises.{Meaning}
use Rattle.tree_automaton.specs.Sweeps.{SweepAsks, SweepGives, key_of}
use Rattle.tree_automaton.specs.AtRest.{CanSweep, HasLists, StandsFor, plain_plan}
use Rattle.step_phases.specs.Stores.{TreeSays}
use Rattle.step_phases.specs.Phases.{AtRest}
use Rattle.swept_slots.specs.Copies.{copies}
use Rattle.swept_slots.specs.Laws.{IsSweptTree}
use Rattle.swept_slots.proofs.Stores.{rest_is_said, said_is_rest}
use Rattle.step_sweeps.specs.Sweeps.{StandsOn}
use Rattle.step_sweeps.proofs.HalfwayViews.{plain_sweep}
use Rattle.step_sweeps.proofs.SecondaryTree.{is_plain}
use Rattle.field_report.specs.declared.traffic.Traffic.{Traffic}
use Rattle.showing_sweep.specs.declared.shown.Shown.{Shown}
use Rattle.showing_sweep.specs.Counts.{Counts, ListsAll, NoneTwice}
use Rattle.showing_sweep.specs.Sent.{IsPairOf}
use Rattle.showing_sweep.specs.Shown.{IsRowOf, IsTraffic}
use Rattle.showing_sweep.specs.Shows.{ShowWork, ShowEnters, ShowLeaves, nothing_counted}
use Rattle.showing_sweep.specs.Sweeps.{IsGathering, IsShownTree}
use Rattle.showing_sweep.proofs.Amounts.{taken_is_put, taken_listed}
use Rattle.showing_sweep.proofs.Swept.{can_show, gathering_is_plain, rows_shown, says_after, showing_meaning, traffic_told}

module _ (start end : ShowWork) (dir : Direction) (g : Spacetree) (f : States) (parts step : ℕ) (kind : Kind) (s t : TreeLists) (note : Note) (meaning : Meaning) (shown : Shown)
    (gathers : IsGathering kind) (on : StandsOn (cuts_of start.keys) parts dir g f s) (same_tree : start.tree ≡ s.tree) (no_rows : start.rows ≡ []) (nothing : start.counts ≡ nothing_counted)
    (asked : CanSweep (plain_plan (cuts_of start.keys).depth (range_of (cuts_of start.keys) s.tree) dir g) s.tree f meaning kind s)
    (gives : SweepGives ShowEnters ShowLeaves asked.sweep step kind s.lanes.input s.lanes.tale t start end note)
    (rest : (q : SweepPlan) → IsSweepPlan q → ComesAfter asked.sweep.plan q → HasLists q asked.sweep.tree t)
    (sent : ℕ) (pairs : NoneTwice (map key_of s.lanes.input) → Counts (IsPairOf (cuts_of start.keys) s.tree (map key_of s.lanes.input)) sent)
    (rows_are : shown.rows.items ≡ end.rows)
    (traffic_is : shown.traffic ≡ record { tree = s.tree; cells = end.counts.cells; stored = note.put; pushes = note.pushed; hanging = end.counts.hanging; enclave = end.counts.enclave; skeleton = end.counts.skeleton; sent = sent }) where
  abbrev cuts : Cuts
  cuts = cuts_of start.keys

  abbrev q : TreeSweep
  q = asked.sweep

  plain : q ≡ plain_sweep cuts start.tree dir g f s.tree q.task
  plain = is_plain q (plain_plan cuts.depth (range_of cuts start.tree) dir g) s.tree f (sym asked.asks.served ∙ gathering_is_plain kind gathers) (asked.plan_is ∙ ap (λ n. plain_plan cuts.depth (range_of cuts n) dir g) (sym same_tree)) asked.tree_is asked.field_is

  swept : IsSweptTree ShowEnters ShowLeaves cuts start.tree (plain_sweep cuts start.tree dir g f s.tree q.task) step kind s t start end note
  swept = record {
    sweep = subst IsTreeSweep plain asked.asks.sweep;
    tree = record { dim = on.grid.dim; depth = refl; range = refl };
    keys = subst (λ (x : TreeSweep). map key_of s.lanes.input ≡ taken_by (moves_of x.plan)) plain asked.asks.rest.input;
    gives = subst (λ x. SweepGives ShowEnters ShowLeaves x step kind s.lanes.input s.lanes.tale t start end note) plain gives;
  }

  abbrev next : SweepPlan
  next = plain_plan cuts.depth (range_of cuts s.tree) (turned_round dir) g

  lists : HasLists next s.tree t
  lists = subst (λ n. HasLists next n t) asked.tree_is (rest next (record { depth = on.grid.deepest; old = (on.grid.grid, refl); new = on.grid.grid }) (record {
    depth = sym (ap (λ (x : SweepPlan). x.depth) asked.plan_is);
    range = sym (ap (λ (x : SweepPlan). x.range) asked.plan_is);
    dir = sym (ap (λ (x : SweepPlan). turned_round x.dir) asked.plan_is);
    old = sym (ap (λ (x : SweepPlan). Some x.new) asked.plan_is);
  }))

  says : TreeSays cuts g s.tree (AtRest g (value_of g f)) (copies t.lanes.input)
  says = subst (λ n. TreeSays cuts g n (AtRest g (value_of g f)) (copies s.lanes.input) → TreeSays cuts g n (AtRest g (value_of g f)) (copies t.lanes.input)) same_tree
      (says_after start end dir g f parts step kind s t note q.task on same_tree no_rows nothing swept) (rest_is_said cuts g f s.tree s.tree dir s on.grid on.stands)

  noted_by : SweepPlan → ℕ → Note
  noted_by x n = note_of x kind step n

  abbrev here : SweepPlan
  here = plain_plan cuts.depth (range_of cuts s.tree) dir g

  note_here : note ≡ noted_by here s.tree
  unfolding noted_by
  note_here = gives.note_is ∙ (ap (λ x. noted_by x q.tree) asked.plan_is ∙ ap (noted_by here) asked.tree_is)

  pairs_here : Counts (IsPairOf cuts s.tree (taken_by (moves_of here))) sent
  pairs_here = subst (λ vs. NoneTwice vs → Counts (IsPairOf cuts s.tree vs) sent) on.stands.lists.input pairs (taken_listed cuts s.tree dir g on.grid on.tree).once

  traffic : IsTraffic cuts g s.tree shown.traffic
  traffic = subst (IsTraffic cuts g s.tree) (sym traffic_is) (subst (λ n. Counts (IsPairOf cuts n (taken_by (moves_of (plain_plan cuts.depth (range_of cuts n) dir g)))) sent → IsTraffic cuts g n (record { tree = n; cells = end.counts.cells; stored = note.put; pushes = note.pushed; hanging = end.counts.hanging; enclave = end.counts.enclave; skeleton = end.counts.skeleton; sent = sent })) same_tree
      (λ pairs. traffic_told start end dir g f parts step kind s t note q.task on same_tree no_rows nothing swept sent pairs) pairs_here)

  put_is : note.put ≡ shown.traffic.stored
  put_is = sym (ap (λ (x : Traffic). x.stored) traffic_is)

  taken_is : note.taken ≡ note.put
  unfolding noted_by
  taken_is = ap (λ (n : Note). n.taken) note_here ∙ (ap capped (taken_is_put cuts s.tree dir g on.grid on.tree) ∙ sym (ap (λ (n : Note). n.put) note_here))

  -- what such a sweep makes of a tree, and what it shows
  pub tree_shown : IsShownTree cuts parts dir g f step kind s t note shown
  unfolding noted_by
  tree_shown = record {
    tree = lists.tree;
    stands = record {
      grid = on.grid;
      field = on.field;
      tree = subst (λ n. n < cuts.trees) (sym lists.tree) on.tree;
      stands = subst (λ n. StandsFor cuts.depth (range_of cuts n) n (turned_round dir) g f t) (sym lists.tree) (said_is_rest cuts g f s.tree s.tree (turned_round dir) t on.grid on.tree lists says);
    };
    rows = subst (ListsAll (IsRowOf cuts g f s.tree)) (sym rows_are) (subst (λ n. ListsAll (IsRowOf cuts g f n) end.rows) same_tree (rows_shown start end dir g f parts step kind s t note q.task on same_tree no_rows nothing swept));
    traffic = traffic;
    noted = record { counts = note_here; tale = gives.tale_is };
    moved = record { taken = taken_is ∙ put_is; put = put_is; pushed = sym (ap (λ (x : Traffic). x.pushes) traffic_is) };
  }

-- so of the visitor that was made for the sweep
pub shown_told : (start end made : ShowWork) (dir : Direction) (g : Spacetree) (f : States) (parts step : ℕ) (kind : Kind) (s t : TreeLists) (note : Note) (shown : Shown) (sent : ℕ) → IsGathering kind → start ≡ made → made.rows ≡ [] → made.counts ≡ nothing_counted → made.tree ≡ s.tree → StandsOn (cuts_of made.keys) parts dir g f s →
    ((q : TreeSweep) → SweepAsks q (showing_meaning start.keys.dim) kind s → SweepGives ShowEnters ShowLeaves q step kind s.lanes.input s.lanes.tale t start end note) →
    ((q : TreeSweep) → SweepAsks q (showing_meaning start.keys.dim) kind s → (n : SweepPlan) → IsSweepPlan n → ComesAfter q.plan n → HasLists n q.tree t) →
    (NoneTwice (map key_of s.lanes.input) → Counts (IsPairOf (cuts_of made.keys) s.tree (map key_of s.lanes.input)) sent) → shown.rows.items ≡ end.rows →
    shown.traffic ≡ record { tree = s.tree; cells = end.counts.cells; stored = note.put; pushes = note.pushed; hanging = end.counts.hanging; enclave = end.counts.enclave; skeleton = end.counts.skeleton; sent = sent } →
    IsShownTree (cuts_of made.keys) parts dir g f step kind s t note shown
shown_told start end made dir g f parts step kind s t note shown sent gathers is no_rows nothing tree on done rest pairs rows_are traffic_is =
    subst (λ (y : ShowWork). y.rows ≡ [] → y.counts ≡ nothing_counted → y.tree ≡ s.tree → StandsOn (cuts_of y.keys) parts dir g f s → (NoneTwice (map key_of s.lanes.input) → Counts (IsPairOf (cuts_of y.keys) s.tree (map key_of s.lanes.input)) sent) → IsShownTree (cuts_of y.keys) parts dir g f step kind s t note shown) is
    (λ rows_here counts_here tree_here on_here pairs_here.
    let asked = can_show (cuts_of start.keys) parts dir g f kind s (showing_meaning start.keys.dim) gathers on_here refl refl in
    tree_shown start end dir g f parts step kind s t note (showing_meaning start.keys.dim) shown gathers on_here tree_here rows_here counts_here asked (done asked.sweep asked.asks) (rest asked.sweep asked.asks) sent pairs_here rows_are traffic_is)
    no_rows nothing tree on pairs
