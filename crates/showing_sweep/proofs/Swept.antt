-- What a showing sweep leaves, gathers and counts.
use Rattle.std.proofs.Common.{◌≡◌, ℕ, ◌+◌, ◌*◌, ◌<◌, ◌≤◌, true, List, [], ◌∷◌, zero, suc, length, refl, ap, sym, ◌∙◌, subst, inl, inr, arith, get_or}
use Rattle.std.specs.Prelude.{flat_map, All}
use Rattle.std.specs.FinSet as set
use Rattle.stack_law.specs.Once.{IsIn}
use Rattle.peano_keys.specs.declared.cell.CellKey.{CellKey}
use Rattle.peano_keys.specs.declared.dim.Dim.{Dim}
use Rattle.peano_keys.specs.Dim.{corners}
use Rattle.peano_keys.specs.Cell.{IsCell}
use Rattle.peano_keys.specs.Grid.{Spacetree}
use Rattle.peano_keys.specs.Field.{States, value_of}
use Rattle.peano_curve.specs.declared.order.Direction.{Direction}
use Rattle.peano_records.specs.declared.stored.Stored.{Stored}
use Rattle.peano_records.specs.declared.view.CellView.{CellView}
use Rattle.peano_records.specs.Tells.{corner_at}
use Rattle.curve_cuts.specs.Cuts.{Cuts, range_of}
use Rattle.curve_cuts.specs.Keys.{cuts_of}
use Rattle.curve_cuts.specs.Enclave.{IsEnclave, IsSkeleton, OwnsLeaf}
use Rattle.sweep_visits.specs.Moves.{moves_of, taken_by, put_by}
use Rattle.sweep_visits.specs.Visits.{Visit, enter, leave, visits_of}
use Rattle.sweep_streams.specs.Counts.{pushed_by}
use Rattle.sweep_streams.specs.Records.{entered_at, left_at}
use Rattle.vertex_stacks.specs.declared.kind.Kind.{Kind}
use Rattle.vertex_stacks.specs.declared.kind.Kind.TheVariants.{Raise, Show, Primary, Secondary, Adapt, Recut}
use Rattle.vertex_stacks.specs.Notes.{Note}
use Rattle.tree_automaton.specs.declared.kinds.Serves.TheVariants.{Plain}
use Rattle.tree_automaton.specs.TreeLists.{TreeLists}
use Rattle.tree_automaton.specs.Sweep.{TreeSweep, served_by}
use Rattle.tree_automaton.specs.Promises.{Meaning}
use Rattle.tree_automaton.specs.Story.{Call, IsAmong, with_calls}
use Rattle.tree_automaton.specs.Sweeps.{Stands, begun}
use Rattle.tree_automaton.specs.AtRest.{CanSweep, plain_plan}
use Rattle.tree_automaton.proofs.Collects.{each_call}
use Rattle.tree_automaton.proofs.Rests.{store_can_be_swept}
use Rattle.step_phases.specs.Stores.{TreeSays}
use Rattle.step_phases.specs.Phases.{AtRest}
use Rattle.step_phases.proofs.Grids.{level_in}
use Rattle.step_phases.proofs.Sweeps.{swept_says}
use Rattle.swept_slots.specs.Changes.{EachVisitChanges}
use Rattle.swept_slots.specs.Copies.{copies}
use Rattle.swept_slots.specs.Laws.{IsSweptTree}
use Rattle.swept_slots.proofs.Stores.{has_vertex}
use Rattle.swept_slots.proofs.Swept.{if_held, plain_swept, swept_less}
use Rattle.swept_slots.proofs.Views.{one_record}
use Rattle.step_sweeps.specs.Sweeps.{StandsOn}
use Rattle.step_sweeps.proofs.OwnSlots.{changes_none}
use Rattle.step_sweeps.proofs.HalfwayViews.{plain_sweep}
use Rattle.field_report.specs.declared.traffic.Traffic.{Traffic}
use Rattle.showing_sweep.specs.Counts.{AreSoMany, Counts, ListsAll}
use Rattle.showing_sweep.specs.Sent.{IsPairOf, IsVertexOf}
use Rattle.showing_sweep.specs.Shown.{Amounts, AreAmounts, IsRowOf, IsTraffic}
use Rattle.showing_sweep.specs.Shows.{ShowWork, ShowEnters, ShowLeaves, nothing_counted}
use Rattle.showing_sweep.specs.Sweeps.{IsGathering}
use Rattle.showing_sweep.proofs.Found.{AreCounted, AreFound, all_found}
use Rattle.showing_sweep.proofs.Hanging.{hanging_at}
use Rattle.showing_sweep.proofs.Moved.{corners_add_up}
use Rattle.showing_sweep.proofs.Amounts.{cells_many, hanging_many, own_entered, own_left, put_many, sent_many}
use Rattle.showing_sweep.proofs.Calls.{AreCounts, IsSoFar, all_shown, itself, row_home}

-- what the visitor of a showing sweep means
abbrev pub showing_meaning : Dim → Meaning
showing_meaning dim = record { serves = Plain; dim = dim; new_grid = record { dim = dim; refined = set.empty }; may_want = true; loan = 0 }

-- a sweep that gathers rows changes nothing
pub gathering_is_plain : (kind : Kind) → IsGathering kind → served_by kind ≡ Plain
gathering_is_plain Show gathers = refl
gathering_is_plain Recut gathers = refl
gathering_is_plain Raise gathers = absurd gathers
gathering_is_plain Primary gathers = absurd gathers
gathering_is_plain Secondary gathers = absurd gathers
gathering_is_plain Adapt gathers = absurd gathers

-- a store that stands for a grid and a field can be shown, and its rows can be gathered
pub can_show : (k : Cuts) (parts : ℕ) (dir : Direction) (g : Spacetree) (f : States) (kind : Kind) (s : TreeLists) (meaning : Meaning) → IsGathering kind → StandsOn k parts dir g f s → meaning.serves ≡ Plain → meaning.dim ≡ k.dim → CanSweep (plain_plan k.depth (range_of k s.tree) dir g) s.tree f meaning kind s
can_show k parts dir g f kind s meaning gathers on serves dim = store_can_be_swept k.depth (range_of k s.tree) s.tree dir g f s meaning kind on.grid.deepest on.grid.grid on.stands (gathering_is_plain kind gathers) serves (dim ∙ sym on.grid.dim)

in_at : (xs : List Stored) (i : ℕ) (d : Stored) → i < length xs → IsIn (get_or xs i d) xs
in_at [] i d below = absurd (omega (arith, below))
in_at (x ∷ xs) zero d below = inl refl
in_at (x ∷ xs) (suc i) d below = inr (in_at xs i d (omega (arith, below)))

-- its vertices are some of the domain
pub vertices_of : (k : Cuts) (parts : ℕ) (dir : Direction) (g : Spacetree) (f : States) (s : TreeLists) → StandsOn k parts dir g f s → All (λ (r : Stored). IsVertexOf k r.key) s.lanes.input
vertices_of k parts dir g f s on i d below =
    let r : Stored = get_or s.lanes.input i d in
    let has = has_vertex k g s.tree s.tree dir s on.grid on.stands.lists on.tree r (in_at s.lanes.input i d below) in
    let inside : IsCell g.dim has.corner.cell = subst (λ d. IsCell d has.corner.cell) (sym on.grid.dim) has.corner.inside in
    record {
      vertex = has.vertex;
      level = subst (λ l. l ≤ k.depth) has.corner.touches.level (level_in k g has.corner.cell on.grid (has.stored has.corner.cell inside has.corner.touches));
    }

-- traffic by its numbers
pub same_traffic : (a b : Traffic) → a.tree ≡ b.tree → a.cells ≡ b.cells → a.stored ≡ b.stored → a.pushes ≡ b.pushes → a.hanging ≡ b.hanging → a.enclave ≡ b.enclave → a.skeleton ≡ b.skeleton → a.sent ≡ b.sent → a ≡ b
same_traffic a b tree cells stored pushes hanging enclave skeleton sent =
    ap (λ x. record a { tree = x }) tree
    ∙ (ap (λ x. record a { tree = b.tree; cells = x }) cells
    ∙ (ap (λ x. record a { tree = b.tree; cells = b.cells; stored = x }) stored
    ∙ (ap (λ x. record a { tree = b.tree; cells = b.cells; stored = b.stored; pushes = x }) pushes
    ∙ (ap (λ x. record a { tree = b.tree; cells = b.cells; stored = b.stored; pushes = b.pushes; hanging = x }) hanging
    ∙ (ap (λ x. record b { enclave = x; skeleton = a.skeleton; sent = a.sent }) enclave
    ∙ (ap (λ x. record b { skeleton = x; sent = a.sent }) skeleton
    ∙ ap (λ x. record b { sent = x }) sent))))))

module _ (start end : ShowWork) (dir : Direction) (g : Spacetree) (f : States) (parts step : ℕ) (kind : Kind) (s t : TreeLists) (note : Note) (task : CellKey → ℕ)
    (on : StandsOn (cuts_of start.keys) parts dir g f s) (same_tree : start.tree ≡ s.tree) (no_rows : start.rows ≡ []) (nothing : start.counts ≡ nothing_counted)
    (tree : IsSweptTree ShowEnters ShowLeaves (cuts_of start.keys) start.tree (plain_sweep (cuts_of start.keys) start.tree dir g f s.tree task) step kind s t start end note) where
  abbrev k : Cuts
  k = cuts_of start.keys

  abbrev p : TreeSweep
  p = plain_sweep k start.tree dir g f s.tree task

  -- no call changes a view
  stays : (call : Call) → IsAmong call tree.gives.calls → call.made ≡ call.given
  stays = each_call ShowEnters ShowLeaves (begun p s.lanes.input s.lanes.tale) (λ a. Unit {0}) (λ call. call.made ≡ call.given) (λ so_far call a b same fits stands. (tt, by call.visit call.given call.made a b stands)) [] tree.gives.calls start end tree.gives.fit tree.gives.chain tt
    where
      by : (visit : Visit) (v u : CellView) (a b : ShowWork) → Stands ShowEnters ShowLeaves visit v u a b → u ≡ v
      by (enter c) v u a b h = h.0
      by (leave c) v u a b h = h.0

  each_visit : EachVisitChanges (with_calls (begun p s.lanes.input s.lanes.tale) tree.gives.calls) (λ c x y. y ≡ x)
  each_visit c n a b low changed =
      let first : changed.between ≡ a = one_record (corner_at changed.entering.made n) a changed.between (ap (λ (v : CellView). corner_at v n) (stays changed.entering changed.entering_among) ∙ changed.given) changed.kept in
      let second : b ≡ changed.between = one_record (corner_at changed.leaving.made n) changed.between b (ap (λ (v : CellView). corner_at v n) (stays changed.leaving changed.leaving_among ∙ changed.same) ∙ changed.kept) changed.made in
      changes_none g.dim c (λ x y. y ≡ x) a b (second ∙ first) (λ x. refl)

  -- so the copies say what they said
  pub says_after : TreeSays k g start.tree (AtRest g (value_of g f)) (copies s.lanes.input) → TreeSays k g start.tree (AtRest g (value_of g f)) (copies t.lanes.input)
  says_after before v has =
      swept_says k v (AtRest g (value_of g f)) (AtRest g (value_of g f)) (λ c x y. y ≡ x) (copies s.lanes.input v) (copies t.lanes.input v) (before v has)
      (swept_less k _ (λ c x y. y ≡ x) v (copies s.lanes.input v) (copies t.lanes.input v) (if_held k start.tree (λ c x y. y ≡ x) (λ c x y. y ≡ x) (λ c a b h. h) (λ c a none. refl))
      (plain_swept ShowEnters ShowLeaves k start.tree p step kind s t start end note (λ c x y. y ≡ x) tree refl each_visit v has))
      (λ n c below at is same. subst (AtRest g (value_of g f) c) (sym same) is)

  -- what was gathered and counted in all calls
  shown : IsSoFar start g dir f s.tree task on.grid s.lanes.input s.lanes.tale tree.gives.calls tree.gives.visits_are tree.gives.fit tree.gives.calls end
  shown = all_shown start g dir f s.tree task on.grid s.lanes.input s.lanes.tale tree.gives.calls tree.gives.visits_are tree.gives.fit end no_rows nothing tree.gives.chain

  rows_found : AreFound row_home (IsRowOf k g f start.tree) (flat_map entered_at (visits_of p.plan)) end.rows
  rows_found = subst (λ vs. AreFound row_home (IsRowOf k g f start.tree) (flat_map entered_at vs) end.rows) tree.gives.visits_are shown.rows_are

  counted : AreCounts start g dir f s.tree task on.grid s.lanes.input s.lanes.tale tree.gives.calls tree.gives.visits_are tree.gives.fit (flat_map left_at (visits_of p.plan)) end.counts
  counted = subst (λ vs. AreCounts start g dir f s.tree task on.grid s.lanes.input s.lanes.tale tree.gives.calls tree.gives.visits_are tree.gives.fit (flat_map left_at vs) end.counts) tree.gives.visits_are shown.counted

  tree_below : start.tree < k.trees
  tree_below = subst (λ n. n < k.trees) (sym same_tree) on.tree

  pub rows_shown : ListsAll (IsRowOf k g f start.tree) end.rows
  rows_shown = all_found row_home (IsRowOf k g f start.tree) (IsRowOf k g f start.tree) (flat_map entered_at (visits_of p.plan)) end.rows rows_found (λ r. ((λ h. h.1), (λ h. (own_entered k start.tree dir g on.grid tree_below r.key h.owned, h))))

  -- leaves of one kind
  leaves_many : (P : CellKey → Type 0) (n : ℕ) → ((c : CellKey) → P c → OwnsLeaf k g start.tree c) → (counted : AreCounted itself P (flat_map left_at (visits_of p.plan)) n) → AreSoMany P (length counted.things)
  leaves_many P n owns counted = record {
    things = counted.things;
    lists = all_found itself P P (flat_map left_at (visits_of p.plan)) counted.things counted.found (λ c. ((λ h. h.1), (λ h. (own_left k start.tree dir g on.grid tree_below c (owns c h), h))));
    count = refl;
  }

  module _ (sent : ℕ) (pairs : Counts (IsPairOf k start.tree (taken_by (moves_of p.plan))) sent) where
    abbrev amounts : Amounts
    amounts = record {
      cells = length (flat_map left_at (visits_of p.plan));
      stored = length (put_by (moves_of p.plan));
      pushes = length (pushed_by (moves_of p.plan));
      hanging = length (flat_map (hanging_at g) (flat_map left_at (visits_of p.plan)));
      enclave = length counted.enclave.things;
      skeleton = length counted.skeleton.things;
      sent = pairs.many;
    }

    are_amounts : AreAmounts k g start.tree amounts
    are_amounts = record {
      cells = cells_many k start.tree dir g on.grid tree_below;
      stored = put_many k start.tree dir g on.grid tree_below;
      hanging = hanging_many k start.tree dir g on.grid tree_below;
      enclave = leaves_many (IsEnclave k g start.tree) end.counts.enclave (λ c h. h.0) counted.enclave;
      skeleton = leaves_many (IsSkeleton k g start.tree) end.counts.skeleton (λ c h. h.0) counted.skeleton;
      sent = sent_many k start.tree dir g on.grid tree_below pairs.many pairs.are;
      pushes = subst (λ d. amounts.pushes + amounts.hanging + amounts.stored ≡ amounts.cells * corners d) on.grid.dim (corners_add_up k.depth (range_of k start.tree) dir g);
    }

    abbrev told_by : ShowWork → Note → Traffic
    told_by x n = record { tree = start.tree; cells = x.counts.cells; stored = n.put; pushes = n.pushed; hanging = x.counts.hanging; enclave = x.counts.enclave; skeleton = x.counts.skeleton; sent = sent }

    pub traffic_told : IsTraffic k g start.tree (told_by end note)
    traffic_told = record {
      amounts = amounts;
      are = are_amounts;
      told = same_traffic (told_by end note) _ refl counted.cells_are (ap (λ (n : Note). n.put) tree.gives.note_is) (ap (λ (n : Note). n.pushed) tree.gives.note_is) counted.hanging counted.enclave.told counted.skeleton.told pairs.told;
    }
