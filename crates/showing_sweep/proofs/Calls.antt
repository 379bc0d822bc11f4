-- The calls of a showing sweep, one after another.
use Rattle.std.proofs.Common.{◌≡◌, ◌↔◌, ℕ, ◌+◌, ◌<◌, ◌≤◌, Bool, true, false, List, [], ◌∷◌, ◌++◌, Some, map, length, refl, ap, sym, ◌∙◌, subst, inl, inr, append-nil, length-append}
use Rattle.std.specs.Prelude.{flat_map, IsTrue, IsFalse}
use Rattle.std.proofs.lemmas.Grind.{flat_map-append}
use Rattle.stack_law.specs.Once.{IsIn}
use Rattle.stack_law.specs.Stack.{AreDistinct}
use Rattle.stack_law.proofs.Chains.{in_right}
use Rattle.peano_keys.specs.declared.cell.CellKey.{CellKey}
use Rattle.peano_keys.specs.declared.state.State.{State}
use Rattle.peano_keys.specs.Dim.{corners}
use Rattle.peano_keys.specs.Cell.{IsCell}
use Rattle.peano_keys.specs.Vertex.{IsVertex, corner_of}
use Rattle.peano_keys.specs.Grid.{Spacetree, has_cell}
use Rattle.peano_keys.specs.Field.{States, state_at}
use Rattle.peano_curve.specs.declared.order.Direction.{Direction}
use Rattle.peano_records.specs.declared.stored.Stored.{Stored}
use Rattle.peano_records.specs.declared.view.CellView.{CellView}
use Rattle.hanging_nodes.specs.Views.{Shows}
use Rattle.curve_cuts.specs.Cuts.{Cuts, IsCutGrid, Owns}
use Rattle.curve_cuts.specs.Keys.{cuts_of}
use Rattle.curve_cuts.specs.Enclave.{OwnsLeaf, IsEnclave, IsSkeleton}
use Rattle.spacetree.specs.declared.row.Row.{Row}
use Rattle.vertex_stacks.specs.declared.tale.Tale.{Tale}
use Rattle.vertex_stacks.specs.Tales.{capped}
use Rattle.sweep_visits.specs.Plan.{SweepPlan, IsSweepPlan}
use Rattle.sweep_visits.specs.Moves.{same_cell}
use Rattle.sweep_visits.specs.Visits.{Visit, enter, leave, visits_of}
use Rattle.sweep_visits.proofs.Ways.{corners_have_runs}
use Rattle.sweep_streams.specs.Records.{IsHeldCell, in_grids, entered_at, left_at}
use Rattle.sweep_streams.proofs.Records.{each_held_cell_once}
use Rattle.tree_automaton.specs.Sweep.{TreeSweep}
use Rattle.tree_automaton.specs.Story.{Call, Story, with_calls}
use Rattle.tree_automaton.specs.Sweeps.{AllCallsFit, CallFits, Chain, Stands, begun, visit_of}
use Rattle.tree_automaton.specs.Views.{ViewFits, value_at_home}
use Rattle.tree_automaton.proofs.Decided.{shows}
use Rattle.step_phases.proofs.Grids.{level_in}
use Rattle.step_values.proofs.Values.{value_shows_leaves}
use Rattle.swept_slots.proofs.Given.{along_places}
use Rattle.swept_slots.proofs.Visited.{enter_held}
use Rattle.step_sweeps.specs.Kernels.{IsOwnLeaf}
use Rattle.step_sweeps.proofs.Plain.{home_shows, leaf_seen, leaf_shown, there_in, view_fits}
use Rattle.step_sweeps.proofs.HalfwayViews.{plain_sweep, plain_is_plan}
use Rattle.step_sweeps.proofs.OwnCounts.{flat_at, not_before}
use Rattle.showing_sweep.specs.declared.counts.CellCounts.{CellCounts}
use Rattle.showing_sweep.specs.Shown.{IsRowOf}
use Rattle.showing_sweep.specs.Shows.{ShowWork, ShowEnters, ShowLeaves, hanging_in, row_in, nothing_counted, with_cell, with_leaf}
use Rattle.showing_sweep.proofs.Found.{AreFound, AreCounted, none_found, none_counted, found_more, counted_more, counted_none, found_none, one_here, capped_more}
use Rattle.showing_sweep.proofs.Hanging.{hanging_at, counts_hanging}

-- where things are found
abbrev pub row_home : Row → CellKey
row_home r = r.key

abbrev pub itself : CellKey → CellKey
itself c = c

same_row : (r : Row) (c : CellKey) (s : State) → r.key ≡ c → r.value ≡ s → r ≡ record { key = c; value = s }
same_row r c s e is = ap (λ q. record r { key = q }) e ∙ ap (λ v. record { key = c; value = v }) is

module _ (start : ShowWork) (g : Spacetree) (dir : Direction) (f : States) (number : ℕ) (task : CellKey → ℕ) (fits : IsCutGrid (cuts_of start.keys) g)
    (first : List Stored) (tale : Tale) (calls : List Call) (visits_are : map visit_of calls ≡ visits_of (plain_sweep (cuts_of start.keys) start.tree dir g f number task).plan)
    (fit : AllCallsFit (begun (plain_sweep (cuts_of start.keys) start.tree dir g f number task) first tale) calls) where
  abbrev k : Cuts
  k = cuts_of start.keys

  abbrev t : ℕ
  t = start.tree

  abbrev p : TreeSweep
  p = plain_sweep k t dir g f number task

  abbrev plan : SweepPlan
  plan = p.plan

  abbrev begins : Story
  begins = begun p first tale

  is_plan : IsSweepPlan plan
  is_plan = plain_is_plan k t dir g fits

  -- the cells that calls entered or left
  abbrev pub seen : (Visit → List CellKey) → List Call → List CellKey
  seen at so_far = flat_map at (map visit_of so_far)

  -- no call changes the keys or the tree of the visitor
  abbrev IsSame : ShowWork → Type 0
  IsSame a = a ≡ record start { rows = a.rows; counts = a.counts }

  same_with : (b : ShowWork) (rows : List Row) (n : CellCounts) → b ≡ record start { rows = rows; counts = n } → IsSame b
  same_with b rows n is = is ∙ ap (λ (x : ShowWork). record start { rows = x.rows; counts = x.counts }) (sym is)

  -- the rows of some cells
  abbrev pub AreRows : List CellKey → List Row → Type 0
  AreRows cells rows = AreFound row_home (IsRowOf k g f t) cells rows

  -- what was counted of some cells
  pub record AreCounts (cells : List CellKey) (n : CellCounts) : Type 0 where
    pub cells_are : n.cells ≡ capped (length cells)
    pub hanging : n.hanging ≡ capped (length (flat_map (hanging_at g) cells))
    pub enclave : AreCounted itself (IsEnclave k g t) cells n.enclave
    pub skeleton : AreCounted itself (IsSkeleton k g t) cells n.skeleton

  pub record IsSoFar (so_far : List Call) (a : ShowWork) : Type 0 where
    pub same : IsSame a
    pub rows_are : AreRows (seen entered_at so_far) a.rows
    pub counted : AreCounts (seen left_at so_far) a.counts

  -- a cell that is entered and left
  module _ (c : CellKey) (v : CellView) (view : ViewFits p c v) (held : IsHeldCell plan (in_grids plan) c) where
    there : has_cell g c ≡ true
    there = there_in (Some g) g c refl held.passes

    key : v.key ≡ c
    key = view.view.key

    vertex : (i : ℕ) → i < corners g.dim → IsVertex g.dim (corner_of c i)
    vertex i below = (corners_have_runs plan c i held.cell held.held below).0

    owned_leaf : IsOwnLeaf k t v → OwnsLeaf k g t c
    owned_leaf own = record { cell = subst (λ d. IsCell d c) fits.dim held.cell; leaf = leaf_shown p refl refl c v view own.leaf; owns = subst (Owns k t) key own.owns }

    own_leaf : OwnsLeaf k g t c → IsOwnLeaf k t v
    own_leaf owned = record { leaf = leaf_seen p refl refl c v view owned.leaf; level = subst (λ (q : CellKey). q.level ≤ k.depth) (sym key) (level_in k g c fits there); owns = subst (Owns k t) (sym key) owned.owns }

    -- the row of a leaf that is owned
    row_here : OwnsLeaf k g t c → AreFound row_home (IsRowOf k g f t) (c ∷ []) (row_in k.dim v ∷ [])
    row_here owned =
        let shown : value_at_home k.dim v ≡ state_at f c = subst (λ d. value_at_home d v ≡ state_at f c) fits.dim (home_shows p refl refl c v view held.cell there ∙ value_shows_leaves g f c owned.leaf) in
        subst (λ r. AreFound row_home (IsRowOf k g f t) (c ∷ []) (r ∷ [])) (sym (same_row (row_in k.dim v) c (state_at f c) key shown))
        (one_here row_home (IsRowOf k g f t) c (record { key = c; value = state_at f c }) refl (record { owned = owned; value = refl })
        (λ y e of. same_row y c (state_at f c) e (of.value ∙ ap (state_at f) e)))

    -- the rows with those of one cell more
    rows_more : (cells : List CellKey) (rows : List Row) (n : CellCounts) → (IsIn c cells → ⊥) → AreRows cells rows → (u : CellView) (b : ShowWork) → ShowEnters (record start { rows = rows; counts = n }) v u b → IsSame b × AreRows (cells ++ c ∷ []) b.rows × (b.counts ≡ n)
    rows_more cells rows n new so_far u b (_, inl h) = (
      same_with b (rows ++ row_in k.dim v ∷ []) n h.gathered,
      subst (λ (x : ShowWork). AreRows (cells ++ c ∷ []) x.rows) (sym h.gathered) (found_more row_home (IsRowOf k g f t) cells c rows (row_in k.dim v ∷ []) new so_far (row_here (owned_leaf h.own))),
      ap (λ (x : ShowWork). x.counts) h.gathered,
    )
    rows_more cells rows n new so_far u b (_, inr h) = (
      same_with b rows n h.same,
      subst (λ (x : ShowWork). AreRows (cells ++ c ∷ []) x.rows) (sym h.same) (found_none row_home (IsRowOf k g f t) cells c rows new so_far (λ r e of. h.other (own_leaf (subst (OwnsLeaf k g t) e of.owned)))),
      ap (λ (x : ShowWork). x.counts) h.same,
    )

    module _ (cells : List CellKey) (new : IsIn c cells → ⊥) (rows : List Row) (n : CellCounts) (so_far : AreCounts cells n) where
      cells_more : capped (n.cells + 1) ≡ capped (length (cells ++ c ∷ []))
      cells_more = ap (λ i. capped (i + 1)) so_far.cells_are ∙ (capped_more (length cells) 1 ∙ ap capped (sym (length-append cells (c ∷ []))))

      abbrev hanging_cells : List CellKey → ℕ
      hanging_cells cs = length (flat_map (hanging_at g) cs)

      listed_more : hanging_cells (cells ++ c ∷ []) ≡ hanging_cells cells + length (hanging_at g c)
      listed_more = ap length (flat_map-append (hanging_at g) cells (c ∷ [])) ∙ (length-append (flat_map (hanging_at g) cells) (hanging_at g c ++ []) ∙ ap (λ l. hanging_cells cells + length l) (append-nil (hanging_at g c)))

      hanging_more : capped (n.hanging + hanging_in v) ≡ capped (hanging_cells (cells ++ c ∷ []))
      hanging_more =
          ap (λ i. capped (i + hanging_in v)) so_far.hanging
          ∙ (ap (λ i. capped (capped (hanging_cells cells) + i)) (counts_hanging p refl refl c v view vertex)
          ∙ (capped_more (hanging_cells cells) (length (hanging_at g c)) ∙ ap capped (sym listed_more)))

      -- a kind of leaf that is counted, and one that is not
      leaf_counted : (P : CellKey → Type 0) (m : ℕ) → P c → AreCounted itself P cells m → AreCounted itself P (cells ++ c ∷ []) (capped (m + 1))
      leaf_counted P m is counted = counted_more itself P cells c (c ∷ []) m (capped (m + 1)) new counted (one_here itself P c c refl is (λ y e h. e)) refl

      leaf_passed : (P : CellKey → Type 0) (m : ℕ) → (P c → ⊥) → AreCounted itself P cells m → AreCounted itself P (cells ++ c ∷ []) m
      leaf_passed P m none counted = counted_none itself P cells c m m new counted (λ x e h. none (subst P e h)) refl

      own_more : OwnsLeaf k g t c → (e : Bool) → (IsTrue e ↔ IsEnclave k g t c) → (IsFalse e ↔ IsSkeleton k g t c) → AreCounts (cells ++ c ∷ []) (with_leaf e (with_cell v n))
      own_more owned true enclave skeleton = record {
        cells_are = cells_more;
        hanging = hanging_more;
        enclave = leaf_counted (IsEnclave k g t) n.enclave (enclave.0 refl) so_far.enclave;
        skeleton = leaf_passed (IsSkeleton k g t) n.skeleton (λ s. (enclave.0 refl).1 s.1) so_far.skeleton;
      }
      own_more owned false enclave skeleton = record {
        cells_are = cells_more;
        hanging = hanging_more;
        enclave = leaf_passed (IsEnclave k g t) n.enclave (λ e. e.1 (skeleton.0 refl).1) so_far.enclave;
        skeleton = leaf_counted (IsSkeleton k g t) n.skeleton (skeleton.0 refl) so_far.skeleton;
      }

      other_more : (OwnsLeaf k g t c → ⊥) → AreCounts (cells ++ c ∷ []) (with_cell v n)
      other_more none = record {
        cells_are = cells_more;
        hanging = hanging_more;
        enclave = leaf_passed (IsEnclave k g t) n.enclave (λ e. none e.0) so_far.enclave;
        skeleton = leaf_passed (IsSkeleton k g t) n.skeleton (λ s. none s.0) so_far.skeleton;
      }

      pub shown_more : (u : CellView) (b : ShowWork) → ShowLeaves (record start { rows = rows; counts = n }) v u b → IsSame b × AreCounts (cells ++ c ∷ []) b.counts × (b.rows ≡ rows)
      shown_more u b (_, inl h) =
          let owned = owned_leaf h.own in
          let told : Shows k.dim (Some g) g false v = subst (λ d. Shows d (Some g) g false v) fits.dim (shows p c v view) in
          let by_key : OwnsLeaf k g t v.key = subst (OwnsLeaf k g t) (sym key) owned in
          let enclave : IsTrue h.enclave ↔ IsEnclave k g t c = subst (λ q. IsTrue h.enclave ↔ IsEnclave k g t q) key (h.decides.enclave g fits.dim told by_key) in
          let skeleton : IsFalse h.enclave ↔ IsSkeleton k g t c = subst (λ q. IsFalse h.enclave ↔ IsSkeleton k g t q) key (h.decides.skeleton g fits.dim told by_key) in (
            same_with b rows (with_leaf h.enclave (with_cell v n)) h.counted,
            subst (λ (x : ShowWork). AreCounts (cells ++ c ∷ []) x.counts) (sym h.counted) (own_more owned h.enclave enclave skeleton),
            ap (λ (x : ShowWork). x.rows) h.counted,
          )
      shown_more u b (_, inr h) = (
        same_with b rows (with_cell v n) h.counted,
        subst (λ (x : ShowWork). AreCounts (cells ++ c ∷ []) x.counts) (sym h.counted) (other_more (λ owned. h.other (own_leaf owned))),
        ap (λ (x : ShowWork). x.rows) h.counted,
      )

  -- a cell is not seen twice
  not_seen : (at : Visit → List CellKey) (so_far : List Call) (call : Call) (after : List Call) (c : CellKey) → AreDistinct same_cell (flat_map at (visits_of plan)) → calls ≡ so_far ++ call ∷ after → at call.visit ≡ c ∷ [] → IsIn c (seen at so_far) → ⊥
  not_seen at so_far call after c distinct place gives = not_before (seen at so_far) (seen at after) c
      (subst (AreDistinct same_cell) (ap (flat_map at) (sym visits_are) ∙ (ap (λ l. flat_map at (map visit_of l)) place ∙ (flat_at at so_far call call.visit after refl ∙ ap (λ l. seen at so_far ++ (l ++ seen at after)) gives))) distinct)

  -- one call more
  step_at : (so_far : List Call) (call : Call) (after : List Call) (a b : ShowWork) (visit : Visit) → call.visit ≡ visit → calls ≡ so_far ++ call ∷ after → IsSoFar so_far a → CallFits (with_calls begins so_far) visit call.given call.made → Stands ShowEnters ShowLeaves visit call.given call.made a b → IsSoFar (so_far ++ call ∷ []) b
  step_at so_far call after a b (enter c) is place holds entered stands =
      let held : IsHeldCell plan (in_grids plan) c = enter_held p is_plan first tale calls visits_are fit c call (record { before = so_far; after = after; place = place }) is in
      let new : IsIn c (seen entered_at so_far) → ⊥ = not_seen entered_at so_far call after c (each_held_cell_once plan is_plan).0.distinct place (ap entered_at is) in
      let more = rows_more c call.given (view_fits p refl refl c call.given entered.view) held (seen entered_at so_far) a.rows a.counts new holds.rows_are call.made b (subst (λ x. ShowEnters x call.given call.made b) holds.same stands) in
      let left : seen left_at (so_far ++ call ∷ []) ≡ seen left_at so_far = flat_at left_at so_far call (enter c) [] is ∙ append-nil (seen left_at so_far) in
      record {
        same = more.0;
        rows_are = subst (λ cs. AreRows cs b.rows) (sym (flat_at entered_at so_far call (enter c) [] is)) more.1;
        counted = subst (λ cs. AreCounts cs b.counts) (sym left) (subst (AreCounts (seen left_at so_far)) (sym more.2) holds.counted);
      }
  step_at so_far call after a b (leave c) is place holds gone stands =
      let lists = (each_held_cell_once plan is_plan).1 in
      let all : flat_map left_at (visits_of plan) ≡ seen left_at so_far ++ c ∷ seen left_at after = ap (flat_map left_at) (sym visits_are) ∙ (ap (λ l. flat_map left_at (map visit_of l)) place ∙ flat_at left_at so_far call (leave c) after is) in
      let held : IsHeldCell plan (in_grids plan) c = (lists.members c).0 (subst (IsIn c) (sym all) (in_right (λ z. 0) c (seen left_at so_far) (c ∷ seen left_at after) (inl refl))) in
      let new : IsIn c (seen left_at so_far) → ⊥ = not_seen left_at so_far call after c lists.distinct place (ap left_at is) in
      let more = shown_more c call.given gone.view held (seen left_at so_far) new a.rows a.counts holds.counted call.made b (subst (λ x. ShowLeaves x call.given call.made b) holds.same stands) in
      let entered : seen entered_at (so_far ++ call ∷ []) ≡ seen entered_at so_far = flat_at entered_at so_far call (leave c) [] is ∙ append-nil (seen entered_at so_far) in
      record {
        same = more.0;
        rows_are = subst (λ cs. AreRows cs b.rows) (sym entered) (subst (AreRows (seen entered_at so_far)) (sym more.2) holds.rows_are);
        counted = subst (λ cs. AreCounts cs b.counts) (sym (flat_at left_at so_far call (leave c) [] is)) more.1;
      }

  -- so it is after all calls
  pub all_shown : (end : ShowWork) → start.rows ≡ [] → start.counts ≡ nothing_counted → Chain ShowEnters ShowLeaves calls start end → IsSoFar calls end
  all_shown end no_rows nothing chain = along_places ShowEnters ShowLeaves begins calls IsSoFar
      (λ so_far call after a b place holds fitting stands. step_at so_far call after a b call.visit refl place holds fitting stands)
      [] calls start end refl fit chain
      (record {
        same = refl;
        rows_are = subst (AreRows []) (sym no_rows) (none_found row_home (IsRowOf k g f t));
        counted = record {
          cells_are = ap (λ (n : CellCounts). n.cells) nothing;
          hanging = ap (λ (n : CellCounts). n.hanging) nothing;
          enclave = none_counted itself (IsEnclave k g t) start.counts.enclave (ap (λ (n : CellCounts). n.enclave) nothing);
          skeleton = none_counted itself (IsSkeleton k g t) start.counts.skeleton (ap (λ (n : CellCounts). n.skeleton) nothing);
        };
      })
