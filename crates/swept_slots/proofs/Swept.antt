-- What a sweep made of the copies of a tree.
use Rattle.std.proofs.Common.{◌≡◌, ℕ, Bool, true, false, List, [], ◌∷◌, Option, Some, None, map, refl, ap₂, sym, ◌∙◌, subst, inl, inr, ⊎_elim, ◌⊎◌}
use Rattle.std.specs.Prelude.{reverse}
use Rattle.std.proofs.lemmas.Bool.{false≢true}
use Rattle.std.proofs.lemmas.List.{reverse-reverse}
use Rattle.std.specs.FinSet as set
use Rattle.stack_law.specs.Once.{IsIn}
use Rattle.stack_law.specs.Stack.{AreDistinct}
use Rattle.stack_walks.proofs.Reversed.{in_reverse, distinct_reverse}
use Rattle.peano_keys.specs.declared.cell.CellKey.{CellKey}
use Rattle.peano_keys.specs.declared.dim.Dim.{Dim}
use Rattle.peano_keys.specs.declared.vertex.VertexKey.{VertexKey}
use Rattle.peano_keys.specs.Vertex.{IsVertex}
use Rattle.peano_keys.specs.Grid.{Spacetree}
use Rattle.peano_records.specs.declared.slot.Slot.{Slot}
use Rattle.peano_records.specs.declared.stored.Stored.{Stored}
use Rattle.peano_records.specs.declared.view.CellView.{CellView}
use Rattle.peano_records.specs.Slots.{VertexRecord, slot_at}
use Rattle.peano_curve.specs.declared.order.Direction.TheVariants.{Forward}
use Rattle.peano_curve.specs.Run.{HoldsCell}
use Rattle.hanging_nodes.specs.Views.{IsStoredBefore}
use Rattle.curve_cuts.specs.Cuts.{Cuts, Held, HasVertex, range_of}
use Rattle.vertex_stacks.specs.declared.kind.Kind.{Kind}
use Rattle.vertex_stacks.specs.Notes.{Note}
use Rattle.sweep_visits.specs.Plan.{SweepPlan, IsSweepPlan, IsOldGrid, dim_of, is_held, is_stored, is_stored_in}
use Rattle.sweep_visits.specs.Moves.{same_vertex, moves_of, put_by}
use Rattle.sweep_visits.proofs.Same.{vertices_decided}
use Rattle.sweep_visits.proofs.Tests.{held_tells, held_told, stored_tells, stored_told}
use Rattle.sweep_streams.proofs.Once.{none_taken_twice}
use Rattle.sweep_streams.proofs.Pushes.{streams_are_stored}
use Rattle.tree_automaton.specs.TreeLists.{TreeLists}
use Rattle.tree_automaton.specs.Sweep.{TreeSweep}
use Rattle.tree_automaton.specs.Story.{Story, IsOfOutput, Matched, with_calls}
use Rattle.tree_automaton.specs.Sweeps.{begun, key_of}
use Rattle.tree_automaton.proofs.Decided.{sweep_plan}
use Rattle.tree_automaton.proofs.Lists.{map-reverse, matched_keys}
use Rattle.step_phases.specs.Sweeps.{IsSwept, IsSweptRecord}
use Rattle.swept_slots.specs.Copies.{copies}
use Rattle.swept_slots.specs.Changes.{EachVisitChanges, IfHeld, IsSweptVertex}
use Rattle.swept_slots.specs.Laws.{HeldCellsChange, PlainCellsChange, IsSweptTree}
use Rattle.swept_slots.proofs.Copies.{copy_of}
use Rattle.swept_slots.proofs.Runs.{IsDone, is_done}

-- lists that match have a partner for each item
matched_at : {K A : Type 0} (R : K → A → Type 0) (ks : List K) (xs : List A) → Matched R ks xs → (k : K) → IsIn k ks → (x : A) × IsIn x xs × R k x
matched_at R (k ∷ ks) (x ∷ xs) m j (inl e) = (x, inl refl, subst (λ y. R y x) (sym e) m.0)
matched_at R (k ∷ ks) (x ∷ xs) m j (inr h) = let rest = matched_at R ks xs m.1 j h in (rest.0, inr rest.1, rest.2)
matched_at R (k ∷ ks) [] m j h = absurd m
matched_at R [] xs m j h = absurd h

-- the test of vertices that the old grid stores is exact
before_told : (depth : ℕ) (dim : Dim) (old : Option Spacetree) (v : VertexKey) → IsOldGrid depth dim old → IsVertex dim v → IsStoredBefore old v → is_stored_in old v ≡ true
before_told depth dim None v is vertex h = absurd h
before_told depth dim (Some g) v is vertex h = stored_told g v (subst (λ d. IsVertex d v) (sym is.1) vertex) h

before_denied : (old : Option Spacetree) (v : VertexKey) → ¬ IsStoredBefore old v → is_stored_in old v ≡ false
before_denied None v none = refl
before_denied (Some g) v none = by (is_stored g v) refl
  where
    by : (b : Bool) → is_stored g v ≡ b → b ≡ false
    by false e = refl
    by true e = absurd (none (stored_tells g v e))

module _ {A : Type 0} (entered left : A → CellView → CellView → A → Type 0) (k : Cuts) (t : ℕ) (p : TreeSweep) (step : ℕ) (kind : Kind) (before after : TreeLists) (x y : A) (note : Note) (E : CellKey → Slot → Slot → Type 0)
    (tree : IsSweptTree entered left k t p step kind before after x y note)
    (each : EachVisitChanges (with_calls (begun p before.lanes.input before.lanes.tale) tree.gives.calls) E) where
  abbrev plan : SweepPlan
  plan = p.plan

  is_plan : IsSweepPlan plan
  is_plan = sweep_plan p tree.sweep

  -- the cuts, in the words of the plan
  abbrev as_cuts : Cuts
  as_cuts = record { dim = dim_of plan; depth = plan.depth; trees = k.trees; start = k.start }

  same_cuts : as_cuts ≡ k
  same_cuts = ap₂ (λ (d : Dim) (n : ℕ). record { dim = d; depth = n; trees = k.trees; start = k.start }) tree.tree.dim tree.tree.depth

  abbrev Done : VertexKey → Stored → Type 0
  Done w s = IsDone p is_plan before.lanes.input before.lanes.tale tree.gives.calls tree.gives.visits_are tree.gives.fit E each w s

  -- a vertex of the output, as a record after a sweep
  swept_record : (w : VertexKey) (s : Stored) (done : Done w s) → IsSweptRecord as_cuts (IfHeld as_cuts t E) w done.first s
  swept_record w s done = record {
    key = done.key ∙ sym done.begins.key;
    size = done.size;
    inside = λ n c below at. record {
      held = λ h. done.changed n c below at (subst (λ r. HoldsCell (dim_of plan) plan.depth r c) (sym tree.tree.range) h);
      away = λ none. done.away n c below at (λ h. none (subst (λ r. HoldsCell (dim_of plan) plan.depth r c) tree.tree.range h));
    };
    outside = done.outside;
    unused = done.unused;
  }

  input_distinct : AreDistinct same_vertex (map key_of before.lanes.input)
  input_distinct = subst (AreDistinct same_vertex) (sym tree.keys) (none_taken_twice plan is_plan).0

  abbrev told : Story
  told = with_calls (begun p before.lanes.input before.lanes.tale) tree.gives.calls

  output_distinct : AreDistinct same_vertex (map key_of after.lanes.input)
  output_distinct =
      let keys : map key_of (reverse after.lanes.input) ≡ put_by (moves_of plan) = matched_keys key_of (IsOfOutput told) (λ w s i. i.key) (put_by (moves_of plan)) (reverse after.lanes.input) tree.gives.input in
      let turned : AreDistinct same_vertex (reverse (map key_of after.lanes.input)) = subst (AreDistinct same_vertex) (sym keys ∙ map-reverse key_of after.lanes.input) (none_taken_twice plan is_plan).1 in
      subst (AreDistinct same_vertex) (reverse-reverse (map key_of after.lanes.input)) (distinct_reverse same_vertex vertices_decided (reverse (map key_of after.lanes.input)) turned)

  -- a vertex of the tree that the new grid stores is put
  is_put : (w : VertexKey) → HasVertex as_cuts plan.new t w → IsIn w (put_by (moves_of plan))
  is_put w has = ((streams_are_stored plan is_plan).1.members w).1 (record {
    vertex = has.vertex;
    passes = stored_told plan.new w has.vertex has.stored;
    held = (has.corner.cell, record { cell = has.corner.inside; touches = has.corner.touches; held = subst (λ r. HoldsCell (dim_of plan) plan.depth r has.corner.cell) (sym tree.tree.range) has.corner.held });
  })

  swept_here : (w : VertexKey) → HasVertex as_cuts plan.new t w → IsSweptVertex as_cuts plan (IfHeld as_cuts t E) before.lanes.input after.lanes.input w
  swept_here w has =
      let found = matched_at (IsOfOutput told) (put_by (moves_of plan)) (reverse after.lanes.input) tree.gives.input w (is_put w has) in
      let s : Stored = found.0 in
      let done : Done w s = is_done p is_plan before.lanes.input before.lanes.tale tree.gives.calls tree.gives.visits_are tree.gives.fit E each w s found.2.left in
      let last : copies after.lanes.input w ≡ s = copy_of after.lanes.input output_distinct w s found.2.key (in_reverse s after.lanes.input found.1) in
      let swept = subst (IsSweptRecord as_cuts (IfHeld as_cuts t E) w done.first) (sym last) (swept_record w s done) in
      record {
        kept = λ old. subst (λ r. IsSweptRecord as_cuts (IfHeld as_cuts t E) w r (copies after.lanes.input w)) (sym (copy_of before.lanes.input input_distinct w done.first done.begins.key (done.begins.kept (before_told plan.depth (dim_of plan) plan.old w is_plan.old has.vertex old)))) swept;
        made = λ new. subst (λ r. IsSweptRecord as_cuts (IfHeld as_cuts t E) w r (copies after.lanes.input w)) (done.begins.made (before_denied plan.old w new)) swept;
      }

  -- A sweep of which each visit of a cell changes the slots of that cell alone changes so, once, the slots of each cell that the tree holds, and no other slot.
  pub swept_vertices : (w : VertexKey) → HasVertex k plan.new t w → IsSweptVertex k plan (IfHeld k t E) before.lanes.input after.lanes.input w
  swept_vertices w = subst (λ c. HasVertex c plan.new t w → IsSweptVertex c plan (IfHeld c t E) before.lanes.input after.lanes.input w) same_cuts (swept_here w)

-- a record after a sweep, where less is asked of the slots
pub swept_less : (k : Cuts) (E F : CellKey → Slot → Slot → Type 0) (v : VertexKey) (s u : VertexRecord) → ((c : CellKey) (a b : Slot) → E c a b → F c a b) → IsSweptRecord k E v s u → IsSweptRecord k F v s u
swept_less k E F v s u less swept = record { key = swept.key; size = swept.size; inside = λ n c below at. less c (slot_at s n) (slot_at u n) (swept.inside n c below at); outside = swept.outside; unused = swept.unused }

-- a sweep that changes no grid
pub plain_swept : {A : Type 0} (entered left : A → CellView → CellView → A → Type 0) (k : Cuts) (t : ℕ) (p : TreeSweep) (step : ℕ) (kind : Kind) (before after : TreeLists) (x y : A) (note : Note) (E : CellKey → Slot → Slot → Type 0)
    (tree : IsSweptTree entered left k t p step kind before after x y note) → p.plan.old ≡ Some p.plan.new →
    EachVisitChanges (with_calls (begun p before.lanes.input before.lanes.tale) tree.gives.calls) E →
    IsSwept k p.plan.new t (IfHeld k t E) (copies before.lanes.input) (copies after.lanes.input)
plain_swept entered left k t p step kind before after x y note E tree one each v has = (swept_vertices entered left k t p step kind before after x y note E tree each v has).kept (subst (λ o. IsStoredBefore o v) (sym one) has.stored)

pub plain_cells_change : {A : Type 0} (entered left : A → CellView → CellView → A → Type 0) → PlainCellsChange entered left
plain_cells_change entered left k t p step kind before after x y note test tree one each = plain_swept entered left k t p step kind before after x y note (λ c s u. test c s u ≡ true) tree one each

pub held_cells_change : {A : Type 0} (entered left : A → CellView → CellView → A → Type 0) → HeldCellsChange entered left
held_cells_change entered left k t p step kind before after x y note test tree each = swept_vertices entered left k t p step kind before after x y note (λ c s u. test c s u ≡ true) tree each

-- a tree holds a cell or does not
pub held_or_not : (k : Cuts) (t : ℕ) (c : CellKey) → Held k t c ⊎ ¬ Held k t c
held_or_not k t c = by (is_held plan c) refl
  where
    plan : SweepPlan
    plan = record { depth = k.depth; range = range_of k t; dir = Forward; old = None; new = record { dim = k.dim; refined = set.empty } }

    by : (b : Bool) → is_held plan c ≡ b → Held k t c ⊎ ¬ Held k t c
    by true e = inl (held_tells plan c e)
    by false e = inr (λ h. false≢true (sym e ∙ held_told plan c h))

-- what is so of the cells that a tree holds as they are changed, and of any other as it stays, is so of each
pub if_held : (k : Cuts) (t : ℕ) (E F : CellKey → Slot → Slot → Type 0) → ((c : CellKey) (a b : Slot) → E c a b → F c a b) → ((c : CellKey) (a : Slot) → ¬ Held k t c → F c a a) → (c : CellKey) (a b : Slot) → IfHeld k t E c a b → F c a b
if_held k t E F changed away c a b h = ⊎_elim (λ held. changed c a b (h.held held)) (λ none. subst (F c a) (sym (h.away none)) (away c a none)) (held_or_not k t c)
