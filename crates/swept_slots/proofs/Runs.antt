-- What is left along the run of a vertex.
use Rattle.std.proofs.Common.{◌≡◌, ◌≢◌, ◌⊎◌, ℕ, ◌<◌, ◌≤◌, List, Option, Some, None, map, length, ap, sym, ◌∙◌, subst, inl, inr, ⊎_elim, arith}
use Rattle.std.specs.Prelude.{IfSome, MatchOption}
use Rattle.std.proofs.lemmas.Bool.{cases_lt}
use Rattle.peano_keys.specs.declared.cell.CellKey.{CellKey}
use Rattle.peano_keys.specs.declared.vertex.VertexKey.{VertexKey}
use Rattle.peano_keys.specs.declared.dim.Dim.{Dim}
use Rattle.peano_keys.specs.Dim.{corners}
use Rattle.peano_keys.specs.Cell.{IsCell}
use Rattle.peano_keys.specs.Vertex.{IsVertex, Touches, adjacent_of, corner_of}
use Rattle.peano_keys.proofs.Positions.{adjacent_touches}
use Rattle.peano_records.specs.declared.slot.Slot.{Slot}
use Rattle.peano_records.specs.declared.stored.Stored.{Stored}
use Rattle.peano_records.specs.Slots.{slot_at}
use Rattle.peano_records.proofs.Intents.{below_eight}
use Rattle.peano_curve.specs.declared.order.Direction.{Direction}
use Rattle.peano_curve.specs.declared.order.Direction.TheVariants.{Forward, Backward}
use Rattle.peano_curve.specs.Order.{rank_of}
use Rattle.peano_curve.specs.Run.{Later, CellLater, HoldsCell, InRun, Follows, IsFirst, IsLast}
use Rattle.peano_curve.proofs.Gray.{ranks_tell_apart}
use Rattle.vertex_stacks.specs.declared.tale.Tale.{Tale}
use Rattle.sweep_visits.specs.Plan.{IsSweepPlan, dim_of}
use Rattle.sweep_visits.specs.Visits.{visits_of}
use Rattle.sweep_visits.specs.Runs.{next_in_run, previous_in_run}
use Rattle.sweep_visits.proofs.Next.{next_is_of_the_run}
use Rattle.tree_automaton.specs.Sweep.{TreeSweep}
use Rattle.tree_automaton.specs.Story.{Call, Story, WasLeft}
use Rattle.tree_automaton.specs.Sweeps.{AllCallsFit, begun, visit_of}
use Rattle.tree_automaton.specs.Journeys.{CellChanged, IsFirstRecord}
use Rattle.tree_automaton.proofs.Journeys.{along_run}
use Rattle.swept_slots.specs.Changes.{ChangesOneCell, EachVisitChanges}
use Rattle.swept_slots.proofs.Visited.{Begins, told, in_run, key_is, key_kept, size_kept, begins}

-- numbers along a direction
never_itself : (dir : Direction) (a : ℕ) → Later dir a a → ⊥
never_itself Forward a h = absurd (omega arith)
never_itself Backward a h = absurd (omega arith)

in_turn : (dir : Direction) (a b c : ℕ) → Later dir a b → Later dir b c → Later dir a c
in_turn Forward a b c h l = omega arith
in_turn Backward a b c h l = omega arith

pub compared : (dir : Direction) (a b : ℕ) → Later dir a b ⊎ (Later dir b a ⊎ (a ≡ b))
compared Forward a b = ⊎_elim (λ h. inl h) (λ h. ⊎_elim (λ l. inr (inl l)) (λ l. inr (inr (omega arith))) (cases_lt b a)) (cases_lt a b)
compared Backward a b = ⊎_elim (λ h. inr (inl h)) (λ h. ⊎_elim (λ l. inl l) (λ l. inr (inr (omega arith))) (cases_lt b a)) (cases_lt a b)

some_one : {A : Type 0} (o : Option A) (a b : A) → o ≡ Some a → o ≡ Some b → a ≡ b
some_one o a b h l = ap (λ (x : Option _). elim x as (λ _. _) [ Some y ↦ y | None ↦ a ]) (sym h ∙ l)

-- where the run goes on, or ends
follows_told : (o : Option CellKey) (q : CellKey) (N : Type 0) (F : CellKey → Type 0) → MatchOption o N F → o ≡ Some q → F q
follows_told o q N F h e = subst (λ x. MatchOption x N F) e h

ends_told : (o : Option CellKey) (N : Type 0) (F : CellKey → Type 0) → MatchOption o N F → o ≡ None → N
ends_told o N F h e = subst (λ x. MatchOption x N F) e h

module _ (p : TreeSweep) (is_plan : IsSweepPlan p.plan) (start : List Stored) (tale : Tale) (calls : List Call) (visits_are : map visit_of calls ≡ visits_of p.plan) (fit : AllCallsFit (begun p start tale) calls) (E : CellKey → Slot → Slot → Type 0)
    (each : EachVisitChanges (told p is_plan start tale calls visits_are fit) E) (w : VertexKey) where
  abbrev m : Story
  m = told p is_plan start tale calls visits_are fit

  abbrev dim : Dim
  dim = dim_of p.plan

  abbrev held : CellKey → Type 0
  held q = HoldsCell dim p.plan.depth p.plan.range q

  abbrev comes : CellKey → CellKey → Type 0
  comes a b = CellLater p.plan.dir dim a b

  -- a slot is of a held cell of the run that is not later than one
  pub record IsPassed (c : CellKey) (n : ℕ) : Type 0 where
    pub cell : CellKey
    pub below : n < corners dim
    pub at : adjacent_of dim w n ≡ Some cell
    pub is_held : held cell
    pub not_later : ¬ comes c cell

  -- after a cell of the run: the cells so far changed their slots, and all other slots are as the vertex began
  pub record IsAfter (c : CellKey) (t : Stored) : Type 0 where
    pub first : Stored
    pub vertex : IsVertex dim w
    pub here : InRun dim w p.plan.range p.plan.depth c
    pub begins : Begins p start w first
    pub key : t.key ≡ w
    pub size : length t.slots ≡ length first.slots
    pub changed : (n : ℕ) (q : CellKey) → n < corners dim → adjacent_of dim w n ≡ Some q → held q → ¬ comes c q → E q (slot_at first n) (slot_at t n)
    pub stays : (n : ℕ) → n < 8 → ¬ IsPassed c n → slot_at t n ≡ slot_at first n

  -- a held cell at a position is of the run
  run_at : IsVertex dim w → (k : ℕ) (q : CellKey) → adjacent_of dim w k ≡ Some q → held q → InRun dim w p.plan.range p.plan.depth q
  run_at vertex k q at is =
      let near : IsCell dim q × Touches q w = subst (λ o. IfSome o (λ x. IsCell dim x × Touches x w)) at (adjacent_touches dim w k vertex) in
      record { cell = near.0; touches = near.1; held = is }

  module _ (c : CellKey) (n : ℕ) (s t : Stored) (low : n < corners dim) (corner : corner_of c n ≡ w) (visit : CellChanged m c n s t) where
    here : IsVertex dim w × InRun dim w p.plan.range p.plan.depth c
    here = subst (λ v. IsVertex dim v × InRun dim v p.plan.range p.plan.depth c) corner (in_run p is_plan start tale calls visits_are fit c n s t low visit)

    was_key : s.key ≡ w
    was_key = key_is p is_plan start tale calls visits_are fit c n s t low visit ∙ corner

    did : ChangesOneCell dim c (E c) s t
    did = each c n s t low visit

    of_run : (k : ℕ) (q : CellKey) → k < corners dim → adjacent_of dim w k ≡ Some q → held q → InRun dim w p.plan.range p.plan.depth q
    of_run k q below at is = run_at here.0 k q at is

    same_cell : (q : CellKey) → InRun dim w p.plan.range p.plan.depth q → rank_of dim c ≡ rank_of dim q → c ≡ q
    same_cell q run e = ranks_tell_apart dim c q here.1.cell run.cell (here.1.touches.level ∙ sym run.touches.level) e

    own_slot : (k : ℕ) (q : CellKey) → k < corners dim → adjacent_of dim w k ≡ Some q → c ≡ q → E q (slot_at s k) (slot_at t k)
    own_slot k q below at e = subst (λ x. E x (slot_at s k) (slot_at t k)) e (did.own k below (subst (λ v. adjacent_of dim v k ≡ Some c) (sym was_key) (at ∙ ap Some (sym e))))

    -- every slot but the cell's own stays
    other_slot : (k : ℕ) → k < 8 → ((k < corners dim) → adjacent_of dim w k ≢ Some c) → slot_at t k ≡ slot_at s k
    other_slot k eight apart = ⊎_elim
        (λ below. did.others k below (λ at. apart below (subst (λ v. adjacent_of dim v k ≡ Some c) was_key at)))
        (λ high. did.unused k high eight)
        (cases_lt k (corners dim))

    later_slot : (k : ℕ) (q : CellKey) → k < 8 → adjacent_of dim w k ≡ Some q → (c ≡ q → ⊥) → slot_at t k ≡ slot_at s k
    later_slot k q eight at apart = other_slot k eight (λ below same. apart (some_one (adjacent_of dim w k) c q same at))

    not_passed : (k : ℕ) → k < 8 → ¬ IsPassed c k → slot_at t k ≡ slot_at s k
    not_passed k eight none = other_slot k eight (λ below at. none (record { cell = c; below = below; at = at; is_held = here.1.held; not_later = never_itself p.plan.dir (rank_of dim c) }))

  -- after the first cell of the run
  at_first : (c : CellKey) (n : ℕ) (s t : Stored) → n < corners dim → corner_of c n ≡ w → previous_in_run p.plan w c ≡ None → IsFirstRecord m w s → CellChanged m c n s t → IsAfter c t
  at_first c n s t low corner none _ visit =
      let run = here c n s t low corner visit in
      let first : IsFirst p.plan.dir dim w p.plan.range p.plan.depth c = ends_told (previous_in_run p.plan w c) _ _ (next_is_of_the_run p.plan w c run.0 run.1).1 none in
      record {
        first = s;
        vertex = run.0;
        here = run.1;
        begins = subst (λ v. Begins p start v s) corner (begins p is_plan start tale calls visits_are fit c n s t low visit (subst (λ v. previous_in_run p.plan v c ≡ None) (sym corner) none));
        key = key_kept p is_plan start tale calls visits_are fit c n s t low visit ∙ was_key c n s t low corner visit;
        size = size_kept p is_plan start tale calls visits_are fit c n s t low visit;
        changed = λ k q below at is not_later.
            let q_run = of_run c n s t low corner visit k q below at is in
            own_slot c n s t low corner visit k q below at (same_cell c n s t low corner visit q q_run (⊎_elim (λ l. absurd (not_later l)) (λ r. ⊎_elim (λ l. absurd (first q q_run l)) (λ e. e) r) (compared p.plan.dir (rank_of dim c) (rank_of dim q))));
        stays = not_passed c n s t low corner visit;
      }

  -- and after each next one
  at_next : (b c : CellKey) (n : ℕ) (s t : Stored) → n < corners dim → corner_of c n ≡ w → next_in_run p.plan w b ≡ Some c → IsAfter b s → CellChanged m c n s t → IsAfter c t
  at_next b c n s t low corner next before visit =
      let follows : Follows p.plan.dir dim w p.plan.range p.plan.depth b c = follows_told (next_in_run p.plan w b) c _ _ (next_is_of_the_run p.plan w b before.vertex before.here).0 next in
      record {
        first = before.first;
        vertex = before.vertex;
        here = follows.after;
        begins = before.begins;
        key = key_kept p is_plan start tale calls visits_are fit c n s t low visit ∙ before.key;
        size = size_kept p is_plan start tale calls visits_are fit c n s t low visit ∙ before.size;
        changed = λ k q below at is not_later. by follows k q below at is not_later (compared p.plan.dir (rank_of dim c) (rank_of dim q));
        stays = λ k eight none. not_passed c n s t low corner visit k eight none ∙ before.stays k eight (λ x. none (record { cell = x.cell; below = x.below; at = x.at; is_held = x.is_held; not_later = λ l. x.not_later (in_turn p.plan.dir (rank_of dim b) (rank_of dim c) (rank_of dim x.cell) follows.later l) }));
      }
    where
      by : Follows p.plan.dir dim w p.plan.range p.plan.depth b c → (k : ℕ) (q : CellKey) → k < corners dim → adjacent_of dim w k ≡ Some q → held q → ¬ comes c q → comes c q ⊎ (comes q c ⊎ (rank_of dim c ≡ rank_of dim q)) → E q (slot_at before.first k) (slot_at t k)
      by follows k q below at is not_later (inl l) = absurd (not_later l)
      by follows k q below at is not_later (inr (inl l)) =
          let q_run = of_run c n s t low corner visit k q below at is in
          let apart : c ≡ q → ⊥ = λ e. never_itself p.plan.dir (rank_of dim c) (subst (λ x. comes x c) (sym e) l) in
          subst (E q (slot_at before.first k)) (sym (later_slot c n s t low corner visit k q (below_eight dim k below) at apart)) (before.changed k q below at is (λ h. follows.none_between q q_run h l))
      by follows k q below at is not_later (inr (inr e)) =
          let same = same_cell c n s t low corner visit q (of_run c n s t low corner visit k q below at is) e in
          let as_first : slot_at s k ≡ slot_at before.first k = before.stays k (below_eight dim k below) (λ x. x.not_later (subst (comes b) (same ∙ some_one (adjacent_of dim w k) q x.cell at x.at) follows.later)) in
          subst (λ x. E q x (slot_at t k)) as_first (own_slot c n s t low corner visit k q below at same)

  -- so after the cell at which it was left
  pub after_run : (to : Option CellKey) (t : Stored) (left : WasLeft m w to t) → IsAfter left.cell t
  after_run = along_run p start tale calls fit w IsAfter at_first at_next

  -- all of the run changed a vertex of the output, and nothing else did
  pub record IsDone (t : Stored) : Type 0 where
    pub first : Stored
    pub vertex : IsVertex dim w
    pub begins : Begins p start w first
    pub key : t.key ≡ w
    pub size : length t.slots ≡ length first.slots
    pub changed : (n : ℕ) (q : CellKey) → n < corners dim → adjacent_of dim w n ≡ Some q → held q → E q (slot_at first n) (slot_at t n)
    pub away : (n : ℕ) (q : CellKey) → n < corners dim → adjacent_of dim w n ≡ Some q → ¬ held q → slot_at t n ≡ slot_at first n
    pub outside : (n : ℕ) → n < corners dim → adjacent_of dim w n ≡ None → slot_at t n ≡ slot_at first n
    pub unused : (n : ℕ) → corners dim ≤ n → n < 8 → slot_at t n ≡ slot_at first n

  pub is_done : (t : Stored) → WasLeft m w None t → IsDone t
  is_done t left =
      let after = after_run None t left in
      let last : IsLast p.plan.dir dim w p.plan.range p.plan.depth left.cell = ends_told (next_in_run p.plan w left.cell) _ _ (next_is_of_the_run p.plan w left.cell after.vertex after.here).0 left.next in
      record {
        first = after.first;
        vertex = after.vertex;
        begins = after.begins;
        key = after.key;
        size = after.size;
        changed = λ n q below at is. after.changed n q below at is (last q (run_at after.vertex n q at is));
        away = λ n q below at not_held. after.stays n (below_eight dim n below) (λ x. not_held (subst held (some_one (adjacent_of dim w n) x.cell q x.at at) x.is_held));
        outside = λ n below at. after.stays n (below_eight dim n below) (λ x. none_some x.cell (sym at ∙ x.at));
        unused = λ n high eight. after.stays n eight (λ x. absurd (omega (arith, x.below)));
      }
    where
      none_some : (q : CellKey) → ◌≡◌ {A = Option CellKey} None (Some q) → ⊥
      none_some q e = cc
