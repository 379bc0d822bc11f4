-- The walk of a cell: its enter, what is below it, and its leave.
use Rattle.std.proofs.Common.{◌≡◌, ℕ, ◌<◌, true, false, List, [], ◌∷◌, ◌++◌, Option, Some, None, refl, ap, sym, ◌∙◌, subst, arith, append_assoc}
use Rattle.std.specs.Prelude.{◌||◌}
use Rattle.peano_keys.specs.declared.cell.CellKey.{CellKey}
use Rattle.peano_keys.specs.Cell.{IsCell}
use Rattle.peano_keys.specs.Dim.{corners}
use Rattle.peano_keys.specs.Vertex.{corner_of}
use Rattle.peano_records.specs.Tells.{corner_at}
use Rattle.peano_keys.specs.Grid.{has_cell}
use Rattle.peano_records.specs.declared.view.CellView.{CellView}
use Rattle.vertex_stacks.specs.declared.kind.Kind.{Kind}
use Rattle.sweep_visits.specs.Plan.{dim_of, is_cell_in, is_held, is_visited}
use Rattle.sweep_visits.specs.Visits.{Visit, enter, leave}
use Rattle.tree_automaton.specs.declared.decide.Course.{Course}
use Rattle.tree_automaton.specs.TreeLists.{TreeLists}
use Rattle.tree_automaton.specs.Sweep.{TreeSweep, cell_visits, flag_in, served_by}
use Rattle.tree_automaton.specs.Promises.{Keeps, MayEnter, MayLeave, Meaning}
use Rattle.tree_automaton.specs.Story.{Call, Story, with_calls}
use Rattle.tree_automaton.specs.Moments.{IsDuring, IsStoreOf}
use Rattle.tree_automaton.specs.Decisions.{Decides, IsCourse}
use Rattle.tree_automaton.specs.Views.{CarriesFrom, ParentFits, ViewFits, value_at_home}
use Rattle.tree_automaton.specs.Visits.{CornerTaken, EnterAsks, EnterGives, LeaveAsks, LeaveGives, ViewTaken, IsSameTree, left_with}
use Rattle.tree_automaton.specs.Sweeps.{BelowAsks, CarriesOfParent, ParentWasEntered, WasEntered, IsEntered, IsFor, VisitsGive, WalkAsks, visits_below}
use Rattle.tree_automaton.proofs.Stored.{and_both}
use Rattle.tree_automaton.proofs.Decided.{sweep_plan}
use Rattle.tree_automaton.proofs.Entered.{decides}
use Rattle.tree_automaton.proofs.Promised.{will_set, enter_fits, leave_fits, may_enter, may_leave}
use Rattle.tree_automaton.proofs.Visited.{visits_none, visits_some}
use Rattle.tree_automaton.proofs.Chains.{entered_during, entered_with, during_next, gives_call, gives_join, gives_none}

-- the course of a store is that of the sweep
pub course_is : (p : TreeSweep) (s : TreeLists) (kind : Kind) (course : Course) → IsStoreOf p s → served_by kind ≡ p.serves → course ≡ record { dim = s.lanes.dim; depth = s.depth; range = s.range; dir = s.dir; serves = served_by kind } → IsCourse p course
course_is p s kind course of_ served is = subst (IsCourse p) (sym is) (record { dim = sym of_.dim; depth = sym of_.depth; range = sym of_.range; dir = sym of_.dir; serves = sym served })

-- a store that stays of its tree stays that of a sweep
pub still_of : (p : TreeSweep) (s t : TreeLists) → IsStoreOf p s → IsSameTree s t → IsStoreOf p t
still_of p s t of_ same = record { dim = same.dim ∙ of_.dim; depth = same.depth ∙ of_.depth; range = same.range ∙ of_.range; dir = same.dir ∙ of_.dir; tree = same.tree ∙ of_.tree }

module _ (m : Story) (made more : List Visit) (meaning : Meaning) (parent : Option CellView) (c : CellKey) (kind : Kind) (s : TreeLists) (asks : WalkAsks m meaning made more parent c kind s) where
  -- a cell that is not held is not visited
  pub not_held : {A : Type 0} (entered left : A → CellView → CellView → A → Type 0) (x : A) → is_held m.sweep.plan c ≡ false → VisitsGive entered left m made (cell_visits m.sweep.plan c) more s x x
  not_held entered left x out =
      let none = visits_none m.sweep.plan c out in
      subst (λ vs. VisitsGive entered left m made vs more s x x) (sym none) (gives_none entered left m made more s x asks.before.of (during_next m made _ more s (ap (λ vs. vs ++ more) none) asks.during))

  module _ (cell : IsCell s.lanes.dim c) (held : is_held m.sweep.plan c ≡ true) where
    pub there : is_visited m.sweep.plan c ≡ true
    there = and_both (is_held m.sweep.plan c) (is_cell_in m.sweep.plan.old c || has_cell m.sweep.plan.new c) held asks.cell

    pub own_cell : IsCell (dim_of m.sweep.plan) c
    own_cell = subst (λ d. IsCell d c) asks.before.of.dim cell

    -- the visits after the enter
    abbrev pub after_enter : List Visit
    after_enter = visits_below m.sweep.plan c ++ leave c ∷ more

    abbrev pub made_first : List Visit
    made_first = made ++ enter c ∷ []

    own_visits : cell_visits m.sweep.plan c ≡ enter c ∷ (visits_below m.sweep.plan c ++ leave c ∷ [])
    own_visits = visits_some m.sweep.plan c (sweep_plan m.sweep asks.before.sweep) there

    all_next : cell_visits m.sweep.plan c ++ more ≡ enter c ∷ after_enter
    all_next = ap (λ vs. vs ++ more) own_visits ∙ ap (λ vs. enter c ∷ vs) (append_assoc (visits_below m.sweep.plan c) (leave c ∷ []) more)

    pub enter_asks : EnterAsks m made after_enter parent c kind s
    enter_asks = record { before = asks.before; during = during_next m made _ _ s all_next asks.during }

    module _ (t : TreeLists) (v w : CellView) (gives : EnterGives m made after_enter c t v) (from : CarriesFrom s.lanes.dim parent v.carried) (same : IsSameTree s t) (others : w ≡ record v { will = w.will }) (will : w.will ≡ flag_in (Some m.sweep.plan.new) c) (x : CellView) (keeps : Keeps w x) (may : MayEnter meaning.serves meaning.new_grid w x) where
      of_entered : IsStoreOf m.sweep t
      of_entered = still_of m.sweep s t asks.before.of same

      pub key_after : x.key ≡ c
      key_after = keeps.key ∙ (ap (λ y. y.key) others ∙ gives.view.key)

      pub cell_after : IsCell t.lanes.dim x.key
      cell_after = subst (λ k. IsCell t.lanes.dim k) (sym key_after) (subst (λ d. IsCell d c) (sym same.dim) cell)

      -- what the cell carries is of its parent's view, as the visitor left that
      carried_is : (o : Option CellView) → ParentFits m.sweep c o → ParentWasEntered m c o → CarriesFrom s.lanes.dim o v.carried → CarriesOfParent m c w.carried
      carried_is None fits above from below = absurd (omega (arith, fits, below))
      carried_is (Some view) fits above from below = (view, above, ap (λ y. y.carried) others ∙ (from ∙ ap (λ d. value_at_home d view) asks.before.of.dim))

      given_is : IsEntered m c w x
      given_is = record {
        view = will_set m c asks.before.sweep own_cell v w gives.view others will;
        taken = subst (λ y. (n : ℕ) → n < corners (dim_of m.sweep.plan) → CornerTaken m c (corner_of c n) (corner_at y n)) (sym others) gives.view.each;
        carries = carried_is parent asks.before.above asks.above from;
        keeps = keeps;
        may = may_enter m.sweep meaning w x asks.for_sweep may;
      }

      pub fits : ViewFits m.sweep c x
      fits = enter_fits m c asks.before.sweep own_cell meaning w x asks.for_sweep given_is.view keeps may

      abbrev pub first_call : Call
      first_call = entered_with c w x

      abbrev pub first_story : Story
      first_story = with_calls m (first_call ∷ [])

      -- all below the cell can be visited
      pub below_asks : (meaning' : Meaning) → meaning' ≡ meaning → BelowAsks first_story meaning' made_first (leave c ∷ more) x.key x (visits_below m.sweep.plan x.key) kind t
      below_asks meaning' same' = record {
        served = asks.before.served;
        sweep = asks.before.sweep;
        of = of_entered;
        for_sweep = subst (IsFor m.sweep) (sym same') asks.for_sweep;
        view_is = subst (λ k. ViewFits m.sweep k x) (sym key_after) fits;
        entered = subst (λ k. WasEntered first_story k x) (sym key_after) (record { call = first_call; among = record { before = m.calls; after = []; place = refl }; visit = refl; same = refl });
        during = subst (λ k. IsDuring first_story made_first (visits_below m.sweep.plan k ++ leave c ∷ more) t) (sym key_after) (entered_during m c w x made_first after_enter t gives.during);
      }

      module _ {A : Type 0} (entered left : A → CellView → CellView → A → Type 0) (x0 x1 x2 : A) (u : TreeLists) (called : entered x0 w x x1) (below : VisitsGive entered left first_story made_first (visits_below m.sweep.plan x.key) (leave c ∷ more) u x1 x2) (y : CellView) (keeps' : Keeps x y) (may' : MayLeave meaning.serves meaning.new_grid x y) where
        last_fits : ViewFits m.sweep c y
        last_fits = leave_fits m c asks.before.sweep own_cell meaning x y asks.for_sweep fits keeps' may'

        abbrev pub last_story : Story
        last_story = with_calls first_story below.calls

        abbrev pub made_last : List Visit
        made_last = made_first ++ visits_below m.sweep.plan x.key

        pub last_key : y.key ≡ c
        last_key = keeps'.key ∙ key_after

        pub last_cell : IsCell u.lanes.dim y.key
        last_cell = subst (λ k. IsCell u.lanes.dim k) (sym last_key) (subst (λ d. IsCell d c) (asks.before.of.dim ∙ sym below.of.dim) cell)

        -- the cell can be left
        pub leave_asks : LeaveAsks last_story made_last more parent y.key y kind u
        leave_asks = subst (λ k. LeaveAsks last_story made_last more parent k y kind u) (sym last_key) (record {
          before = record { served = asks.before.served; sweep = asks.before.sweep; of = below.of; above = asks.before.above };
          during = below.during;
          fits = last_fits;
        })

        pub walked : (x3 : A) (e : TreeLists) → left x2 x y x3 → IsSameTree u e → LeaveGives last_story made_last more y.key y e → VisitsGive entered left m made (cell_visits m.sweep.plan c) more e x0 x3
        walked x3 e call same' out =
            let own : LeaveGives last_story made_last more c y e = subst (λ k. LeaveGives last_story made_last more k y e) last_key out in
            let start : VisitsGive entered left m made (enter c ∷ []) after_enter t x0 x1 = gives_call entered left m made after_enter first_call t x0 x1 (x1, called, refl) given_is of_entered (entered_during m c w x made_first after_enter t gives.during) in
            let end : VisitsGive entered left last_story made_last (leave c ∷ []) more e x2 x3 = gives_call entered left last_story made_last more (left_with c x y) e x2 x3 (x3, call, refl) (record {
              view = fits;
              entered = record { call = first_call; among = record { before = m.calls; after = below.calls; place = append_assoc m.calls (first_call ∷ []) below.calls }; visit = refl; same = refl };
              keeps = keeps';
              may = may_leave m.sweep meaning x y asks.for_sweep may';
            }) (still_of m.sweep u e below.of same') (own x) in
            let all = gives_join entered left m made (enter c ∷ []) (visits_below m.sweep.plan x.key ++ leave c ∷ []) after_enter more t e x0 x1 x3 start (gives_join entered left first_story made_first (visits_below m.sweep.plan x.key) (leave c ∷ []) (leave c ∷ more) more u e x1 x2 x3 below end) in
            subst (λ vs. VisitsGive entered left m made vs more e x0 x3) (ap (λ k. enter c ∷ (visits_below m.sweep.plan k ++ leave c ∷ [])) key_after ∙ sym own_visits) all

-- what a visitor foresees, from what `foresee` ensures
pub foresees : (m : Story) (made more : List Visit) (parent : Option CellView) (c : CellKey) (kind : Kind) (s : TreeLists) (course : Course) (is : course ≡ record { dim = s.lanes.dim; depth = s.depth; range = s.range; dir = s.dir; serves = served_by kind }) (asks : EnterAsks m made more parent c kind s) (t : TreeLists) (v w : CellView) → EnterGives m made more c t v → (meaning : Meaning) → IsFor m.sweep meaning → (Decides m.sweep course parent v.key → IsFor m.sweep meaning → ViewTaken m v.key v → w.will ≡ flag_in (Some m.sweep.plan.new) v.key) → w.will ≡ flag_in (Some m.sweep.plan.new) c
foresees m made more parent c kind s course is asks t v w gives meaning for_sweep told =
    let key = gives.view.key in
    told (subst (Decides m.sweep course parent) (sym key) (decides m made more parent c kind s course is asks)) for_sweep (subst (λ k. ViewTaken m k v) (sym key) gives.view) ∙ ap (flag_in (Some m.sweep.plan.new)) key
