-- A core at the beginning of a step opens the field, and has all leaves of the grid.
use Rattle.std.proofs.Common.{◌≡◌, inl, inr, ℕ, zero, suc, ◌<◌, Bool, true, false, not, ◌&&◌, List, [], ◌∷◌, refl, sym, ap, subst, Some}
use Rattle.std.specs.Prelude.{◌||◌, slice_get, flat_map}
use Rattle.peano_keys.specs.declared.cell.CellKey.{CellKey}
use Rattle.peano_keys.specs.Cell.{IsCell}
use Rattle.peano_keys.specs.Grid.{Spacetree, has_cell, is_refined}
use Rattle.peano_keys.specs.Field.{States}
use Rattle.peano_curve.specs.declared.order.Direction.{Direction}
use Rattle.peano_curve.specs.Run.{HoldsCell}
use Rattle.solver_api.specs.Step.{IsLeafOf}
use Rattle.curve_cuts.specs.Cuts.{Cuts, range_of, IsCutGrid}
use Rattle.curve_cuts.specs.Enclave.{OwnsLeaf}
use Rattle.curve_cuts.proofs.Apart.{leaf_is_owned}
use Rattle.curve_cuts.proofs.Cuts.{owner_holds}
use Rattle.stack_law.specs.Once.{IsIn as IsAmong}
use Rattle.sweep_visits.specs.Plan.{SweepPlan}
use Rattle.sweep_visits.specs.Visits.{Visit, enter, leave, visits_of}
use Rattle.sweep_visits.specs.Runs.{turned_round}
use Rattle.sweep_visits.proofs.Tests.{held_told}
use Rattle.sweep_streams.specs.Records.{entered_at}
use Rattle.sweep_streams.proofs.Records.{each_held_cell_once}
use Rattle.task_core.specs.declared.stop.Leaf.{Leaf}
use Rattle.task_core.specs.declared.stop.Stop.{Stop}
use Rattle.task_core.specs.declared.stop.Stop.TheVariants.{Pass, Compute, Offer}
use Rattle.task_core.specs.Core.{Tree, Core}
use Rattle.task_core.specs.Opening.{Each, IsIn, IsOpeningLeaf, IsOpeningStop, Opens, Covers, CoversAll}
use Rattle.task_core.specs.Visits.{plan_of, leaf_of, EntersWith, IsStopOf, AreStops, BeginsTree, Begins}
use Rattle.task_core.proofs.Lists.{none_is, some_is}
use Rattle.running_threads.proofs.Lists.{there}

first_true : (a b : Bool) → (a && b) ≡ true → a ≡ true
first_true true b h = refl
first_true false b h = h

same_or : (b : Bool) → b ≡ true → (b || b) ≡ true
same_or true h = refl
same_or false h = h

module _ (k : Cuts) (g : Spacetree) (f : States) (t : ℕ) where
  opening_leaf : (c : CellKey) (l : Leaf) → l ≡ leaf_of g f c → IsOpeningLeaf g f l
  opening_leaf c l is = subst (IsOpeningLeaf g f) (sym is) (record { own = refl; sides = refl })

  opening_stop : (v : Visit) (s : Stop) → IsStopOf k g f t v s → IsOpeningStop g f s
  opening_stop (enter c) Pass h = tt
  opening_stop (enter c) (Compute l) h = opening_leaf c l h.1
  opening_stop (enter c) (Offer l) h = opening_leaf c l h.1
  opening_stop (leave c) s h = subst (IsOpeningStop g f) (sym h) tt

  pub opening_stops : (vs : List Visit) (ss : List Stop) → AreStops k g f t vs ss → Each (IsOpeningStop g f) ss
  opening_stops vs [] are i x at = absurd (none_is x at)
  opening_stops [] (s ∷ ss) are i x at = absurd are
  opening_stops (v ∷ vs) (s ∷ ss) are zero x at = subst (IsOpeningStop g f) (some_is s x at) (opening_stop v s are.0)
  opening_stops (v ∷ vs) (s ∷ ss) are (suc i) x at = opening_stops vs ss are.1 i x at

  -- the stop at the enter of a cell
  record StopsAt (c : CellKey) (ss : List Stop) : Type 0 where
    place : ℕ
    stop : Stop
    at : slice_get ss place ≡ Some stop
    enters : EntersWith k g f t c stop

  one_more : (c : CellKey) (s : Stop) (ss : List Stop) → StopsAt c ss → StopsAt c (s ∷ ss)
  one_more c s ss x = record { place = suc x.place; stop = x.stop; at = x.at; enters = x.enters }

  found : (c : CellKey) (vs : List Visit) (ss : List Stop) → AreStops k g f t vs ss → IsAmong c (flat_map entered_at vs) → StopsAt c ss
  found c [] ss are among = absurd among
  found c (v ∷ vs) [] are among = absurd are
  found c (enter d ∷ vs) (s ∷ ss) are (inl is) = record { place = 0; stop = s; at = refl; enters = subst (λ q. EntersWith k g f t q s) (sym is) are.0 }
  found c (enter d ∷ vs) (s ∷ ss) are (inr among) = one_more c s ss (found c vs ss are.1 among)
  found c (leave d ∷ vs) (s ∷ ss) are among = one_more c s ss (found c vs ss are.1 among)

  module _ (cut : IsCutGrid k g) (c : CellKey) (leaf : IsLeafOf g c) (owns : OwnsLeaf k g t c) where
    -- each sweep of its owner enters a leaf
    entered : (dir : Direction) (ss : List Stop) → AreStops k g f t (visits_of (plan_of k g t dir)) ss → StopsAt c ss
    entered dir ss are =
        let p : SweepPlan = plan_of k g t dir in
        let held : HoldsCell g.dim k.depth (range_of k t) c = subst (λ d. HoldsCell d k.depth (range_of k t) c) (sym cut.dim) (owner_holds k t c owns.owns) in
        found c (visits_of p) ss are
        (((each_held_cell_once p (record { depth = cut.deepest; old = (cut.grid, refl); new = cut.grid })).0.members c).1
        (record { cell = leaf.cell; held = held_told p c held; passes = same_or (has_cell g c) (first_true (has_cell g c) (not (is_refined g c)) leaf.leaf) }))

    pub covered : (dir : Direction) (w : Tree) → BeginsTree k g f t dir w → (trees : List Tree) → IsIn w trees → Covers g f trees c
    covered dir w begins trees is = by_first a.stop a.at a.enters b.stop b.at b.enters
      where
        a : StopsAt c w.first
        a = entered dir w.first begins.first

        b : StopsAt c w.second
        b = entered (turned_round dir) w.second begins.second

        by_first : (s : Stop) → slice_get w.first a.place ≡ Some s → EntersWith k g f t c s → (r : Stop) → slice_get w.second b.place ≡ Some r → EntersWith k g f t c r → Covers g f trees c
        by_first Pass at enters r back again = absurd (enters owns)
        by_first (Compute l) at enters r back again = record { leaf = l; key = ap (λ (x : Leaf). x.key) enters.1; tree = w; is = is; stop = inl (a.place, at) }
        by_first (Offer l) at enters Pass back again = absurd (again owns)
        by_first (Offer l) at enters (Compute m) back again = absurd (enters.0.1 again.0.1)
        by_first (Offer l) at enters (Offer m) back again = record { leaf = m; key = ap (λ (x : Leaf). x.key) again.1; tree = w; is = is; stop = inr (b.place, back) }

module _ (k : Cuts) (g : Spacetree) (f : States) (dir : Direction) (c : Core) (begins : Begins k g f dir c) where
  pub opens : Opens g f c
  opens = record {
    sweep = begins.sweep;
    trees = λ t w at. let b = begins.trees t w at in record {
      first = opening_stops k g f t (visits_of (plan_of k g t dir)) w.first b.first;
      second = opening_stops k g f t (visits_of (plan_of k g t (turned_round dir))) w.second b.second;
      made = b.made;
      tasks = b.tasks;
    };
    answers = begins.answers;
  }

  pub covers : IsCutGrid k g → CoversAll g f c
  covers cut q leaf =
      let owner = leaf_is_owned k g q cut (subst (λ d. IsCell d q) cut.dim leaf.cell) leaf.leaf in
      let w = there c.trees owner.0 (subst (λ n. owner.0 < n) (sym begins.count) owner.1.owns.tree) in
      covered k g f owner.0 cut q leaf owner.1 dir w.0 (begins.trees owner.0 w.0 w.1) c.trees (owner.0, w.1)
