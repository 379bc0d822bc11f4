-- A core at the beginning of a step opens the field, and has all leaves of the grid.
use Rattle.std.proofs.Common.{◌≡◌, ◌⊎◌, inl, inr, ℕ, zero, suc, ◌<◌, Bool, true, false, not, ◌&&◌, List, [], ◌∷◌, length, refl, sym, ap, subst, ◌∙◌, arith, Option, Some, None}
use Rattle.std.specs.Prelude.{◌||◌, slice_get, flat_map}
use Rattle.std.specs.FinMap as fin
use Rattle.peano_keys.specs.declared.cell.CellKey.{CellKey}
use Rattle.peano_keys.specs.declared.dim.Dim.{Dim}
use Rattle.peano_keys.specs.Cell.{IsCell}
use Rattle.peano_keys.specs.Grid.{Spacetree, has_cell, is_refined, is_leaf}
use Rattle.peano_keys.specs.Field.{States}
use Rattle.peano_curve.specs.declared.order.Direction.{Direction}
use Rattle.peano_curve.specs.Run.{HoldsCell}
use Rattle.solver_api.specs.Step.{IsLeafOf}
use Rattle.curve_cuts.specs.Cuts.{Cuts, range_of, IsCutGrid}
use Rattle.curve_cuts.specs.Enclave.{OwnsLeaf}
use Rattle.curve_cuts.proofs.Apart.{leaf_is_owned}
use Rattle.curve_cuts.proofs.Cuts.{owner_holds}
use Rattle.stack_law.specs.Once.{IsIn as IsAmong}
use Rattle.sweep_visits.specs.Plan.{SweepPlan, IsSweepPlan, is_held}
use Rattle.sweep_visits.specs.Visits.{Visit, enter, leave, visits_of}
use Rattle.sweep_visits.specs.Runs.{turned_round}
use Rattle.sweep_visits.proofs.Tests.{held_told}
use Rattle.sweep_streams.specs.Records.{entered_at, in_grids, IsHeldCell}
use Rattle.sweep_streams.proofs.Records.{each_held_cell_once}
use Rattle.task_core.specs.declared.stop.Leaf.{Leaf}
use Rattle.task_core.specs.declared.stop.Stop.{Stop}
use Rattle.task_core.specs.declared.stop.Stop.TheVariants.{Pass, Compute, Offer}
use Rattle.task_core.specs.declared.event.Sweep.TheVariants.{First}
use Rattle.task_core.specs.Core.{Tree, Core}
use Rattle.task_core.specs.Opening.{Each, IsIn, IsOpeningLeaf, IsOpeningStop, OpensTree, Opens, Covers, CoversAll}
use Rattle.task_core.specs.Visits.{plan_of, leaf_of, EntersWith, IsStopOf, AreStops, BeginsTree, BeginTrees, Begins}
use Rattle.task_core.proofs.Lists.{none_is, some_is}

-- a leaf is a cell of the grid
leaf_there : (g : Spacetree) (c : CellKey) → is_leaf g c ≡ true → has_cell g c ≡ true
leaf_there g c h = first_and (has_cell g c) (not (is_refined g c)) h
  where
    first_and : (a b : Bool) → (a && b) ≡ true → a ≡ true
    first_and true b h = refl
    first_and false b h = h

-- what stands at a place of a list that is long enough
there : {X : Type 0} (xs : List X) (i : ℕ) → i < length xs → (x : X) × (slice_get xs i ≡ Some x)
there [] i h = absurd (omega arith)
there (x ∷ xs) zero h = (x, refl)
there (x ∷ xs) (suc i) h = there xs i (omega arith)

-- a plain sweep of a tree of a grid
pub plain_plan : (k : Cuts) (g : Spacetree) (t : ℕ) (dir : Direction) → IsCutGrid k g → IsSweepPlan (plan_of k g t dir)
plain_plan k g t dir cut = record { depth = cut.deepest; old = (cut.grid, refl); new = cut.grid }

module _ (k : Cuts) (g : Spacetree) (f : States) (t : ℕ) where
  opening_leaf : (c : CellKey) (l : Leaf) → l ≡ leaf_of g f c → IsOpeningLeaf g f l
  opening_leaf c l is = subst (IsOpeningLeaf g f) (sym is) (record { own = refl; sides = refl })

  opening_stop : (v : Visit) (s : Stop) → IsStopOf k g f t v s → IsOpeningStop g f s
  opening_stop (enter c) Pass h = tt
  opening_stop (enter c) (Compute l) h = opening_leaf c l h.1
  opening_stop (enter c) (Offer l) h = opening_leaf c l h.1
  opening_stop (leave c) s h = subst (IsOpeningStop g f) (sym h) tt

  opening_stops : (vs : List Visit) (ss : List Stop) → AreStops k g f t vs ss → Each (IsOpeningStop g f) ss
  opening_stops vs [] h i x at = absurd (none_is x at)
  opening_stops [] (s ∷ ss) h i x at = absurd h
  opening_stops (v ∷ vs) (s ∷ ss) h zero x at = subst (IsOpeningStop g f) (some_is s x at) (opening_stop v s h.0)
  opening_stops (v ∷ vs) (s ∷ ss) h (suc i) x at = opening_stops vs ss h.1 i x at

  -- the stop at the enter of a cell
  record StopsAt (c : CellKey) (ss : List Stop) : Type 0 where
    place : ℕ
    stop : Stop
    at : slice_get ss place ≡ Some stop
    enters : EntersWith k g f t c stop

  found : (c : CellKey) (vs : List Visit) (ss : List Stop) → AreStops k g f t vs ss → IsAmong c (flat_map entered_at vs) → StopsAt c ss
  found c [] ss are among = absurd among
  found c (v ∷ vs) [] are among = absurd are
  found c (enter d ∷ vs) (s ∷ ss) are (inl is) = record { place = 0; stop = s; at = refl; enters = subst (λ q. EntersWith k g f t q s) (sym is) are.0 }
  found c (enter d ∷ vs) (s ∷ ss) are (inr among) = let rest = found c vs ss are.1 among in record { place = suc rest.place; stop = rest.stop; at = rest.at; enters = rest.enters }
  found c (leave d ∷ vs) (s ∷ ss) are among = let rest = found c vs ss are.1 among in record { place = suc rest.place; stop = rest.stop; at = rest.at; enters = rest.enters }

  module _ (cut : IsCutGrid k g) (c : CellKey) (leaf : IsLeafOf g c) (owns : OwnsLeaf k g t c) where
    entered : (dir : Direction) → IsAmong c (flat_map entered_at (visits_of (plan_of k g t dir)))
    entered dir =
        let p : SweepPlan = plan_of k g t dir in
        let held : HoldsCell g.dim k.depth (range_of k t) c = subst (λ d. HoldsCell d k.depth (range_of k t) c) (sym cut.dim) (owner_holds k t c owns.owns) in
        ((each_held_cell_once p (plain_plan k g t dir cut)).0.members c).1 (record { cell = leaf.cell; held = held_told p c held; passes = or_same (has_cell g c) (leaf_there g c leaf.leaf) })
      where
        or_same : (b : Bool) → b ≡ true → (b || b) ≡ true
        or_same true h = refl
        or_same false h = h

    covers_by : (dir : Direction) (w : Tree) → BeginsTree k g f t dir w → (trees : List Tree) → IsIn w trees → StopsAt c w.first → StopsAt c w.second → Covers g f trees c
    covers_by dir w begins trees is a b = by_first a.stop a.at a.enters
      where
        by_second : (l : Leaf) (s : Stop) → slice_get w.second b.place ≡ Some s → EntersWith k g f t c s → EntersWith k g f t c (Offer l) → Covers g f trees c
        by_second l Pass at enters offers = absurd (enters owns)
        by_second l (Compute m) at enters offers = absurd (offers.0.1 enters.0.1)
        by_second l (Offer m) at enters offers = record { leaf = m; key = ap (λ (x : Leaf). x.key) enters.1; tree = w; is = is; stop = inr (b.place, at) }

        by_first : (s : Stop) → slice_get w.first a.place ≡ Some s → EntersWith k g f t c s → Covers g f trees c
        by_first Pass at enters = absurd (enters owns)
        by_first (Compute l) at enters = record { leaf = l; key = ap (λ (x : Leaf). x.key) enters.1; tree = w; is = is; stop = inl (a.place, at) }
        by_first (Offer l) at enters = by_second l b.stop b.at b.enters enters

module _ (k : Cuts) (g : Spacetree) (f : States) (dir : Direction) (c : Core) (begins : Begins k g f dir c) where
  pub opens : Opens g f c
  opens = record {
    sweep = begins.sweep;
    trees = λ t w at. let b = begins.trees t w at in record {
      first = opening_stops k g f t (visits_of (plan_of k g t dir)) w.first b.first;
      second = opening_stops k g f t (visits_of (plan_of k g t (turned_round dir))) w.second b.second;
      made = b.made;
      tasks = b.tasks;
    };
    answers = begins.answers;
  }

  pub covers : IsCutGrid k g → CoversAll g f c
  covers cut q leaf =
      let owner = leaf_is_owned k g q cut (subst (λ d. IsCell d q) cut.dim leaf.cell) leaf.leaf in
      let t : ℕ = owner.0 in
      let w = there c.trees t (subst (λ n. t < n) (sym begins.count) owner.1.owns.tree) in
      let b = begins.trees t w.0 w.1 in
      covers_by k g f t cut q leaf owner.1 dir w.0 b c.trees (t, w.1)
      (found k g f t q (visits_of (plan_of k g t dir)) w.0.first b.first (entered k g f t cut q leaf owner.1 dir))
      (found k g f t q (visits_of (plan_of k g t (turned_round dir))) w.0.second b.second (entered k g f t cut q leaf owner.1 (turned_round dir)))

-- a core of such trees
pub begun_core : (k : Cuts) (g : Spacetree) (f : States) (dir : Direction) (c : Core) (ts : List Tree) → c.sweep ≡ First → c.trees ≡ ts → length ts ≡ k.trees → BeginTrees k g f dir ts → c.answers ≡ fin.empty → Begins k g f dir c
begun_core k g f dir c ts sweep same count begin answers = record { sweep = sweep; count = ap length same ∙ count; trees = subst (BeginTrees k g f dir) (sym same) begin; answers = answers }
